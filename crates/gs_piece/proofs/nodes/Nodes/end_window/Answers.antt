use Rattle.std.proofs.Common.{◌≡◌, ◌+◌, ◌<◌, ◌≤◌, ℕ, subst, arith, true, false, length, slice_index_or, rules}
use Rattle.gs_piece.specs.Nodes.{AreWith, Ending}
use Rattle.gs_piece.proofs.Turns.{nodes_ended_all, nodes_ending, nodes_idle}
use Rattle.gs_piece.proofs.nodes.Nodes.end_window.Goals as goal

pub loop-i-init : goal.loop-i-init
loop-i-init c = record {
  inside = omega arith;
  nodes = λ net course by a b m t all is. nodes_ending net course by a b m t c.args.self.now all is;
}

pub rest-requires : goal.rest-requires
rest-requires c =
    let r = c.requires in
    let found : (c.loop-i.from ≤ c.in-Some.i) × (c.in-Some.i < length c.loop-i.self.sends.items) × (slice_index_or c.loop-i.self.sends.items c.in-Some.i false ≡ true) × ((k : ℕ) → c.loop-i.from ≤ k → k < c.in-Some.i → slice_index_or c.loop-i.self.sends.items k false ≡ false) = search rules in
    let is = c.loop-i.invariant.nodes r.0 r.1 r.2 r.3 r.4 r.5 r.6 r.7 r.8 in
    let long = is.sends in
    let less = found.1 in
    (r.0, r.1, r.3, r.4, r.5, r.6, omega (arith, long, less), nodes_idle r.0 r.1 r.3 r.4 r.5 r.6 c.loop-i.from c.in-Some.i c.loop-i.self found.0 (λ k low high inside. found.3 k low high) is)

pub loop-i-preserved : goal.loop-i-preserved
loop-i-preserved c =
    let found : (c.loop-i.from ≤ c.in-Some.i) × (c.in-Some.i < length c.loop-i.self.sends.items) × (slice_index_or c.loop-i.self.sends.items c.in-Some.i false ≡ true) × ((k : ℕ) → c.loop-i.from ≤ k → k < c.in-Some.i → slice_index_or c.loop-i.self.sends.items k false ≡ false) = search rules in
    let less = found.1 in
    let count = c.rest.ensures.count in
    record {
      inside = omega (arith, less, count);
      nodes = λ net course by a b m t all is.
          let here = c.loop-i.invariant.nodes net course by a b m t all is in
          let long = here.sends in
          subst (λ n. AreWith net.nodes a b (Ending net course a m t n) c.rest.new.self) (omega arith)
          (c.rest.ensures.rests net course a b m t (omega (arith, long, less))
          (nodes_idle net course a b m t c.loop-i.from c.in-Some.i c.loop-i.self found.0 (λ k low high inside. found.3 k low high) here));
    }

pub returns : goal.returns
returns c = λ net course by a b m t all is.
    let none : (k : ℕ) → c.loop-i.from ≤ k → k < length c.loop-i.self.sends.items → slice_index_or c.loop-i.self.sends.items k false ≡ false = search rules in
    let here = c.loop-i.invariant.nodes net course by a b m t all is in
    let long = here.sends in
    let end : ℕ = c.loop-i.from + b in
    nodes_ended_all net course a b m t end c.loop-i.self (omega arith)
    (nodes_idle net course a b m t c.loop-i.from end c.loop-i.self (omega arith) (λ k low high inside. none k low (omega (arith, inside, long))) here)
