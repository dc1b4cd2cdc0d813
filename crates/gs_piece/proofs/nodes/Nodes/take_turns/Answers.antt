use Rattle.std.proofs.Common.{◌+◌, ◌<◌, ◌≤◌, ℕ, arith, sym, subst, refl, ◌∙◌, length, slice_index, rules}
use Rattle.gs_run.specs.Nets.{net_of}
use Rattle.gs_run.proofs.PlanNumbers.{plan_has_numbers}
use Rattle.gs_calendar.specs.Course.{course_of}
use Rattle.gs_seat.proofs.Reading.{course_is}
use Rattle.gs_piece.specs.Nodes.{AreNodes, midway, none_handed}
use Rattle.gs_piece.proofs.Turns.{midway_left, nodes_as, nodes_ended, nodes_slept}
use Rattle.gs_piece.proofs.nodes.Nodes.take_turns.Goals as goal

pub loop-i-init : goal.loop-i-init
loop-i-init c = record {
  inside = omega arith;
  count = refl;
  nodes = λ a b m window is. nodes_as (net_of c.args.plan.now) (course_of c.args.script.now) (λ v x. m) a b m (λ i. c.args.t) _ c.args.self.now
      (λ i h. sym (midway_left c.args.t 0 i (omega arith))) is;
}

pub turn-requires-clause-nodes : goal.turn-requires-clause-nodes
turn-requires-clause-nodes c =
    let net = net_of c.args.plan.now in
    let course = course_of c.args.script.now in
    let r = c.requires.nodes in
    let found : (c.loop-i.from ≤ c.in-Some.i) × (c.in-Some.i < length c.loop-i.self.wake.items) × ((k : ℕ) → c.loop-i.from ≤ k → k < c.in-Some.i → c.args.t + 1 < slice_index c.loop-i.self.wake.items k) = search rules in
    let is = c.loop-i.invariant.nodes r.0 r.1 r.2 r.3 r.4 in
    let n = is.wake in
    let less = found.1 in
    (r.0, r.1, r.2, r.3, omega (arith, n, less), nodes_slept net course r.0 r.1 r.2 c.args.t c.loop-i.from c.in-Some.i c.loop-i.self (plan_has_numbers c.args.plan.now) (course_is c.args.plan.now c.args.script.now c.requires.read) r.3 found.0 (λ k low high inside. let later = found.2 k low high in omega (arith, later)) is)

pub loop-i-preserved : goal.loop-i-preserved
loop-i-preserved c =
    let net = net_of c.args.plan.now in
    let course = course_of c.args.script.now in
    let found : (c.loop-i.from ≤ c.in-Some.i) × (c.in-Some.i < length c.loop-i.self.wake.items) × ((k : ℕ) → c.loop-i.from ≤ k → k < c.in-Some.i → c.args.t + 1 < slice_index c.loop-i.self.wake.items k) = search rules in
    let behind = found.1 in
    let long = c.turn.ensures.count in
    record {
      inside = omega (arith, behind, long);
      count = c.turn.ensures.count ∙ c.loop-i.invariant.count;
      nodes = λ a b m window begun.
          let is = c.loop-i.invariant.nodes a b m window begun in
          let n = is.wake in
          let less = found.1 in
          subst (λ x. AreNodes net course (none_handed m) a b m (midway c.args.t x) c.turn.new.self) (omega arith)
          (c.turn.ensures.nodes a b m window (omega (arith, n, less))
          (nodes_slept net course a b m c.args.t c.loop-i.from c.in-Some.i c.loop-i.self (plan_has_numbers c.args.plan.now) (course_is c.args.plan.now c.args.script.now c.requires.read) window found.0 (λ k low high inside. let later = found.2 k low high in omega (arith, later)) is));
    }

pub returns : goal.returns
returns c = λ a b m window begun.
    let net = net_of c.args.plan.now in
    let course = course_of c.args.script.now in
    let none : (k : ℕ) → c.loop-i.from ≤ k → k < length c.loop-i.self.wake.items → c.args.t + 1 < slice_index c.loop-i.self.wake.items k = search rules in
    let is = c.loop-i.invariant.nodes a b m window begun in
    let n = is.wake in
    nodes_ended net course a b m c.args.t c.loop-i.from c.loop-i.self (plan_has_numbers c.args.plan.now) (course_is c.args.plan.now c.args.script.now c.requires.read) window (λ k low high. let later = none k low high in omega (arith, later)) is
