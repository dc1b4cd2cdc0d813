use Rattle.std.proofs.Common.{◌<◌, ◌≤◌, arith, sym, subst, ℕ}
use Rattle.gs_skew.proofs.Greatest.{ends_have_clocks, near_within}
use Rattle.gs_skew.specs.Skews.{neighbour_skew}
use Rattle.gs_level.proofs.tally.Tally.near_seen.Goals as goal

pub returns-then-global-self : goal.returns-then-global-self
returns-then-global-self c =
    let ends = ends_have_clocks c.args.topo.now c.args.clocks.now c.requires.graph c.requires.count in
    let within = near_within c.args.topo.now.edges c.args.clocks.now ends.0 ends.1 in
    let small = c.if-global-self.true in
    record {
      bound = subst (λ (skew : ℕ). neighbour_skew c.args.topo.now.edges c.args.clocks.now ≤ skew) (sym c.requires.global) within;
      exact = λ above. omega (arith, above, small);
    }
