use Rattle.std.proofs.Common.{◌≤◌, ◌∙◌, ℕ, List, ap, arith, length, subst, sym}
use Rattle.gs_skew.specs.Skews.{neighbour_skew}
use Rattle.gs_lookout.proofs.Growing.{within_near}
use Rattle.gs_lookout.proofs.apart.Link.is_at_most.Goals as goal

pub returns : goal.returns
returns c = λ same.
    let outside = c.if-self-edges.false in
    let long = ap (λ (edges : List (ℕ × ℕ)). length edges) (c.edges-2.ensures.value ∙ sym c.edges.ensures.value) in
    subst (λ (edges : List (ℕ × ℕ)). c.args.self.now.most ≤ neighbour_skew edges c.args.clocks.now) c.edges-2.ensures.value
    (within_near c.edges-2.result.now c.args.clocks.now c.args.self.now.edge c.skew_between.result c.args.self.now.most (0, 0)
    (omega (arith, outside, long)) c.skew_between.ensures same)
