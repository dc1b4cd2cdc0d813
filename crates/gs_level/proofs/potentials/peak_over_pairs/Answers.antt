use Rattle.std.proofs.Common.{◌≡◌, ℕ, fold, length, ◌∙◌, ap, arith}
use Rattle.gs_topo.specs.Graph.{Graph}
use Rattle.gs_plan.specs.Plans.{text_of, graph_of}
use Rattle.gs_level.specs.inside.Running.{raised}
use Rattle.gs_plan.specs.Weights.{weight_in}
use Rattle.gs_level.proofs.Pairs.{one_more_node, pairs_below, pass_over_pairs}
use Rattle.gs_level.proofs.potentials.peak_over_pairs.Goals as goal

pub loop-v-preserved : goal.loop-v-preserved
loop-v-preserved c =
    let more = one_more_node (weight_in (text_of c.args.plan.now) (graph_of c.args.plan.now)) c.args.clocks.now c.args.s (record { value = 0; v = 0; w = 0 }) (length c.args.clocks.now) c.loop-v.v in
    rw (more, ← c.loop-v.invariant) c.best_from-best.ensures

pub returns : goal.returns
returns c =
    let weight : ℕ → ℕ → ℕ = weight_in (text_of c.args.plan.now) (graph_of c.args.plan.now) in
    let n : ℕ = length c.args.clocks.now in
    let nodes = ap (λ (g : Graph). g.nodes) c.topo.ensures in
    let end : c.loop-v.v ≡ n = omega (arith, nodes) in
    c.loop-v.invariant
    ∙ ap (λ (v : ℕ). fold (raised weight c.args.clocks.now c.args.s) (record { value = 0; v = 0; w = 0 }) (pairs_below n v)) end
    ∙ pass_over_pairs weight c.args.clocks.now c.args.s
