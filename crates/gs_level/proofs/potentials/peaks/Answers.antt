use Rattle.std.proofs.Common.{◌≡◌, arith, ap}
use Rattle.gs_topo.proofs.Building.{map_range_more}
use Rattle.gs_planfile.specs.declared.text.PlanText.{PlanText}
use Rattle.gs_plan.specs.Plans.{text_of, graph_of}
use Rattle.gs_level.specs.Peaks.{peak_of}
use Rattle.gs_plan.specs.Weights.{weight_in}
use Rattle.gs_level.proofs.potentials.peaks.Goals as goal

pub loop-s-preserved : goal.loop-s-preserved
loop-s-preserved c =
    let more = map_range_more (peak_of (weight_in (text_of c.args.plan.now) (graph_of c.args.plan.now)) c.args.clocks.now) c.loop-s.s in
    rw (more, ← c.loop-s.invariant, ← c.potential.ensures) c.in_ok-push.ensures.items

pub returns : goal.returns
returns c =
    let levels = ap (λ (t : PlanText). t.levels) c.text.ensures in
    let end : c.loop-s.s ≡ (text_of c.args.plan.now).levels = omega (arith, levels) in
    let more = map_range_more (peak_of (weight_in (text_of c.args.plan.now) (graph_of c.args.plan.now)) c.args.clocks.now) (text_of c.args.plan.now).levels in
    let last = rw c.text.ensures at c.potential-2.ensures in
    let before = rw end at c.loop-s.invariant in
    rw (c.from_vec.ensures, more, ← before, ← last) c.in_ok-push-2.ensures.items
