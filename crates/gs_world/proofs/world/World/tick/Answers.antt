use Rattle.std.proofs.Common.{◌<◌, ◌∙◌, ap, arith}
use Rattle.gs_planfile.specs.declared.text.PlanText.{PlanText}
use Rattle.gs_topo.specs.Graph.{Graph}
use Rattle.gs_run.specs.Nets.{net_of}
use Rattle.gs_world.proofs.Advancing.{few_nodes}
use Rattle.gs_world.proofs.Placing.{KeepsTick, count_before, on_err, room_inside, tick_has_no_fault, ticked_effect, ticked_inside, unchanged_inside, unchanged_view}
use Rattle.gs_world.proofs.world.World.tick.Goals as goal

pub index_mut-member-requires : goal.index_mut-member-requires
index_mut-member-requires c =
    let nodes = c.nodes.ensures.value ∙ ap (λ (g : Graph). g.nodes) c.topo.ensures in
    let room = room_inside c.self.inside c.self.invariant in
    omega (arith, nodes, room)

pub tick-requires : goal.tick-requires
tick-requires c = λ room.
    let nodes = c.nodes.ensures.value ∙ ap (λ (g : Graph). g.nodes) c.topo.ensures in
    let h : c.args.v < (net_of c.self.inside.plan.now).nodes = omega (arith, nodes) in
    tick_has_no_fault c.self.inside c.args.v c.index_mut-member.result.now c.self.invariant h
    c.index_mut-member.ensures.value room

pub invariant_of-self : goal.invariant_of-self
invariant_of-self c =
    let nodes = c.nodes.ensures.value ∙ ap (λ (g : Graph). g.nodes) c.topo.ensures in
    let h : c.args.v < (net_of c.self.inside.plan.now).nodes = omega (arith, nodes) in
    unchanged_inside c.self.inside c.args.v c.index_mut-member.result.now c.tick.new.self c.self.invariant h
    c.index_mut-member.ensures.value c.tick.ensures.told c.in_err-tick.ensures.err

pub returns-in_err-tick-clause-unchanged : goal.returns-in_err-tick-clause-unchanged
returns-in_err-tick-clause-unchanged c =
    on_err _ c.from_residual.result
    (unchanged_view c.self.inside c.args.v c.index_mut-member.result.now c.tick.new.self c.index_mut-member.ensures.value c.in_err-tick.ensures.err ∙ c.self.view_is)

pub counted-self-inside-requires-clause-counts : goal.counted-self-inside-requires-clause-counts
counted-self-inside-requires-clause-counts c =
    let nodes = c.nodes.ensures.value ∙ ap (λ (g : Graph). g.nodes) c.topo.ensures in
    let h : c.args.v < (net_of c.self.inside.plan.now).nodes = omega (arith, nodes) in
    let count = count_before c.self.inside c.args.v c.index_mut-member.result.now c.self.invariant h c.index_mut-member.ensures.value in
    rw c.is_fast-was.ensures count.0

pub counted-self-inside-requires-clause-room : goal.counted-self-inside-requires-clause-room
counted-self-inside-requires-clause-room c =
    let nodes = c.nodes.ensures.value ∙ ap (λ (g : Graph). g.nodes) c.topo.ensures in
    let h : c.args.v < (net_of c.self.inside.plan.now).nodes = omega (arith, nodes) in
    let count = count_before c.self.inside c.args.v c.index_mut-member.result.now c.self.invariant h c.index_mut-member.ensures.value in
    let most = count.1 in
    let few = few_nodes c.self.inside in
    omega (arith, most, few)

pub invariant_of-self-2 : goal.invariant_of-self-2
invariant_of-self-2 c =
    let a = c.self.inside in
    let nodes = c.nodes.ensures.value ∙ ap (λ (g : Graph). g.nodes) c.topo.ensures in
    let h : c.args.v < (net_of a.plan.now).nodes = omega (arith, nodes) in
    let text = ap (λ (t : PlanText). t.tick) c.text.ensures in
    let low = c.from.ensures in
    let gap = c.from-2.ensures in
    let by = c.with_due-self-inside.ensures.by in
    let keeps : KeepsTick a c.index_mut-member.result.now c.tick.new.self c.with_due-self-inside.result c.counted-self-inside.result = record {
      sooner = c.with_due-self-inside.ensures.sooner;
      by = omega (arith, by, text, low, gap);
      same = c.with_due-self-inside.ensures.same;
      counted = rw (← c.is_fast-was.ensures, ← c.is_fast-is.ensures) c.counted-self-inside.ensures;
    } in
    ticked_inside a c.args.v c.index_mut-member.result.now c.tick.new.self c.with_due-self-inside.result
    c.counted-self-inside.result c.self.invariant h c.index_mut-member.ensures.value c.tick.ensures.told
    c.in_ok-tick.ensures.ok keeps

pub returns-clause-effect : goal.returns-clause-effect
returns-clause-effect c =
    let nodes = c.nodes.ensures.value ∙ ap (λ (g : Graph). g.nodes) c.topo.ensures in
    let h : c.args.v < (net_of c.self.inside.plan.now).nodes = omega (arith, nodes) in
    ticked_effect c.self.inside c.args.self.now c.args.v c.index_mut-member.result.now c.tick.new.self
    c.with_due-self-inside.result c.counted-self-inside.result c.self.invariant
    c.self.view_is h c.index_mut-member.ensures.value c.in_ok-tick.ensures.ok
