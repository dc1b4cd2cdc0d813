use Rattle.std.proofs.Common.{◌≡◌, ◌<◌, ◌∙◌, ap, arith, sym, subst, length, List, Option, None, Some, slice_index, ℕ}
use Rattle.gs_topo.specs.Graph.{Graph, neighbours_of}
use Rattle.gs_world.specs.inside.Late.{stale_in}
use Rattle.gs_run.specs.Net.{neighbours}
use Rattle.gs_run.specs.Nets.{net_of}
use Rattle.gs_world.specs.Placed.{Placed}
use Rattle.gs_world.specs.inside.Seen.{world_in}
use Rattle.gs_run.specs.declared.refused.Refused.{Refused}
use Rattle.gs_run.specs.declared.refused.Refused.TheVariants.{Stale}
use Rattle.gs_world.proofs.Advancing.{few_nodes, link_inside, no_place, none_stale, some_stale, stale_link, stale_node, stale_read}
use Rattle.gs_world.proofs.world.World.stale.Goals as goal

pub returns-in_err-v : goal.returns-in_err-v
returns-in_err-v c =
    let a = c.self.inside in
    let none =
    stale_read a c.text.result.now c.deref.result.now c.first_stale.result c.text.ensures c.deref.ensures.value
    c.first_stale.ensures
    ∙ c.in_err-v.was in
    c.from_residual.ensures
    ∙ sym
    (subst (λ (p : Placed). stale_in (net_of p.plan) p.world ≡ None) c.self.view_is (none_stale (net_of a.plan.now) (world_in a) none))

pub returns-in_err-i : goal.returns-in_err-i
returns-in_err-i c =
    let a = c.self.inside in
    let at =
    stale_read a c.text.result.now c.deref.result.now c.first_stale.result c.text.ensures c.deref.ensures.value
    c.first_stale.ensures
    ∙ c.in_ok-v.was in
    let h = stale_node a c.in_ok-v.v c.self.invariant at in
    let link =
    stale_link a c.text.result.now c.in_ok-v.v c.index.result.now c.deref-2.result.now c.first_old.result
    c.self.invariant h c.text.ensures c.index.ensures c.deref-2.ensures.value c.first_old.ensures
    ∙ c.in_err-i.was in
    c.from_residual-in_err-i.ensures
    ∙ sym
    (subst (λ (p : Placed). stale_in (net_of p.plan) p.world ≡ None) c.self.view_is (no_place (net_of a.plan.now) (world_in a) c.in_ok-v.v at link))

pub overflow_cast-v : goal.overflow_cast-v
overflow_cast-v c =
    let a = c.self.inside in
    let at =
    stale_read a c.text.result.now c.deref.result.now c.first_stale.result c.text.ensures c.deref.ensures.value
    c.first_stale.ensures
    ∙ c.in_ok-v.was in
    let h = stale_node a c.in_ok-v.v c.self.invariant at in
    let few = few_nodes a in
    omega (arith, h, few)

pub neighbours-requires : goal.neighbours-requires
neighbours-requires c =
    let a = c.self.inside in
    let at =
    stale_read a c.text.result.now c.deref.result.now c.first_stale.result c.text.ensures c.deref.ensures.value
    c.first_stale.ensures
    ∙ c.in_ok-v.was in
    let h = stale_node a c.in_ok-v.v c.self.invariant at in
    let nodes = ap (λ (g : Graph). g.nodes) c.topo.ensures in
    omega (arith, h, nodes)

pub bounds-neighbours-i : goal.bounds-neighbours-i
bounds-neighbours-i c =
    let a = c.self.inside in
    let at =
    stale_read a c.text.result.now c.deref.result.now c.first_stale.result c.text.ensures c.deref.ensures.value
    c.first_stale.ensures
    ∙ c.in_ok-v.was in
    let h = stale_node a c.in_ok-v.v c.self.invariant at in
    let link =
    stale_link a c.text.result.now c.in_ok-v.v c.index.result.now c.deref-2.result.now c.first_old.result
    c.self.invariant h c.text.ensures c.index.ensures c.deref-2.ensures.value c.first_old.ensures
    ∙ c.in_ok-i.was in
    let near : c.neighbours.result.now ≡ neighbours (net_of a.plan.now) c.in_ok-v.v =
    c.neighbours.ensures ∙ ap (λ (g : Graph). neighbours_of g c.in_ok-v.v) c.topo.ensures in
    subst (λ (xs : List ℕ). c.in_ok-i.i < length xs) (sym near)
    (link_inside a c.in_ok-v.v c.in_ok-i.i c.index.result.now c.self.invariant h c.index.ensures link)

pub overflow_cast-result : goal.overflow_cast-result
overflow_cast-result c =
    let a = c.self.inside in
    let at =
    stale_read a c.text.result.now c.deref.result.now c.first_stale.result c.text.ensures c.deref.ensures.value
    c.first_stale.ensures
    ∙ c.in_ok-v.was in
    let h = stale_node a c.in_ok-v.v c.self.invariant at in
    let few = few_nodes a in
    omega (arith, h, few)

pub returns : goal.returns
returns c =
    let a = c.self.inside in
    let at =
    stale_read a c.text.result.now c.deref.result.now c.first_stale.result c.text.ensures c.deref.ensures.value
    c.first_stale.ensures
    ∙ c.in_ok-v.was in
    let h = stale_node a c.in_ok-v.v c.self.invariant at in
    let link =
    stale_link a c.text.result.now c.in_ok-v.v c.index.result.now c.deref-2.result.now c.first_old.result
    c.self.invariant h c.text.ensures c.index.ensures c.deref-2.ensures.value c.first_old.ensures
    ∙ c.in_ok-i.was in
    let near : c.neighbours.result.now ≡ neighbours (net_of a.plan.now) c.in_ok-v.v =
    c.neighbours.ensures ∙ ap (λ (g : Graph). neighbours_of g c.in_ok-v.v) c.topo.ensures in
    let found : stale_in (net_of a.plan.now) (world_in a) ≡ Some
    (Stale (slice_index (neighbours (net_of a.plan.now) c.in_ok-v.v) c.in_ok-i.i) c.in_ok-v.v) =
    some_stale (net_of a.plan.now) (world_in a) c.in_ok-v.v c.in_ok-i.i at link in
    ap (λ (xs : List ℕ). let r : Option Refused = Some (Stale (slice_index xs c.in_ok-i.i) c.in_ok-v.v) in r) near
    ∙ sym found
    ∙ ap (λ (p : Placed). stale_in (net_of p.plan) p.world) c.self.view_is
