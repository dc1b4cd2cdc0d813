use Rattle.std.proofs.Common.{◌≡◌, ◌∙◌, ap, List, rules, ℕ, map, replicate}
use Rattle.gs_topo.specs.Graph.{Graph}
use Rattle.gs_plan.specs.Plans.{graph_of}
use Rattle.gs_run.specs.Nets.{net_of}
use Rattle.gs_run.specs.World.{world_at_start_each}
use Rattle.gs_world.specs.Placed.{Placed}
use Rattle.gs_calendar.specs.Course.{course_of}
use Rattle.gs_calendar.specs.Events.{events_of, nodes_of}
use Rattle.gs_rows.specs.Row.{start_from}
use Rattle.gs_run.proofs.Zeros.{zeros_are}
use Rattle.gs_rows.proofs.Staging.{begins_at}
use Rattle.gs_rows.proofs.rows.Rows.start_each.Goals as goal

pub invariant_of-result : goal.invariant_of-result
invariant_of-result c =
    let p = c.args.plan.now in
    let nodes : c.nodes.result ≡ (graph_of p).nodes = c.nodes.ensures.value ∙ ap (λ (g : Graph). g.nodes) c.topo.ensures in
    let none : c.deref.result.now ≡ replicate {A = ℕ} (graph_of p).nodes 0 =
    c.deref.ensures.value ∙ c.in_ok-readings.ensures ∙ ap (λ (n : ℕ). replicate {A = ℕ} n 0) nodes in
    let readings : c.deref.result.now ≡ map (λ v. 0) (nodes_of (net_of p)) = none ∙ zeros_are 0 (graph_of p).nodes in
    let placed = c.in_ok-world.world in
    let is : placed ≡ record { plan = p; world = world_at_start_each (net_of p) c.deref.result.now c.args.l0s.items } = search rules in
    let start : placed.world ≡ start_from (net_of p) c.args.l0s.items =
    ap (λ (w : Placed). w.world) is ∙ ap (λ (hw : List ℕ). world_at_start_each (net_of p) hw c.args.l0s.items) readings in
    let feed : c.in_ok-feed.feed ≡ events_of (net_of p) (course_of c.args.script.now) = search rules in
    record {
      text = c.requires.script;
      within = c.quanta-within_bounds.ensures.within;
      plan = ap (λ (w : Placed). w.plan) is;
      on = begins_at p c.args.script.now c.args.l0s.items placed.world c.in_ok-feed.feed c.requires.script
          c.quanta-within_bounds.ensures.within start feed;
    }
