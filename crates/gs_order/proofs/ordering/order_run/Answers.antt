use Rattle.std.proofs.Common.{◌≡◌, ◌∙◌, ◌+◌, ◌<◌, [], All, Ok, map, ap, arith, ℕ, rules, subst, sym}
use Rattle.std.proofs.lemmas.Result.{err_from_is_err_and}
use Rattle.gs_topo.specs.Graph.{Graph}
use Rattle.gs_topo.specs.Walks.{IsTopology}
use Rattle.gs_plan.specs.Plans.{graph_of}
use Rattle.gs_run.specs.Nets.{net_of}
use Rattle.gs_calendar.specs.Scripts.{breach_of_script}
use Rattle.gs_calendar.specs.Stops.{StopsAt}
use Rattle.gs_rows.specs.Row.{zeros_of}
use Rattle.gs_rows.specs.Stage.{IsOver, Stage}
use Rattle.gs_order.specs.inside.UnderWay.{after_clocks, with_due}
use Rattle.gs_order.specs.Waits.{wait_of}
use Rattle.gs_order.specs.declared.timed.Timed.{Timed}
use Rattle.gs_order.proofs.Running.{begins_order, goes_on_order, is_order, is_ordered, known_nodes, no_breach, row_of_stage, step_here, stops_order}
use Rattle.gs_order.proofs.ordering.order_run.Goals as goal

pub loop-events-init : goal.loop-events-init
loop-events-init c =
    let p = c.args.plan.now in
    let s = c.args.script.now in
    let is : c.in_ok-rows.rows ≡ record { plan = p; said = s; l0s = zeros_of (net_of p); quanta = 0 } = search rules in
    record {
      plan = ap (λ (x : Stage). x.plan) is;
      said = ap (λ (x : Stage). x.said) is;
      zeros = ap (λ (x : Stage). x.l0s) is;
      events = begins_order p s c.args.every c.in_ok-rows.rows c.new-events.result.items (search rules) (ap (λ (x : Stage). x.quanta) is);
      done = record { inside = omega arith; finished = λ k d h. absurd (omega (arith, h)) };
    }

pub returns-in_err-next-clause-stop : goal.returns-in_err-next-clause-stop
returns-in_err-next-clause-stop c =
    let h = c.loop-events.invariant in
    let stop = c.in_err-next.field-0.0 in
    let at : StopsAt (breach_of_script c.loop-events.rows.plan c.loop-events.rows.said) stop = search rules in
    let answer = err_from_is_err_and c.from_residual-in_err-next.result c.from_residual-in_err-next.ensures.1 in
    rw (answer.1, answer.2) (stops_order c.args.plan.now c.args.script.now c.loop-events.rows stop h.plan h.said at)

pub after_quantum-requires-clause-known : goal.after_quantum-requires-clause-known
after_quantum-requires-clause-known c =
    let p = c.args.plan.now in
    let graph : IsTopology (graph_of p) = subst (λ (g : Graph). IsTopology g) c.topo.ensures c.nodes-nodes.ensures.graph in
    let nodes : c.nodes-nodes.result ≡ (graph_of p).nodes = c.nodes-nodes.ensures.value ∙ ap (λ (g : Graph). g.nodes) c.topo.ensures in
    subst (λ (n : ℕ). All (λ (e : Timed). e.node < n) c.loop-events.events.items) (sym nodes)
    (known_nodes p c.args.script.now c.args.every c.loop-events.rows.quanta c.loop-events.events.items graph c.loop-events.invariant.events)

pub loop-events-preserved : goal.loop-events-preserved
loop-events-preserved c =
    let p = c.args.plan.now in
    let s = c.args.script.now in
    let h = c.loop-events.invariant in
    let old = c.loop-events.rows in
    let new = c.next.new.self in
    let row = c.clocks.result.now in
    let is : new ≡ record { plan = old.plan; said = old.said; l0s = old.l0s; quanta = old.quanta + 1 } =
    c.in_ok-next.ensures.on (ap Ok c.if-branch.true) in
    let plan : new.plan ≡ p = ap (λ (x : Stage). x.plan) is ∙ h.plan in
    let said : new.said ≡ s = ap (λ (x : Stage). x.said) is ∙ h.said in
    let zeros : new.l0s ≡ zeros_of (net_of p) = ap (λ (x : Stage). x.l0s) is ∙ h.zeros in
    let nodes : c.nodes-nodes.result ≡ (graph_of p).nodes = c.nodes-nodes.ensures.value ∙ ap (λ (g : Graph). g.nodes) c.topo.ensures in
    let step : c.after_quantum.new.events.items ≡ with_due c.args.every c.quanta-t.result c.nodes-nodes.result row
    (map (after_clocks (wait_of p) c.quanta-t.result row) c.loop-events.events.items) = search rules in
    let here = row_of_stage p s new row plan said zeros c.clocks.ensures.value in
    record {
      plan = plan;
      said = said;
      zeros = zeros;
      events = goes_on_order p s c.args.every old.quanta new row c.loop-events.events.items c.after_quantum.new.events.items c.requires.every
          (ap (λ (x : Stage). x.quanta) is) here h.events (step_here p c.args.every c.quanta-t.result c.nodes-nodes.result new row _ _ c.quanta-t.ensures nodes step);
      done = search rules;
    }

pub returns-clause-events : goal.returns-clause-events
returns-clause-events c =
    let h = c.loop-events.invariant in
    let over : IsOver c.loop-events.rows =
    c.in_ok-next.ensures.over (ap Ok c.if-branch.false) in
    is_order c.args.plan.now c.args.script.now c.args.every c.loop-events.rows c.loop-events.events.items h.plan h.said over h.events

pub returns-clause-no_breach : goal.returns-clause-no_breach
returns-clause-no_breach c =
    let h = c.loop-events.invariant in
    let over : IsOver c.loop-events.rows =
    c.in_ok-next.ensures.over (ap Ok c.if-branch.false) in
    no_breach c.args.plan.now c.args.script.now c.loop-events.rows h.plan h.said over

pub returns-clause-ordered : goal.returns-clause-ordered
returns-clause-ordered c =
    let h = c.loop-events.invariant in
    let over : IsOver c.loop-events.rows =
    c.in_ok-next.ensures.over (ap Ok c.if-branch.false) in
    is_ordered c.args.plan.now c.args.script.now c.args.every c.loop-events.rows c.loop-events.events.items c.requires.every h.plan h.said h.zeros
    over h.events
