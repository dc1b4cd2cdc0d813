use Rattle.std.proofs.Common.{◌≡◌, ◌∙◌, ◌+◌, ◌<◌, All, Ok, ap, arith, length, List, ℕ, rules, subst, sym}
use Rattle.std.proofs.lemmas.List.{with_items_is}
use Rattle.std.proofs.lemmas.Result.{err_from_is_err_and}
use Rattle.gs_topo.specs.Graph.{Graph}
use Rattle.gs_plan.specs.Plans.{graph_of}
use Rattle.gs_run.specs.Nets.{net_of}
use Rattle.gs_calendar.specs.Scripts.{breach_of_script}
use Rattle.gs_calendar.specs.Stops.{StopsAt}
use Rattle.gs_rows.specs.Row.{zeros_of}
use Rattle.gs_rows.specs.Stage.{IsOver, Stage}
use Rattle.gs_tdma.specs.inside.Kept.{AreCounted, AreSent}
use Rattle.gs_rows.proofs.Stopping.{stops_here, unbreached_here}
use Rattle.gs_tdma.proofs.Counting.{few_sent, is_sent, more_sent, never_here, none_sent, play_rows, row_here}
use Rattle.gs_tdma.proofs.sending.slot_run.Goals as goal

pub loop-sent-init : goal.loop-sent-init
loop-sent-init c =
    let p = c.args.plan.now in
    let said = c.args.script.now in
    let is : c.in_ok-rows.rows ≡ record { plan = p; said = said; l0s = zeros_of (net_of p); quanta = 0 } = search rules in
    let nodes : c.nodes-nodes.result ≡ (graph_of p).nodes = c.nodes-nodes.ensures.value ∙ ap (λ (g : Graph). g.nodes) c.topo.ensures in
    record {
      plan = ap (λ (x : Stage). x.plan) is;
      said = ap (λ (x : Stage). x.said) is;
      zeros = ap (λ (x : Stage). x.l0s) is;
      sent = none_sent c.args.slots.now (play_rows p said) (graph_of p).nodes c.in_ok-rows.rows.quanta c.nodes-nodes.result
          c.in_ok-sent.sent.items c.in_ok-sent.ensures nodes (ap (λ (x : Stage). x.quanta) is);
    }

pub returns-in_err-next-clause-stop : goal.returns-in_err-next-clause-stop
returns-in_err-next-clause-stop c =
    let h = c.loop-sent.invariant in
    let stop = c.in_err-next.field-0.0 in
    let at : StopsAt (breach_of_script c.loop-sent.rows.plan c.loop-sent.rows.said) stop = search rules in
    let answer = err_from_is_err_and c.from_residual-in_err-next.result c.from_residual-in_err-next.ensures.1 in
    rw (answer.1, answer.2) (stops_here c.args.plan.now c.args.script.now c.loop-sent.rows stop h.plan h.said at)

pub returns-clause-sent : goal.returns-clause-sent
returns-clause-sent c =
    let h = c.loop-sent.invariant in
    let over : IsOver c.loop-sent.rows = c.in_ok-next.ensures.over (ap Ok c.if-branch.false) in
    is_sent c.args.plan.now c.args.script.now c.args.slots.now c.loop-sent.rows c.loop-sent.sent.items h.said over h.sent

pub returns-clause-apart : goal.returns-clause-apart
returns-clause-apart c =
    let h = c.loop-sent.invariant in
    let over : IsOver c.loop-sent.rows = c.in_ok-next.ensures.over (ap Ok c.if-branch.false) in
    never_here c.args.plan.now c.args.script.now c.args.slots.now c.loop-sent.rows c.requires.slots h.plan h.said h.zeros over

pub returns-clause-no_breach : goal.returns-clause-no_breach
returns-clause-no_breach c =
    let h = c.loop-sent.invariant in
    let over : IsOver c.loop-sent.rows = c.in_ok-next.ensures.over (ap Ok c.if-branch.false) in
    unbreached_here c.args.plan.now c.args.script.now c.loop-sent.rows h.plan h.said over

pub with_clocks-requires-clause-few : goal.with_clocks-requires-clause-few
with_clocks-requires-clause-few c =
    let old = c.loop-sent.rows in
    let new = c.next.new.self in
    let is : new ≡ record { plan = old.plan; said = old.said; l0s = old.l0s; quanta = old.quanta + 1 } =
    c.in_ok-next.ensures.on (ap Ok c.if-branch.true) in
    let next : c.quanta-t.result ≡ old.quanta + 1 = c.quanta-t.ensures ∙ ap (λ (x : Stage). x.quanta) is in
    subst (λ (l : List ℕ). All (λ (k : ℕ). k < c.quanta-t.result) l) (sym c.deref_mut.ensures.value)
    (few_sent c.args.slots.now _ _ old.quanta c.quanta-t.result c.loop-sent.sent.items c.loop-sent.invariant.sent next)

pub loop-sent-smaller : goal.loop-sent-smaller
loop-sent-smaller c =
    let old = c.loop-sent.rows in
    let new = c.next.new.self in
    let is : new ≡ record { plan = old.plan; said = old.said; l0s = old.l0s; quanta = old.quanta + 1 } =
    c.in_ok-next.ensures.on (ap Ok c.if-branch.true) in
    let inside : old.quanta < old.said.quanta = c.in_ok-next.ensures.inside (ap Ok c.if-branch.true) in
    let said : new.said.quanta ≡ old.said.quanta = ap (λ (x : Stage). x.said.quanta) is in
    let quanta : new.quanta ≡ old.quanta + 1 = ap (λ (x : Stage). x.quanta) is in
    omega (arith, inside, said, quanta)

pub loop-sent-preserved : goal.loop-sent-preserved
loop-sent-preserved c =
    let p = c.args.plan.now in
    let said = c.args.script.now in
    let s = c.args.slots.now in
    let h = c.loop-sent.invariant in
    let old = c.loop-sent.rows in
    let new = c.next.new.self in
    let before = c.loop-sent.sent in
    let after = c.with_clocks.new.sent in
    let row = c.clocks.result.now in
    let is : new ≡ record { plan = old.plan; said = old.said; l0s = old.l0s; quanta = old.quanta + 1 } =
    c.in_ok-next.ensures.on (ap Ok c.if-branch.true) in
    let plan : new.plan ≡ p = ap (λ (x : Stage). x.plan) is ∙ h.plan in
    let same : new.said ≡ said = ap (λ (x : Stage). x.said) is ∙ h.said in
    let zeros : new.l0s ≡ zeros_of (net_of p) = ap (λ (x : Stage). x.l0s) is ∙ h.zeros in
    let here = row_here p said new row plan same zeros c.clocks.ensures.value in
    let counted : AreCounted s row before.items after =
    subst (λ (l : List ℕ). AreCounted s row l after) c.deref_mut.ensures.value c.with_clocks.ensures in
    let long : length after ≡ before.len = search rules in
    let same_length : length after ≡ length before.items = search rules in
    let sent = more_sent s (play_rows p said) (graph_of p).nodes old.quanta new.quanta row before.items after h.sent
    (ap (λ (x : Stage). x.quanta) is) here same_length counted in
    record {
      plan = plan;
      said = same;
      zeros = zeros;
      sent = subst (λ (l : List ℕ). AreSent s (play_rows p said) (graph_of p).nodes new.quanta l) (sym (with_items_is before after long)) sent;
    }
