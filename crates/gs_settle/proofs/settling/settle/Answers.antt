use Rattle.std.proofs.Common.{◌≡◌, ◌∙◌, ◌+◌, ◌<◌, Ok, Option, ap, arith, length, List, ℕ, rules, subst, sym}
use Rattle.std.proofs.lemmas.List.{with_items_is}
use Rattle.std.proofs.lemmas.List.FromFn.{length-map-range_with_len}
use Rattle.std.proofs.lemmas.Result.{err_from_is_err_and}
use Rattle.gs_topo.specs.Graph.{Graph}
use Rattle.gs_planfile.specs.declared.text.PlanText.{PlanText}
use Rattle.gs_plan.specs.Plans.{graph_of, text_of}
use Rattle.gs_plan.specs.declared.plan.Plan.{Plan}
use Rattle.gs_calendar.specs.Scripts.{breach_of_script}
use Rattle.gs_calendar.specs.Stops.{StopsAt}
use Rattle.gs_rows.specs.Row.{Row, fast_upto, row_at}
use Rattle.gs_rows.specs.Stage.{IsOver, Stage}
use Rattle.gs_settle.specs.Plays.{first_clock, first_clocks, last_of_level, rows_from_gamma}
use Rattle.gs_settle.specs.inside.Running.{AreMarked}
use Rattle.gs_rows.proofs.Stopping.{stops_here, unbreached_here}
use Rattle.gs_settle.proofs.Marking.{settles_here, fast_here, first_marked, in_time_here, last_here, more_fast, more_marked, row_here}
use Rattle.gs_settle.proofs.settling.settle.Goals as goal

pub returns-in_err-next-clause-stop : goal.returns-in_err-next-clause-stop
returns-in_err-next-clause-stop c =
    let h = c.loop-rows.invariant in
    let stop = c.in_err-next.field-0.0 in
    let at : StopsAt (breach_of_script c.loop-rows.rows.plan c.loop-rows.rows.said) stop = search rules in
    let answer = err_from_is_err_and c.from_residual-in_err-next.result c.from_residual-in_err-next.ensures.1 in
    rw (answer.1, answer.2) (stops_here c.args.plan.now c.args.script.now c.loop-rows.rows stop h.plan h.said at)

pub returns-clause-last : goal.returns-clause-last
returns-clause-last c =
    let h = c.loop-rows.invariant in
    let over : IsOver c.loop-rows.rows = c.in_ok-next.ensures.over (ap Ok c.if-branch.false) in
    last_here c.args.plan.now c.args.script.now c.args.gamma c.loop-rows.rows c.loop-rows.last.items h.said over h.last

pub returns-clause-settles : goal.returns-clause-settles
returns-clause-settles c =
    let h = c.loop-rows.invariant in
    let over : IsOver c.loop-rows.rows = c.in_ok-next.ensures.over (ap Ok c.if-branch.false) in
    settles_here c.args.plan.now c.args.script.now c.args.gamma c.loop-rows.rows h.plan h.said h.l0s over

pub returns-clause-in_time : goal.returns-clause-in_time
returns-clause-in_time c =
    let h = c.loop-rows.invariant in
    let over : IsOver c.loop-rows.rows = c.in_ok-next.ensures.over (ap Ok c.if-branch.false) in
    in_time_here c.args.plan.now c.args.script.now c.args.gamma c.loop-rows.rows c.loop-rows.last.items h.plan h.said h.l0s over h.last

pub returns-clause-fast : goal.returns-clause-fast
returns-clause-fast c =
    let h = c.loop-rows.invariant in
    let over : IsOver c.loop-rows.rows = c.in_ok-next.ensures.over (ap Ok c.if-branch.false) in
    fast_here c.args.plan.now c.args.script.now c.args.gamma c.loop-rows.rows c.loop-rows.fast h.said over h.fast

pub returns-clause-no_breach : goal.returns-clause-no_breach
returns-clause-no_breach c =
    let h = c.loop-rows.invariant in
    let over : IsOver c.loop-rows.rows = c.in_ok-next.ensures.over (ap Ok c.if-branch.false) in
    unbreached_here c.args.plan.now c.args.script.now c.loop-rows.rows h.plan h.said over

pub with_fast-fast-requires : goal.with_fast-fast-requires
with_fast-fast-requires c =
    let old = c.loop-rows.rows in
    let new = c.next.new.self in
    let is : new ≡ record { plan = old.plan; said = old.said; l0s = old.l0s; quanta = old.quanta + 1 } =
    c.in_ok-next.ensures.on (ap Ok c.if-branch.true) in
    let t : c.quanta-t.result ≡ old.quanta + 1 = c.quanta-t.ensures ∙ ap (λ (x : Stage). x.quanta) is in
    let small = c.loop-rows.invariant.small in
    omega (arith, t, small)

pub loop-rows-smaller : goal.loop-rows-smaller
loop-rows-smaller c =
    let old = c.loop-rows.rows in
    let new = c.next.new.self in
    let is : new ≡ record { plan = old.plan; said = old.said; l0s = old.l0s; quanta = old.quanta + 1 } =
    c.in_ok-next.ensures.on (ap Ok c.if-branch.true) in
    let inside : old.quanta < old.said.quanta = c.in_ok-next.ensures.inside (ap Ok c.if-branch.true) in
    let said : new.said.quanta ≡ old.said.quanta = ap (λ (x : Stage). x.said.quanta) is in
    let quanta : new.quanta ≡ old.quanta + 1 = ap (λ (x : Stage). x.quanta) is in
    omega (arith, inside, said, quanta)

pub loop-rows-init : goal.loop-rows-init
loop-rows-init c =
    let p = c.args.plan.now in
    let said = c.args.script.now in
    let gamma = c.args.gamma in
    let x = c.in_ok-rows.rows in
    let old = c.in_ok-last.last in
    let new = c.mark.new.last in
    let row = c.clocks.result.now in
    let is : x ≡ record { plan = p; said = said; l0s = c.in_ok-clocks.clocks.items; quanta = 0 } = search rules in
    let nodes : c.nodes.result ≡ (graph_of p).nodes = c.nodes.ensures.value ∙ ap (λ (g : Graph). g.nodes) c.topo.ensures in
    let levels : c.text.result.now.levels + 1 ≡ (text_of p).levels + 1 = ap (λ (t : PlanText). t.levels + 1) c.text.ensures in
    let plan : x.plan ≡ p = ap (λ (y : Stage). y.plan) is in
    let same : x.said ≡ said = ap (λ (y : Stage). y.said) is in
    let zero : x.quanta ≡ 0 = ap (λ (y : Stage). y.quanta) is in
    let l0s : x.l0s ≡ first_clocks gamma (graph_of p).nodes =
    ap (λ (y : Stage). y.l0s) is ∙ c.in_ok-clocks.ensures.value ∙ ap (λ (n : ℕ). first_clocks gamma n) nodes in
    let here : row ≡ (row_at (rows_from_gamma p said gamma) x.quanta).clocks =
    c.clocks.ensures.value ∙ ap (λ (r : Row). r.clocks) (row_here p said gamma x plan same l0s) in
    let marks : AreMarked p row 0 old.items new =
    subst (λ (l : List (Option ℕ)). AreMarked p row 0 l new) c.deref_mut.ensures.value c.mark.ensures in
    let long : length new ≡ old.len = search rules in
    let count : length new ≡ length old.items = search rules in
    let last = first_marked p (rows_from_gamma p said gamma) x.quanta (c.text.result.now.levels + 1) row old.items new zero levels c.in_ok-last.ensures here count marks in
    record {
      plan = plan;
      said = same;
      l0s = l0s;
      last = with_items_is old new long ∙ last;
      fast = sym (ap (λ (t : ℕ). fast_upto (rows_from_gamma p said gamma) t) zero);
      small = omega arith;
    }

pub loop-rows-preserved : goal.loop-rows-preserved
loop-rows-preserved c =
    let p = c.args.plan.now in
    let said = c.args.script.now in
    let gamma = c.args.gamma in
    let h = c.loop-rows.invariant in
    let x = c.loop-rows.rows in
    let y = c.next.new.self in
    let old = c.loop-rows.last in
    let new = c.mark-in-loop-rows.new.last in
    let row = c.clocks-in-loop-rows.result.now in
    let R = rows_from_gamma p said gamma in
    let is : y ≡ record { plan = x.plan; said = x.said; l0s = x.l0s; quanta = x.quanta + 1 } =
    c.in_ok-next.ensures.on (ap Ok c.if-branch.true) in
    let plan : y.plan ≡ p = ap (λ (z : Stage). z.plan) is ∙ h.plan in
    let same : y.said ≡ said = ap (λ (z : Stage). z.said) is ∙ h.said in
    let l0s : y.l0s ≡ first_clocks gamma (graph_of p).nodes = ap (λ (z : Stage). z.l0s) is ∙ h.l0s in
    let next : y.quanta ≡ x.quanta + 1 = ap (λ (z : Stage). z.quanta) is in
    let t : c.quanta-t.result ≡ y.quanta = c.quanta-t.ensures in
    let at = row_here p said gamma y plan same l0s in
    let here : row ≡ (row_at R y.quanta).clocks = c.clocks-in-loop-rows.ensures.value ∙ ap (λ (r : Row). r.clocks) at in
    let marks : AreMarked p row y.quanta old.items new =
    subst (λ (u : ℕ). AreMarked p row u old.items new) t
    (subst (λ (l : List (Option ℕ)). AreMarked p row c.quanta-t.result l new) c.deref_mut-in-loop-rows.ensures.value c.mark-in-loop-rows.ensures) in
    let long : length new ≡ old.len = search rules in
    let count : length new ≡ length old.items = search rules in
    let fast = more_fast R x.quanta y.quanta c.loop-rows.fast c.fast.result c.with_fast-fast.result next h.fast
    (c.fast.ensures ∙ ap (λ (r : Row). r.fast) at) c.with_fast-fast.ensures.value in
    let small = c.with_fast-fast.ensures.small in
    record {
      plan = plan;
      said = same;
      l0s = l0s;
      last = with_items_is old new long ∙ more_marked p R x.quanta y.quanta row old.items new next h.last here count marks;
      fast = fast;
      small = omega (arith, small, t);
    }

pub start_each-requires-clause-one_each : goal.start_each-requires-clause-one_each
start_each-requires-clause-one_each c =
    let n = c.nodes.result in
    let nodes : n ≡ (graph_of c.args.plan.now).nodes = c.nodes.ensures.value ∙ ap (λ (g : Graph). g.nodes) c.topo.ensures in
    ap (λ (l : List ℕ). length l) c.in_ok-clocks.ensures.value ∙ length-map-range_with_len (first_clock c.args.gamma n) 0 n ∙ nodes

pub mark-requires-in-loop-rows-clause-one_each : goal.mark-requires-in-loop-rows-clause-one_each
mark-requires-in-loop-rows-clause-one_each c =
    let x = c.loop-rows.rows in
    let y = c.next.new.self in
    let is : y ≡ record { plan = x.plan; said = x.said; l0s = x.l0s; quanta = x.quanta + 1 } =
    c.in_ok-next.ensures.on (ap Ok c.if-branch.true) in
    let plan : y.plan ≡ c.args.plan.now = ap (λ (z : Stage). z.plan) is ∙ c.loop-rows.invariant.plan in
    c.clocks-in-loop-rows.ensures.count ∙ ap (λ (q : Plan). (graph_of q).nodes) plan

pub mark-requires-in-loop-rows-clause-last : goal.mark-requires-in-loop-rows-clause-last
mark-requires-in-loop-rows-clause-last c =
    let p = c.args.plan.now in
    let rows = rows_from_gamma p c.args.script.now c.args.gamma in
    let levels : c.text.result.now.levels + 1 ≡ (text_of p).levels + 1 = ap (λ (t : PlanText). t.levels + 1) c.text.ensures in
    ap (λ (l : List (Option ℕ)). length l) (c.deref_mut-in-loop-rows.ensures.value ∙ c.loop-rows.invariant.last)
    ∙ length-map-range_with_len (last_of_level p rows c.loop-rows.rows.quanta) 0 ((text_of p).levels + 1)
    ∙ sym levels
