-- The fields of a play's rows, and the stage that contracts see.
use Rattle.std.proofs.Common.{◌≡◌, ℕ, ◌+◌, ◌<◌, arith, ap, ◌∙◌, sym, subst, List, [], ◌∷◌, ◌++◌, length, Option, Some, None}
use Rattle.std.proofs.lemmas.List.{length-map}
use Rattle.gs_core.specs.Node.{clock_of}
use Rattle.gs_core.specs.declared.event.Event.{Event}
use Rattle.gs_plan.specs.Plans.{graph_of}
use Rattle.gs_plan.specs.declared.plan.Plan.{Plan}
use Rattle.gs_run.specs.Net.{Net}
use Rattle.gs_run.specs.Nets.{net_of}
use Rattle.gs_run.specs.World.{World, clocks_in}
use Rattle.gs_run.proofs.PlanNumbers.{plan_has_numbers}
use Rattle.gs_calendar.specs.Breach.{Breach, first_breach}
use Rattle.gs_calendar.specs.Course.{Course, course_of}
use Rattle.gs_calendar.specs.Events.{events_of}
use Rattle.gs_calendar.specs.Scripts.{breach_of_script}
use Rattle.gs_calendar.specs.Stops.{StopsAt}
use Rattle.gs_calendar.specs.declared.stop.PlayStop.{PlayStop}
use Rattle.gs_calendar.proofs.Breaches.{unbreached_is_allowed}
use Rattle.gs_calendar.proofs.Fitting.{fits}
use Rattle.gs_rows.specs.inside.Onward.{GoesOn, left_of}
use Rattle.gs_rows.specs.Row.{Row, start_from}
use Rattle.gs_rows.specs.inside.Seen.{IsInside, IsOn, stage_of}
use Rattle.gs_rows.specs.Stage.{IsOver, Stage, row_now}
use Rattle.gs_rows.specs.declared.rows.Rows.TheInside.{Inside}
use Rattle.gs_rows.proofs.Staging.{calm_from, counted, passes, row_is, same_breach}

-- the row of the world's clocks is that of the stage
pub row_inside : (a : Inside) (x : Stage) → IsInside a → stage_of a ≡ x
    → row_now x ≡ record { clocks = clocks_in (net_of a.world.plan) a.world.world; fast = a.fast }
row_inside a x h view =
    let net : Net = net_of a.plan.now in
    ap row_now (sym view)
    ∙ row_is net (start_from net a.l0s.items) a.world.world (events_of net (course_of a.script.now)) (left_of a.held a.feed) a.fast h.on
    ∙ ap (λ (p : Plan). let r : Row = record { clocks = clocks_in (net_of p) a.world.world; fast = a.fast } in r) (sym h.plan)

-- there is one clock for each node
pub count_inside : (a : Inside) (x : Stage) (clocks : List ℕ) → IsInside a → stage_of a ≡ x
    → clocks ≡ clocks_in (net_of a.world.plan) a.world.world → length clocks ≡ (graph_of x.plan).nodes
count_inside a x clocks h view is =
    ap (λ (l : List ℕ). length l) is
    ∙ length-map a.world.world.members (λ m. clock_of (net_of a.world.plan).rate m.node m.reading)
    ∙ h.on.members
    ∙ ap (λ (y : Stage). (graph_of y.plan).nodes) view

-- what is left has the breach of the script
breach_inside : (a : Inside) → IsInside a
    → breach_of_script a.plan.now a.script.now
    ≡ first_breach (net_of a.plan.now) a.world.world (left_of a.held a.feed)
breach_inside a h = sym (same_breach a.plan.now a.script.now a.l0s.items h.text h.within) ∙ h.on.breach

pub stops : (a : Inside) (x : Stage) (stop : PlayStop) → IsInside a → stage_of a ≡ x
    → StopsAt (first_breach (net_of a.world.plan) a.world.world (left_of a.held a.feed)) stop
    → StopsAt (breach_of_script x.plan x.said) stop
stops a x stop h view at =
    let is : first_breach (net_of a.world.plan) a.world.world (left_of a.held a.feed) ≡ breach_of_script a.plan.now a.script.now =
    ap (λ (p : Plan). first_breach (net_of p) a.world.world (left_of a.held a.feed)) h.plan ∙ sym (breach_inside a h) in
    subst (λ (y : Stage). StopsAt (breach_of_script y.plan y.said) stop) view
    (subst (λ (b : Option Breach). StopsAt b stop) is at)

-- a quantum is passed, by a world of the plan
pub passes_quantum : (p q : Plan) (start w z : World) (all left rest : List Event) (last : ℕ) (passed : Option ℕ) (fast : ℕ)
    → q ≡ p → IsOn (net_of p) start all w left last → GoesOn (net_of q) w left passed z rest
    → passed ≡ Some fast → IsOn (net_of p) start all z rest fast
passes_quantum p q start w z all left rest last passed fast same h g is =
    passes (net_of p) start w z all left rest last fast h
    (subst (λ (o : Option ℕ). GoesOn (net_of p) w left o z rest) is
    (subst (λ (x : Plan). GoesOn (net_of x) w left passed z rest) same g))

-- then there was one more
pub one_more : (a : Inside) (x : Stage) (z : World) (rest : List Event) (passed : Option ℕ) (fast : ℕ) → IsInside a → stage_of a ≡ x
    → GoesOn (net_of a.world.plan) a.world.world (left_of a.held a.feed) passed z rest → passed ≡ Some fast
    → x.quanta < x.said.quanta
one_more a x z rest passed fast h view g is =
    let net : Net = net_of a.plan.now in
    let left : List Event = left_of a.held a.feed in
    let here : GoesOn net a.world.world left (Some fast) z rest =
    subst (λ (o : Option ℕ). GoesOn net a.world.world left o z rest) is
    (subst (λ (p : Plan). GoesOn (net_of p) a.world.world left passed z rest) h.plan g) in
    let all = counted net (course_of a.script.now) (start_from net a.l0s.items) a.world.world left a.fast h.on in
    let long = ap (λ (rows : List Row). length rows) here.rows in
    subst (λ (y : Stage). y.quanta < y.said.quanta) view (omega (arith, all, long))

-- where nothing is left all is over
pub is_over : (a : Inside) (x : Stage) (z : World) (rest : List Event) (passed : Option ℕ) → IsInside a → stage_of a ≡ x
    → GoesOn (net_of a.world.plan) a.world.world (left_of a.held a.feed) passed z rest → passed ≡ None → rest ≡ [] → IsOver x
is_over a x z rest passed h view g is none =
    let p : Plan = a.plan.now in
    let net : Net = net_of p in
    let c : Course = course_of a.script.now in
    let w : World = a.world.world in
    let left : List Event = left_of a.held a.feed in
    let here : GoesOn net w left None z [] =
    subst (λ (xs : List Event). GoesOn net w left None z xs) none
    (subst (λ (o : Option ℕ). GoesOn net w left o z rest) is
    (subst (λ (q : Plan). GoesOn (net_of q) w left passed z rest) h.plan g)) in
    let all = counted net c (start_from net a.l0s.items) w left a.fast h.on in
    let long = ap (λ (rows : List Row). length rows) here.rows in
    let breach : breach_of_script p a.script.now ≡ None = breach_inside a h ∙ here.breach in
    let same = same_breach p a.script.now a.l0s.items h.text h.within in
    subst (λ (y : Stage). IsOver y) view (record {
      quanta = omega (arith, all, long);
      breach = breach;
      allowed = unbreached_is_allowed net (start_from net a.l0s.items) (events_of net c)
          (calm_from net c a.l0s.items (plan_has_numbers p) (fits p a.script.now h.text h.within)) (same ∙ breach);
    })
