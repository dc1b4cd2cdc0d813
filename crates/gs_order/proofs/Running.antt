-- The events of a play under way.
use Rattle.std.proofs.Common.{◌≡◌, ℕ, ◌+◌, ◌<◌, ◌≤◌, arith, ap, ◌∙◌, sym, subst, refl, List, [], ◌∷◌, map, All, None, slice_index}
use Rattle.gs_topo.specs.Walks.{IsTopology}
use Rattle.gs_plan.specs.Plans.{graph_of, rate_of, text_of}
use Rattle.gs_plan.specs.declared.plan.Plan.{Plan}
use Rattle.gs_plan.proofs.Telling.{plan_is_graph}
use Rattle.gs_script.specs.Script.{Said}
use Rattle.gs_run.specs.Nets.{net_of}
use Rattle.gs_run.proofs.PlanNumbers.{skew_is}
use Rattle.gs_calendar.specs.Scripts.{breach_of_script}
use Rattle.gs_calendar.specs.Stops.{StopsAt}
use Rattle.gs_calendar.specs.declared.stop.PlayStop.{PlayStop}
use Rattle.gs_rows.specs.Row.{clock_at, row_at, rows_of_script, zeros_of}
use Rattle.gs_rows.specs.Stage.{IsOver, Stage, row_now}
use Rattle.gs_rows.specs.Steady.{AreSteady}
use Rattle.gs_rows.proofs.Keeping.{script_is_steady, scripts_are_steady}
use Rattle.gs_order.specs.Orders.{AreOrdered, order_of, timed_upto}
use Rattle.gs_order.specs.inside.UnderWay.{after_clocks, with_due}
use Rattle.gs_order.specs.Laws.{ScriptsAreOrdered}
use Rattle.gs_order.specs.Waits.{wait_of}
use Rattle.gs_order.specs.declared.timed.Timed.{Timed}
use Rattle.gs_order.proofs.Beginning.{are_ordered, nodes_known, none_yet, upto_more}

-- the clocks of a play of these from equal clocks
abbrev pub play_clock : Plan → Said → ℕ → ℕ → ℕ
play_clock p s = clock_at (rows_of_script p s (zeros_of (net_of p)))

-- all events by the end of quantum t
abbrev pub events_by : Plan → Said → ℕ → ℕ → List Timed
events_by p s every t = timed_upto (play_clock p s) (wait_of p) (graph_of p).nodes every t

pub begins_order : (p : Plan) (s : Said) (every : ℕ) (x : Stage) (events : List Timed) → events ≡ [] → x.quanta ≡ 0
    → events ≡ events_by p s every x.quanta
begins_order p s every x events none zero =
    none ∙ sym (none_yet (play_clock p s) (wait_of p) (graph_of p).nodes every) ∙ ap (λ (t : ℕ). events_by p s every t) (sym zero)

pub stops_order : (p : Plan) (s : Said) (x : Stage) (stop : PlayStop) → x.plan ≡ p → x.said ≡ s
    → StopsAt (breach_of_script x.plan x.said) stop → StopsAt (breach_of_script p s) stop
stops_order p s x stop plan said at =
    subst (λ (r : Said). StopsAt (breach_of_script p r) stop) said
    (subst (λ (q : Plan). StopsAt (breach_of_script q x.said) stop) plan at)

-- the clocks of a stage of this play
pub row_of_stage : (p : Plan) (s : Said) (x : Stage) (row : List ℕ) → x.plan ≡ p → x.said ≡ s → x.l0s ≡ zeros_of (net_of p)
    → row ≡ (row_now x).clocks → row ≡ (row_at (rows_of_script p s (zeros_of (net_of p))) x.quanta).clocks
row_of_stage p s x row plan said zeros is =
    is
    ∙ ap (λ (q : Plan). (row_at (rows_of_script q x.said x.l0s) x.quanta).clocks) plan
    ∙ ap (λ (r : Said). (row_at (rows_of_script p r x.l0s) x.quanta).clocks) said
    ∙ ap (λ (l : List ℕ). (row_at (rows_of_script p s l) x.quanta).clocks) zeros

pub known_nodes : (p : Plan) (s : Said) (every t : ℕ) (events : List Timed) → IsTopology (graph_of p) → events ≡ events_by p s every t
    → All (λ e. e.node < (graph_of p).nodes) events
known_nodes p s every t events graph is =
    let some = graph.some in
    nodes_known (play_clock p s) (wait_of p) (graph_of p).nodes every t events (omega (arith, some)) is

-- one quantum more
pub goes_on_order : (p : Plan) (s : Said) (every t : ℕ) (x : Stage) (row : List ℕ) (old new : List Timed) → 1 ≤ every → x.quanta ≡ t + 1
    → row ≡ (row_at (rows_of_script p s (zeros_of (net_of p))) x.quanta).clocks → old ≡ events_by p s every t
    → new ≡ with_due every x.quanta (graph_of p).nodes row (map (after_clocks (wait_of p) x.quanta row) old)
    → new ≡ events_by p s every x.quanta
goes_on_order p s every t x row old new some next is events step =
    let clock : ℕ → ℕ → ℕ = play_clock p s in
    let n : ℕ = (graph_of p).nodes in
    let wait : ℕ = wait_of p in
    let at : (v : ℕ) → slice_index row v ≡ clock (t + 1) v = λ v.
    ap (λ (l : List ℕ). slice_index l v) is
    ∙ ap (λ (u : ℕ). clock u v) next in
    step
    ∙ ap (λ (u : ℕ). with_due every u n row (map (after_clocks wait u row) old)) next
    ∙ ap (λ (es : List Timed). with_due every (t + 1) n row (map (after_clocks wait (t + 1) row) es)) events
    ∙ upto_more clock wait n every t row (omega (arith, some)) at
    ∙ ap (λ (u : ℕ). events_by p s every u) (sym next)

-- what a quantum does, in the numbers of the stage and the graph
pub step_here : (p : Plan) (every t n : ℕ) (x : Stage) (row : List ℕ) (old new : List Timed) → t ≡ x.quanta → n ≡ (graph_of p).nodes
    → new ≡ with_due every t n row (map (after_clocks (wait_of p) t row) old)
    → new ≡ with_due every x.quanta (graph_of p).nodes row (map (after_clocks (wait_of p) x.quanta row) old)
step_here p every t n x row old new at nodes step =
    step
    ∙ ap (λ (u : ℕ). with_due every u n row (map (after_clocks (wait_of p) u row) old)) at
    ∙ ap (λ (m : ℕ). with_due every x.quanta m row (map (after_clocks (wait_of p) x.quanta row) old)) nodes

-- ---- where all is played

pub is_order : (p : Plan) (s : Said) (every : ℕ) (x : Stage) (events : List Timed) → x.plan ≡ p → x.said ≡ s → IsOver x
    → events ≡ events_by p s every x.quanta → events ≡ order_of p s every
is_order p s every x events plan said over is =
    is ∙ ap (λ (t : ℕ). events_by p s every t) (over.quanta ∙ ap (λ (r : Said). r.quanta) said)

pub no_breach : (p : Plan) (s : Said) (x : Stage) → x.plan ≡ p → x.said ≡ s → IsOver x → breach_of_script p s ≡ None
no_breach p s x plan said over =
    subst (λ (r : Said). breach_of_script p r ≡ None) said
    (subst (λ (q : Plan). breach_of_script q x.said ≡ None) plan over.breach)

over_of : (p : Plan) (s : Said) (x : Stage) → x.plan ≡ p → x.said ≡ s → x.l0s ≡ zeros_of (net_of p) → IsOver x
    → IsOver (record { plan = p; said = s; l0s = zeros_of (net_of p); quanta = x.quanta })
over_of p s x plan said zeros over =
    subst (λ (l : List ℕ). IsOver (record { plan = p; said = s; l0s = l; quanta = x.quanta })) zeros
    (subst (λ (r : Said). IsOver (record { plan = p; said = r; l0s = x.l0s; quanta = x.quanta })) said
    (subst (λ (q : Plan). IsOver (record { plan = q; said = x.said; l0s = x.l0s; quanta = x.quanta })) plan over))

-- events of steady rows are ordered
order_of_steady : (p : Plan) (s : Said) (every : ℕ) → 1 ≤ every
    → AreSteady (net_of p) (rows_of_script p s (zeros_of (net_of p))) s.quanta → AreOrdered (order_of p s every)
order_of_steady p s every some steady =
    let graph : IsTopology (graph_of p) = plan_is_graph (text_of p) (graph_of p) p.accepted p.graph in
    let one = graph.some in
    let wait = skew_is (text_of p) (graph_of p) (rate_of p) p.rates in
    are_ordered (play_clock p s) (wait_of p) (graph_of p).nodes every s.quanta (order_of p s every) (omega (arith, some)) (omega (arith, one))
    (λ t v w ht hv hw. let k = steady.skew t v w ht hv hw in omega (arith, k, wait))
    (λ a b v le hb hv. steady.rises a b v le hb hv)
    refl

pub is_ordered : (p : Plan) (s : Said) (every : ℕ) (x : Stage) (events : List Timed) → 1 ≤ every
    → x.plan ≡ p → x.said ≡ s → x.l0s ≡ zeros_of (net_of p) → IsOver x → events ≡ events_by p s every x.quanta → AreOrdered events
is_ordered p s every x events some plan said zeros over is =
    let here = over_of p s x plan said zeros over in
    subst (λ (es : List Timed). AreOrdered es) (sym (is_order p s every x events plan said over is))
    (order_of_steady p s every some (script_is_steady p s here.allowed))

-- So are those of every script without a breach.
pub scripts_are_ordered : ScriptsAreOrdered
scripts_are_ordered p s every some same is none = order_of_steady p s every some (scripts_are_steady p s same is none)
