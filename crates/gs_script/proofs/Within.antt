-- The values of a script are within the bounds of its plan.
use Rattle.std.proofs.Common.{◌≡◌, ℕ, ◌≤◌, ◌+◌, ◌*◌, arith, refl, cond, nat_lt, length, unwrap_or, ◌&&◌, IfSome, Bool, true, false, List, [], ◌∷◌, All, Option, Some, None}
use Rattle.std.specs.Option.{option_or}
use Rattle.std.proofs.lemmas.Bool.{ltb-false}
use Rattle.std.proofs.lemmas.List.Elements.{All-head, All-tail}
use Rattle.gs_units.specs.Rates.{HasNumbers}
use Rattle.gs_units.specs.declared.rate.Rate.{Rate}
use Rattle.gs_topo.specs.Graph.{Adjacent}
use Rattle.gs_planfile.specs.declared.text.PlanText.{PlanText}
use Rattle.gs_plan.specs.Accepted.{IsAccepted}
use Rattle.gs_plan.specs.Edges.{edge_given}
use Rattle.gs_plan.specs.Plans.{text_of}
use Rattle.gs_plan.specs.Shapes.{graph_of_text}
use Rattle.gs_plan.specs.declared.plan.Plan.{Plan}
use Rattle.gs_plan.proofs.Accepting.{neither}
use Rattle.gs_plan.proofs.Linking.{fine_between}
use Rattle.gs_plan.proofs.Telling.{text_accepted}
use Rattle.gs_script.specs.declared.line.Line.{Line}
use Rattle.gs_script.specs.declared.line.Setting.{Setting}
use Rattle.gs_script.specs.declared.line.Setting.TheVariants as sets
use Rattle.gs_script.specs.Checks.{is_large}
use Rattle.gs_script.specs.inside.Kept.{Fits, SettingFits}
use Rattle.gs_script.specs.Lines.{delay_said, gap_said, holds, inc_said, is_for, last_said}
use Rattle.gs_script.specs.Script.{IsScript, least_delay}
use Rattle.gs_script.proofs.Delays.{least_in_range, matched_in_range}

-- what holds of the default, and of what each record says, holds of what is said last
last_within : (said : Setting → Option ℕ) (t : ℕ) (P : Setting → Type 0) (Q : ℕ → Type 0) (d : ℕ) → Q d → ((s : Setting) → P s → IfSome (said s) Q)
    → (ls : List Line) → All (λ l. P l.setting) ls → Q (unwrap_or (last_said said t ls) d)
unfolding last_said
last_within said t P Q d base step [] all = base
last_within said t P Q d base step (l ∷ ls) all = pick (last_said said t ls) (last_within said t P Q d base step ls (All-tail (λ l. P l.setting) l ls all)) where
  one : (h : Bool) (o : Option ℕ) → IfSome o Q → Q (unwrap_or (cond h o None) d)
  one false o is = base
  one true None is = base
  one true (Some y) is = is

  pick : (o : Option ℕ) → Q (unwrap_or o d) → Q (unwrap_or (option_or o (cond (holds l.span t) (said l.setting) None)) d)
  pick (Some y) h = h
  pick None h = one (holds l.span t) (said l.setting) (step l.setting (All-head (λ l. P l.setting) l ls all))

if_said : (b : Bool) (y : ℕ) (Q : ℕ → Type 0) → (b ≡ true → Q y) → IfSome (cond b (Some y) None) Q
if_said true y Q h = h refl
if_said false y Q h = tt

drift_fits : (t : PlanText) (v : ℕ) (s : Setting) → SettingFits t s → IfSome (inc_said v s) (λ y. (t.lo ≤ y) × (y ≤ t.hi))
drift_fits t v (sets.Drift node inc) fits = if_said (is_for node v) inc (λ y. (t.lo ≤ y) × (y ≤ t.hi)) (λ is. fits)
drift_fits t v (sets.Tick node gap) fits = tt
drift_fits t v (sets.Delay from to quanta) fits = tt
drift_fits t v (sets.Loss from to is_lost) fits = tt

tick_fits : (t : PlanText) (v : ℕ) (s : Setting) → SettingFits t s → IfSome (gap_said v s) (λ y. (1 ≤ y) × (y ≤ t.tick))
tick_fits t v (sets.Tick node gap) fits = if_said (is_for node v) gap (λ y. (1 ≤ y) × (y ≤ t.tick)) (λ is. fits)
tick_fits t v (sets.Drift node inc) fits = tt
tick_fits t v (sets.Delay from to quanta) fits = tt
tick_fits t v (sets.Loss from to is_lost) fits = tt

delay_fits : (t : PlanText) (v w : ℕ) → Adjacent (graph_of_text t) v w → (s : Setting) → SettingFits t s
    → IfSome (delay_said v w s) (λ y. (least_delay (edge_given t (v, w)).delay_min ≤ y) × (y ≤ (edge_given t (v, w)).delay_max))
delay_fits t v w next (sets.Delay from to quanta) fits =
    if_said (is_for from v && is_for to w) quanta (λ y. (least_delay (edge_given t (v, w)).delay_min ≤ y) × (y ≤ (edge_given t (v, w)).delay_max))
    (λ is. matched_in_range t from to quanta v w fits next is)
delay_fits t v w next (sets.Drift node inc) fits = tt
delay_fits t v w next (sets.Tick node gap) fits = tt
delay_fits t v w next (sets.Loss from to is_lost) fits = tt

-- the bounds of a plan
pub record HasBounds (t : PlanText) : Type 0 where
  pub rates : t.lo ≤ t.hi
  pub accepted : IsAccepted t (graph_of_text t)

ordered : (low high boost : ℕ) (rate : Rate) → HasNumbers low high boost rate → low ≤ high
ordered low high boost rate numbers =
    let rates = rate.accepted in
    let lo : rate.lo ≡ low = numbers.lo in
    let hi : rate.hi ≡ high = numbers.hi in
    omega (arith, rates, lo, hi)

pub plan_bounds : (p : Plan) → HasBounds (text_of p)
plan_bounds p = record {
  rates = ordered p.text.lo p.text.hi p.text.mu p.rate p.rates;
  accepted = text_accepted p.text p.accepted;
}

-- the records within the bounds of a plan make a script
pub script_within : (t : PlanText) (q : ℕ) (ls : List Line) → HasBounds t → All (Fits t) ls → is_large t q ≡ false → IsScript (record { text = t; quanta = q; lines = ls })
script_within t q ls bounds all small =
    let size = (graph_of_text t).nodes + length (graph_of_text t).edges in
    let limits = neither (nat_lt 1048576 q) (nat_lt 67108864 (q * size)) small in
    let inc : (v i : ℕ) → (t.lo ≤ unwrap_or (last_said (inc_said v) i ls) t.lo) × (unwrap_or (last_said (inc_said v) i ls) t.lo ≤ t.hi) =
    λ v i. last_within (inc_said v) i (SettingFits t) (λ y. (t.lo ≤ y) × (y ≤ t.hi)) t.lo (omega arith, bounds.rates) (drift_fits t v) ls all in
    let gap : (v i : ℕ) → (1 ≤ unwrap_or (last_said (gap_said v) i ls) t.tick) × (unwrap_or (last_said (gap_said v) i ls) t.tick ≤ t.tick) =
    λ v i. last_within (gap_said v) i (SettingFits t) (λ y. (1 ≤ y) × (y ≤ t.tick)) t.tick (bounds.accepted.tick, omega arith) (tick_fits t v) ls all in
    let delay : (v w i : ℕ) → Adjacent (graph_of_text t) v w
    → (least_delay (edge_given t (v, w)).delay_min ≤ unwrap_or (last_said (delay_said v w) i ls) (least_delay (edge_given t (v, w)).delay_min))
    × (unwrap_or (last_said (delay_said v w) i ls) (least_delay (edge_given t (v, w)).delay_min) ≤ (edge_given t (v, w)).delay_max) =
    λ v w i next. last_within (delay_said v w) i (SettingFits t) (λ y. (least_delay (edge_given t (v, w)).delay_min ≤ y) × (y ≤ (edge_given t (v, w)).delay_max)) (least_delay (edge_given t (v, w)).delay_min)
    (least_in_range t (v, w) (fine_between t (graph_of_text t) v w bounds.accepted next)) (delay_fits t v w next) ls all in
    record {
      inc_low = λ v i. (inc v i).0;
      inc_high = λ v i. (inc v i).1;
      gap_low = λ v i. (gap v i).0;
      gap_high = λ v i. (gap v i).1;
      delay_low = λ v w i next. (delay v w i next).0;
      delay_high = λ v w i next. (delay v w i next).1;
      quanta = ltb-false 1048576 q limits.0;
      work = ltb-false 67108864 (q * size) limits.1;
    }
