-- What is read as a script for an accepted plan keeps the bounds of the plan.
use Rattle.std.proofs.Common.{◌≡◌, ◌≤◌, ℕ, ◌+◌, nat_le, Bool, true, false, List, [], ◌∷◌, All}
use Rattle.std.proofs.Common.{Result, Ok, Err, IfOk, if◌then◌else◌, codes, refl}
use Rattle.std.proofs.lemmas.List.Elements.{All-cons, All-nil}
use Rattle.gs_planfile.specs.declared.text.PlanText.{PlanText}
use Rattle.gs_plan.specs.Faults.{is_outside}
use Rattle.gs_plan.specs.Plans.{text_of}
use Rattle.gs_plan.specs.declared.plan.Plan.{Plan}
use Rattle.gs_plan.proofs.Accepting.{inside}
use Rattle.gs_script.specs.Checks.{flag_in, is_delay_outside, is_large, quanta_in, span_in, who_in}
use Rattle.gs_script.specs.Fields.{◌>>=◌, begins_with, count_in, node_at, number_at, require, texts_in, word_at}
use Rattle.gs_script.specs.inside.Kept.{Fits}
use Rattle.gs_script.specs.Reading.{beacon_fields, delay_at, drift_at, line_at, line_of, lines_from, loss_at}
use Rattle.gs_script.specs.Reading.{max_records, node_fields, quanta_at, script_of_records, steady_of, tick_at}
pub use Rattle.gs_script.specs.Laws.{IsReadOf}
use Rattle.gs_script.specs.declared.fault.ScriptFault.{ScriptFault}
use Rattle.gs_script.specs.declared.fault.ScriptFault.TheVariants as fault
use Rattle.gs_script.specs.declared.fields.Word.{Word}
use Rattle.gs_script.specs.declared.fields.Word.TheVariants.{Quanta, Drift, Tick, Delay, Loss}
use Rattle.gs_script.specs.declared.line.Span.{Span}
use Rattle.gs_script.specs.declared.line.Who.{Who}
use Rattle.gs_script.proofs.Within.{plan_bounds, script_within}

-- ---- one step after the other

-- what holds of all that the next step gives
passes : {A B : Type 0} (first : Result A ScriptFault) (next : A → Result B ScriptFault) (Q : B → Type 0)
    → ((x : A) → IfOk (next x) Q) → IfOk (first >>= next) Q
passes (Ok x) next Q rest = rest x
passes (Err e) next Q rest = tt

-- the same where something is known of the first
goes_on : {A B : Type 0} (first : Result A ScriptFault) (next : A → Result B ScriptFault) (P : A → Type 0) (Q : B → Type 0)
    → IfOk first P → ((x : A) → P x → IfOk (next x) Q) → IfOk (first >>= next) Q
goes_on (Ok x) next P Q here rest = rest x here
goes_on (Err e) next P Q here rest = tt

-- the same where the first is a test
tested : {A B : Type 0} (bad : Bool) (e : ScriptFault) (x : A) (next : A → Result B ScriptFault) (Q : B → Type 0)
    → (bad ≡ false → IfOk (next x) Q) → IfOk ((if bad then Err e else Ok x) >>= next) Q
tested true e x next Q rest = tt
tested false e x next Q rest = rest refl

-- ---- records

-- the value of a record of nodes is within its bounds
node_fields_within : (t : PlanText) (quanta low high k : ℕ) (fs : List (List ℕ))
    → IfOk (node_fields t quanta low high k fs) (λ said. (low ≤ said.2) × (said.2 ≤ high))
unfolding node_fields
node_fields_within t quanta low high k fs =
    let Q : Who × Span × ℕ → Type 0 = λ said. (low ≤ said.2) × (said.2 ≤ high) in
    passes (count_in 5 k fs) _ Q (λ count.
    passes (node_at k fs 1) _ Q (λ node.
    passes (number_at k fs 2) _ Q (λ from.
    passes (number_at k fs 3) _ Q (λ to.
    passes (number_at k fs 4) _ Q (λ number.
    passes (who_in t k node) _ Q (λ who.
    passes (span_in quanta k from to) _ Q (λ span.
    tested (is_outside low high number) (fault.Bound k) number _ Q (inside low high number))))))))

drift_fits : (t : PlanText) (quanta k : ℕ) (fs : List (List ℕ)) → IfOk (drift_at t quanta k fs) (Fits t)
unfolding drift_at
drift_fits t quanta k fs =
    goes_on (node_fields t quanta t.lo t.hi k fs) _ (λ said. (t.lo ≤ said.2) × (said.2 ≤ t.hi)) (Fits t)
    (node_fields_within t quanta t.lo t.hi k fs) (λ said within. within)

tick_fits : (t : PlanText) (quanta k : ℕ) (fs : List (List ℕ)) → IfOk (tick_at t quanta k fs) (Fits t)
unfolding tick_at
tick_fits t quanta k fs =
    goes_on (node_fields t quanta 1 t.tick k fs) _ (λ said. (1 ≤ said.2) × (said.2 ≤ t.tick)) (Fits t)
    (node_fields_within t quanta 1 t.tick k fs) (λ said within. within)

delay_fits : (t : PlanText) (quanta k : ℕ) (fs : List (List ℕ)) → IfOk (delay_at t quanta k fs) (Fits t)
unfolding delay_at
delay_fits t quanta k fs =
    passes (beacon_fields t quanta k fs) _ (Fits t) (λ said.
    tested (is_delay_outside t said.0 said.1 said.3) (fault.Bound k) said.3 _ (Fits t) (λ sound. sound))

loss_fits : (t : PlanText) (quanta k : ℕ) (fs : List (List ℕ)) → IfOk (loss_at t quanta k fs) (Fits t)
unfolding loss_at
loss_fits t quanta k fs =
    passes (beacon_fields t quanta k fs) _ (Fits t) (λ said.
    passes (flag_in k said.3) _ (Fits t) (λ is_lost. tt))

word_fits : (t : PlanText) (quanta k : ℕ) (fs : List (List ℕ)) (word : Word) → IfOk (line_of t quanta k fs word) (Fits t)
word_fits t quanta k fs Quanta = tt
word_fits t quanta k fs Drift = drift_fits t quanta k fs
word_fits t quanta k fs Tick = tick_fits t quanta k fs
word_fits t quanta k fs Delay = delay_fits t quanta k fs
word_fits t quanta k fs Loss = loss_fits t quanta k fs

line_fits : (t : PlanText) (quanta k : ℕ) (fs : List (List ℕ)) → IfOk (line_at t quanta k fs) (Fits t)
unfolding line_at
line_fits t quanta k fs =
    passes (texts_in k fs) _ (Fits t) (λ texts.
    passes (require (nat_le k max_records) fault.Large) _ (Fits t) (λ room.
    passes (word_at k fs) _ (Fits t) (λ word. word_fits t quanta k fs word)))

lines_fit : (t : PlanText) (quanta k : ℕ) (rows : List (List (List ℕ))) → IfOk (lines_from t quanta k rows) (All (Fits t))
unfolding lines_from
lines_fit t quanta k [] = All-nil (Fits t)
lines_fit t quanta k (r ∷ rs) =
    goes_on (line_at t quanta k r) _ (Fits t) (All (Fits t)) (line_fits t quanta k r) (λ l fits.
    goes_on (lines_from t quanta (k + 1) rs) _ (All (Fits t)) (All (Fits t)) (lines_fit t quanta (k + 1) rs) (λ ls all.
    All-cons (Fits t) l ls fits all))

-- ---- scripts

quanta_within : (t : PlanText) (n : ℕ) → IfOk (quanta_in t n) (λ q. is_large t q ≡ false)
quanta_within t n = pick (is_large t n) refl where
  pick : (large : Bool) → is_large t n ≡ large
      → IfOk {E = ScriptFault} (if large then Err fault.Large else Ok n) (λ q. is_large t q ≡ false)
  pick true is = tt
  pick false is = is

first_within : (t : PlanText) (fs : List (List ℕ)) → IfOk (quanta_at t fs) (λ q. is_large t q ≡ false)
unfolding quanta_at
first_within t fs =
    passes (texts_in 1 fs) _ (λ q. is_large t q ≡ false) (λ texts.
    passes (require (begins_with (codes "quanta") fs) fault.First) _ (λ q. is_large t q ≡ false) (λ word.
    passes (count_in 2 1 fs) _ (λ q. is_large t q ≡ false) (λ count.
    passes (number_at 1 fs 1) _ (λ q. is_large t q ≡ false) (λ n. quanta_within t n))))

pub records_read : (p : Plan) (rows : List (List (List ℕ))) → IfOk (script_of_records (text_of p) rows) (IsReadOf (text_of p))
unfolding script_of_records
records_read p [] = tt
records_read p (r ∷ rs) =
    let t : PlanText = text_of p in
    goes_on (quanta_at t r) _ (λ n. is_large t n ≡ false) (IsReadOf t) (first_within t r) (λ n small.
    goes_on (lines_from t n 2 rs) _ (All (Fits t)) (IsReadOf t) (lines_fit t n 2 rs) (λ ls fits.
    (refl, script_within t n ls (plan_bounds p) fits small)))

pub steady_read : (p : Plan) (n : ℕ) → IfOk (steady_of (text_of p) n) (IsReadOf (text_of p))
steady_read p n =
    let t : PlanText = text_of p in
    goes_on (quanta_in t n) _ (λ q. is_large t q ≡ false) (IsReadOf t) (quanta_within t n) (λ q small.
    (refl, script_within t q [] (plan_bounds p) (All-nil (Fits t)) small))
