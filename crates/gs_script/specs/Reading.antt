-- What a script file means: its records are looked at in order, and the first that is at fault decides.
use Rattle.std.specs.Prelude.{codes, ℕ, ◌+◌, nat_le, List, [], ◌∷◌, Result, Ok, Err}
use Rattle.csv.specs.Reading.{default_config, records_from, strip_bom}
use Rattle.csv.specs.declared.parser.State.TheVariants as st
use Rattle.gs_planfile.specs.declared.text.PlanText.{PlanText}
use Rattle.gs_script.specs.declared.fault.ScriptFault.{ScriptFault}
use Rattle.gs_script.specs.declared.fault.ScriptFault.TheVariants as fault
use Rattle.gs_script.specs.declared.fields.Word.{Word}
use Rattle.gs_script.specs.declared.fields.Word.TheVariants.{Quanta, Drift, Tick, Delay, Loss}
use Rattle.gs_script.specs.declared.line.Line.{Line}
use Rattle.gs_script.specs.declared.line.Setting.TheVariants as sets
use Rattle.gs_script.specs.declared.line.Span.{Span}
use Rattle.gs_script.specs.declared.line.Who.{Who}
use Rattle.gs_script.specs.Fields.{◌>>=◌, begins_with, count_in, node_at, number_at, require, texts_in, word_at}
use Rattle.gs_script.specs.Checks.{delay_in, edge_in, flag_in, quanta_in, span_in, value_within, who_in}
use Rattle.gs_script.specs.Script.{Said}

-- NODE,FROM,TO,VALUE: of whom, in which quanta, and the value, which is within low to high
unfoldable pub node_fields : PlanText → ℕ → ℕ → ℕ → ℕ → List (List ℕ) → Result (Who × Span × ℕ) ScriptFault
node_fields t quanta low high k fs = do
  count ← count_in 5 k fs
  node ← node_at k fs 1
  from ← number_at k fs 2
  to ← number_at k fs 3
  number ← number_at k fs 4
  who ← who_in t k node
  span ← span_in quanta k from to
  value ← value_within low high k number
  Ok (who, span, value)

-- drift,NODE,FROM,TO,INC
unfoldable pub drift_at : PlanText → ℕ → ℕ → List (List ℕ) → Result Line ScriptFault
drift_at t quanta k fs = do
  said ← node_fields t quanta t.lo t.hi k fs
  Ok (record { span = said.1; setting = sets.Drift said.0 said.2 })

-- tick,NODE,FROM,TO,GAP
unfoldable pub tick_at : PlanText → ℕ → ℕ → List (List ℕ) → Result Line ScriptFault
tick_at t quanta k fs = do
  said ← node_fields t quanta 1 t.tick k fs
  Ok (record { span = said.1; setting = sets.Tick said.0 said.2 })

-- SENDER,RECEIVER,FROM,TO,VALUE: from whom, to whom, in which quanta, and the number as it stands there
unfoldable pub beacon_fields : PlanText → ℕ → ℕ → List (List ℕ) → Result (Who × Who × Span × ℕ) ScriptFault
beacon_fields t quanta k fs = do
  count ← count_in 6 k fs
  first ← node_at k fs 1
  second ← node_at k fs 2
  from ← number_at k fs 3
  to ← number_at k fs 4
  number ← number_at k fs 5
  sender ← who_in t k first
  receiver ← who_in t k second
  edge ← edge_in t k sender receiver
  span ← span_in quanta k from to
  Ok (sender, receiver, span, number)

-- delay,SENDER,RECEIVER,FROM,TO,D
unfoldable pub delay_at : PlanText → ℕ → ℕ → List (List ℕ) → Result Line ScriptFault
delay_at t quanta k fs = do
  said ← beacon_fields t quanta k fs
  value ← delay_in t k said.0 said.1 said.3
  Ok (record { span = said.2; setting = sets.Delay said.0 said.1 value })

-- loss,SENDER,RECEIVER,FROM,TO,FLAG
unfoldable pub loss_at : PlanText → ℕ → ℕ → List (List ℕ) → Result Line ScriptFault
loss_at t quanta k fs = do
  said ← beacon_fields t quanta k fs
  is_lost ← flag_in k said.3
  Ok (record { span = said.2; setting = sets.Loss said.0 said.1 is_lost })

-- a record by its word
abbrev pub line_of : PlanText → ℕ → ℕ → List (List ℕ) → Word → Result Line ScriptFault
line_of t quanta k fs Quanta = Err (fault.Again k)
line_of t quanta k fs Drift = drift_at t quanta k fs
line_of t quanta k fs Tick = tick_at t quanta k fs
line_of t quanta k fs Delay = delay_at t quanta k fs
line_of t quanta k fs Loss = loss_at t quanta k fs

-- the most records of a script
abbrev pub max_records : ℕ
max_records = 4096

-- record k, from the second on
unfoldable pub line_at : PlanText → ℕ → ℕ → List (List ℕ) → Result Line ScriptFault
line_at t quanta k fs = do
  texts ← texts_in k fs
  room ← require (nat_le k max_records) fault.Large
  word ← word_at k fs
  line_of t quanta k fs word

-- the first record: quanta,N
unfoldable pub quanta_at : PlanText → List (List ℕ) → Result ℕ ScriptFault
quanta_at t fs = do
  texts ← texts_in 1 fs
  word ← require (begins_with (codes "quanta") fs) fault.First
  count ← count_in 2 1 fs
  n ← number_at 1 fs 1
  quanta_in t n

-- the records from number k on, or the first fault
unfoldable pub lines_from : PlanText → ℕ → ℕ → List (List (List ℕ)) → Result (List Line) ScriptFault
lines_from t quanta k [] = Ok []
lines_from t quanta k (r ∷ rs) = line_at t quanta k r >>= (λ l. lines_from t quanta (k + 1) rs >>= (λ ls. Ok (l ∷ ls)))

-- all records
unfoldable pub script_of_records : PlanText → List (List (List ℕ)) → Result Said ScriptFault
script_of_records t [] = Err fault.First
script_of_records t (r ∷ rs) =
    quanta_at t r >>= (λ n. lines_from t n 2 rs >>= (λ ls. Ok (record { text = t; quanta = n; lines = ls })))

-- What these bytes say as a script for a plan of this text, or the first fault. csv gives the records.
-- None behind the first that is too many is looked at, since that one is at fault.
abbrev pub script_of : PlanText → List ℕ → Result Said ScriptFault
script_of t bytes =
    script_of_records t (records_from default_config (max_records + 1) st.StartRecord (strip_bom bytes))

-- the script of the one record quanta,N
abbrev pub steady_of : PlanText → ℕ → Result Said ScriptFault
steady_of t n = quanta_in t n >>= (λ q. Ok (record { text = t; quanta = q; lines = [] }))
