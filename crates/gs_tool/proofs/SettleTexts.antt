-- What `settle` answers.
use Rattle.std.proofs.Common.{◌≡◌, ℕ, suc, ◌+◌, List, Option, None, arith, ap, refl, ◌∙◌, length, slice_index, slice_index_or}
use Rattle.std.proofs.lemmas.List.FromFn.{length-map-range_with_len}
use Rattle.gs_plan.specs.Plans.{text_of}
use Rattle.gs_plan.specs.declared.plan.Plan.{Plan}
use Rattle.gs_script.specs.Script.{Said}
use Rattle.gs_calendar.specs.Scripts.{breach_of_script}
use Rattle.gs_settle.specs.Plays.{fast_from_gamma, last_of_level, last_upto, rows_from_gamma}
use Rattle.gs_settle.specs.Times.{level_time, times_of}
use Rattle.gs_rows.specs.Row.{Row}
use Rattle.gs_run.specs.Nets.{net_of}
use Rattle.gs_cli.specs.Answers.{Answer}
use Rattle.gs_cli.specs.declared.status.Status.TheVariants as status
use Rattle.gs_tool.specs.Runs.{IsTold}
use Rattle.gs_tool.specs.Settled.{settled, settled_text, with_time, with_times}
use Rattle.gs_tool.proofs.Playing.{stopped_by, told_of}

-- one more level has one more line
pub one_more_time : (text : List ℕ) (plan : Plan) (times : List ℕ) (last : List (Option ℕ)) (n : ℕ)
    → with_times text plan times last (n + 1)
    ≡ with_time (with_times text plan times last n) plan n (slice_index times n) (slice_index_or last n None)
one_more_time text plan times last n = let e : n + 1 ≡ suc n = omega arith in rw e refl

-- one time and one last quantum a level
pub long_times : (plan : Plan) (gamma : ℕ) (times : List ℕ) → times ≡ times_of plan gamma → length times ≡ (text_of plan).levels + 1
long_times plan gamma times is =
    ap (λ (l : List ℕ). length l) is ∙ length-map-range_with_len (level_time (net_of plan) gamma) 0 ((text_of plan).levels + 1)

pub long_last : (plan : Plan) (rows : List Row) (t : ℕ) (last : List (Option ℕ)) → last ≡ last_upto plan rows t
    → length last ≡ (text_of plan).levels + 1
long_last plan rows t last is =
    ap (λ (l : List (Option ℕ)). length l) is ∙ length-map-range_with_len (last_of_level plan rows t) 0 ((text_of plan).levels + 1)

-- the times and the last quanta of a script without a breach
pub settled_by : (plan : Plan) (said : Said) (gamma quanta : ℕ) (times : List ℕ) (last : List (Option ℕ)) (fast : ℕ) (answer : Answer)
    → breach_of_script plan said ≡ None → quanta ≡ said.quanta → times ≡ times_of plan gamma
    → last ≡ last_upto plan (rows_from_gamma plan said gamma) said.quanta → fast ≡ fast_from_gamma plan said gamma
    → answer ≡ record { status = status.Done; text = settled_text plan quanta gamma times last fast }
    → IsTold (settled gamma) plan said answer
settled_by plan said gamma quanta times last fast answer none same_quanta same_times same_last same_fast tells =
    told_of (settled gamma) plan said answer none (rw (same_quanta, same_times, same_last, same_fast) at tells)

pub ruleset times = (one_more_time)

pub ruleset settling = (settled_by, stopped_by, long_times, long_last)
