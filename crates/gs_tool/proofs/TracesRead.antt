-- A plan and a trace are read one after the other, and what keeps a command from them answers it.
use Rattle.std.proofs.Common.{◌≡◌, ℕ, inl, inr, List, Result, Ok, Err, IfErr, subst, sym}
use Rattle.std.specs.Result.{IsErrAnd}
use Rattle.gs_plan.specs.declared.plan.Plan.{Plan}
use Rattle.gs_cli.specs.Answers.{Answer}
use Rattle.gs_cli.specs.Stops.{EndsWith, StopsAt, StopsWith}
use Rattle.gs_cli.specs.declared.reply.Reply.{Reply}
use Rattle.gs_cli.specs.declared.stop.Stop.{Stop}
use Rattle.gs_cli.specs.declared.stop.Stop.TheVariants.{Refused, OutOfMemory}
use Rattle.gs_inputs.specs.Plans.{plan_in}
use Rattle.gs_inputs.specs.Sources.{FilesSeen, IsFault, IsFile, IsRead, Source}
use Rattle.gs_tool.specs.TraceInputs.{AreNoTraceInputs, IsAnswerAlong}
use Rattle.gs_inputs.specs.declared.source.Kind.TheVariants as kind
use Rattle.gs_inputs.proofs.Reading.{IsLater, both, failed_over, handed_on, read_over, stops_as}

-- what the second read says of a file holds over both
file_over : (most : ℕ) (first second : FilesSeen) (word bytes : List ℕ) → IsLater first second → IsFile most second word bytes
    → IsFile most (both first second) word bytes
file_over most first second word bytes in_turn (holds, short) = (rw (← in_turn.same) holds, short)

fault_over : (most : ℕ) (first second : FilesSeen) (word : List ℕ) (answer : Answer) → IsLater first second
    → IsFault most second word answer → IsFault most (both first second) word answer
fault_over most first second word answer in_turn fault = elim fault [
  | inl long ↦ inl (rw (← in_turn.same) long.0, long.1)
  | inr failed ↦ inr (failed_over first second word in_turn failed.0, failed.1)
]

-- the plan's file was read, and the trace's was not
pub no_trace : {T : Type 0} (first second : FilesSeen) (plan trace : List ℕ) (source : Source)
    (result : Result T Stop) (stop : Stop) → IsErrAnd result (λ found. found ≡ stop)
    → IsLater first second → IsRead first kind.Plan plan source → StopsWith (IsFault 67108864 second trace) stop
    → IfErr result (StopsWith (AreNoTraceInputs (both first second) plan trace))
no_trace first second plan trace source result stop found in_turn is_read stops =
    let Stops : Answer → Type 0 = AreNoTraceInputs (both first second) plan trace in
    handed_on Stops result stop found (stops_as {Is = Stops} {Was = IsFault 67108864 second trace} stop
    (λ answer fault. inr (inl (
      (source, read_over first second kind.Plan plan source in_turn is_read),
      fault_over 67108864 first second trace answer in_turn fault,
    ))) stops)

-- both were read, and the plan is refused
pub no_plan_of_both : {T : Type 0} (first second : FilesSeen) (plan trace : List ℕ) (source : Source) (bytes : List ℕ)
    (result : Result T Stop) (stop : Stop) → IsErrAnd result (λ found. found ≡ stop)
    → IsLater first second → IsRead first kind.Plan plan source → IsFile 67108864 second trace bytes
    → StopsAt (plan_in source) stop → IfErr result (StopsWith (AreNoTraceInputs (both first second) plan trace))
no_plan_of_both first second plan trace source bytes result (Refused reply) found in_turn is_read is_file refused =
    handed_on (AreNoTraceInputs (both first second) plan trace) result (Refused reply) found (inr (inr (
      bytes,
      file_over 67108864 first second trace bytes in_turn is_file,
      (source, read_over first second kind.Plan plan source in_turn is_read, refused),
    )))
no_plan_of_both first second plan trace source bytes result OutOfMemory found in_turn is_read is_file refused =
    handed_on (AreNoTraceInputs (both first second) plan trace) result OutOfMemory found refused

-- what keeps a command from its inputs answers it
pub none_along : (Is : Plan → List ℕ → Answer → Type 0) (files : FilesSeen) (plan trace : List ℕ)
    (result : Result Reply Stop) (stop : Stop) → IsErrAnd result (λ found. found ≡ stop)
    → StopsWith (AreNoTraceInputs files plan trace) stop → EndsWith (IsAnswerAlong files plan trace Is) result
none_along Is files plan trace (Ok reply) stop found stops = absurd found
none_along Is files plan trace (Err end) (Refused reply) found stops =
    subst (StopsWith (IsAnswerAlong files plan trace Is)) (sym found) (inr stops)
none_along Is files plan trace (Err end) OutOfMemory found stops =
    subst (StopsWith (IsAnswerAlong files plan trace Is)) (sym found) stops
