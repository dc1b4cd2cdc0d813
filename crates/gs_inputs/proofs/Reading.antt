-- What two reads give, one after the other.
use Rattle.std.proofs.Common.{◌≡◌, ℕ, ◌≤◌, inl, inr, List, Result, Ok, Err, IfErr, arith, sym, subst}
use Rattle.std.specs.Result.{IsErrAnd}
use Rattle.gs_io.specs.Causes.{Rose}
use Rattle.gs_plan.specs.Plans.{text_of}
use Rattle.gs_plan.specs.declared.plan.Plan.{Plan}
use Rattle.gs_script.specs.Script.{Said}
use Rattle.gs_cli.specs.Answers.{Answer}
use Rattle.gs_inputs.specs.Inputs.{AreNoInputs, IsAnswerOver}
use Rattle.gs_inputs.specs.Plans.{plan_in}
use Rattle.gs_cli.specs.Reply.{answer_in}
use Rattle.gs_inputs.specs.Scripts.{script_in}
use Rattle.gs_inputs.specs.SourceSeen.{AreRefused}
use Rattle.gs_inputs.specs.Sources.{FilesSeen, Source, Count, Text, HasFailed, IsRead, IsUnread, seen}
use Rattle.gs_cli.specs.Stops.{EndsWith, StopsAt, StopsWith}
use Rattle.gs_cli.specs.declared.reply.Reply.{Reply}
use Rattle.gs_inputs.specs.declared.source.Kind.{Kind}
use Rattle.gs_inputs.specs.declared.source.Kind.TheVariants as kind
use Rattle.gs_cli.specs.declared.stop.Stop.{Stop}
use Rattle.gs_cli.specs.declared.stop.Stop.TheVariants.{Refused, OutOfMemory}

-- a second read found the files as the first left them
pub record IsLater (first second : FilesSeen) : Type 0 where
  pub same : second.content ≡ first.content
  pub meets : second.before ≡ first.after
  pub earlier : (name : List ℕ) → first.before name ≤ first.after name

-- the files over both reads
abbrev pub both : FilesSeen → FilesSeen → FilesSeen
both first second = seen first.content first.before second.after

-- a count that rose had risen before
rose_over : (first before after : ℕ) → first ≤ before → Rose before after → Rose first after
rose_over first before after earlier rose = elim rose [ inl r ↦ inl (omega arith) | inr r ↦ inr r ]

pub failed_over : (first second : FilesSeen) (name : List ℕ) → IsLater first second → HasFailed second name
    → HasFailed (both first second) name
failed_over first second name in_turn failed = rose_over _ _ _ (
    subst (λ (count : List ℕ → ℕ). first.before name ≤ count name) (sym in_turn.meets) (in_turn.earlier name)
    ) failed

-- what the first read gave was given over both
pub read_over : (first second : FilesSeen) (kind : Kind) (word : List ℕ) (source : Source)
    → IsLater first second → IsRead first kind word source → IsRead (both first second) kind word source
read_over first second kind word (Count count) in_turn is_read = is_read
read_over first second kind word (Text bytes) in_turn is_read = is_read

-- and so was what the second gave
told_over : (first second : FilesSeen) (kind : Kind) (word : List ℕ) (source : Source)
    → IsLater first second → IsRead second kind word source → IsRead (both first second) kind word source
told_over first second kind word (Count count) in_turn is_read = is_read
told_over first second kind word (Text bytes) in_turn (is_file, file) = (is_file, (rw (← in_turn.same) file.0, file.1))

unread_over : (first second : FilesSeen) (kind : Kind) (word : List ℕ) (answer : Answer)
    → IsLater first second → IsUnread second kind word answer → IsUnread (both first second) kind word answer
unread_over first second kind word answer in_turn (is_file, fault) = (
  is_file,
  elim fault [
    | inl long ↦ inl (rw (← in_turn.same) long.0, long.1)
    | inr failed ↦ inr (failed_over first second word in_turn failed.0, failed.1)
  ],
)

-- a stop that is handed on as one of another kind
pub stops_as : {Is Was : Answer → Type 0} (stop : Stop)
    → ((answer : Answer) → Was answer → Is answer) → StopsWith Was stop → StopsWith Is stop
stops_as (Refused reply) turn stops = turn (answer_in reply) stops
stops_as OutOfMemory turn stops = stops

errs_as : {T : Type 0} {Is Was : Answer → Type 0} (result : Result T Stop)
    → ((answer : Answer) → Was answer → Is answer) → IfErr result (StopsWith Was) → IfErr result (StopsWith Is)
errs_as (Ok value) turn stops = tt
errs_as (Err stop) turn stops = stops_as stop turn stops

pub handed_on : {T : Type 0} (Is : Answer → Type 0) (result : Result T Stop) (stop : Stop)
    → IsErrAnd result (λ found. found ≡ stop) → StopsWith Is stop → IfErr result (StopsWith Is)
handed_on Is (Ok value) stop found stops = tt
handed_on Is (Err end) stop found stops = subst (StopsWith Is) (sym found) stops

-- a script that is refused, behind a plan that is not
pub script_stops : {T : Type 0} (plan_source script_source : Source) (plan : Plan) (result : Result T Stop) (stop : Stop)
    → IsErrAnd result (λ found. found ≡ stop) → plan_in plan_source ≡ Ok (text_of plan)
    → StopsAt (script_in (text_of plan) script_source) stop
    → IfErr result (StopsWith (AreRefused plan_source script_source))
script_stops plan_source script_source plan result (Refused reply) found is refused =
    handed_on (AreRefused plan_source script_source) result (Refused reply) found (inr (plan, is, refused))
script_stops plan_source script_source plan result OutOfMemory found is refused =
    handed_on (AreRefused plan_source script_source) result OutOfMemory found refused

-- the plan's file was read, and the script's was not
pub no_script : {T : Type 0} (first second : FilesSeen) (plan script : List ℕ) (source : Source)
    (result : Result T Stop) (stop : Stop) → IsErrAnd result (λ found. found ≡ stop)
    → IsLater first second → IsRead first kind.Plan plan source → StopsWith (IsUnread second kind.Script script) stop
    → IfErr result (StopsWith (AreNoInputs (both first second) plan script))
no_script first second plan script source result stop found in_turn is_read stops =
    let Stops : Answer → Type 0 = AreNoInputs (both first second) plan script in
    handed_on Stops result stop found (stops_as {Is = Stops} {Was = IsUnread second kind.Script script} stop
    (λ answer unread. inr (inl (
      (source, read_over first second kind.Plan plan source in_turn is_read),
      unread_over first second kind.Script script answer in_turn unread,
    ))) stops)

-- both were read, and one is refused
pub none_accepted : {T : Type 0} (first second : FilesSeen) (plan script : List ℕ) (source told : Source) (result : Result T Stop)
    → IsLater first second → IsRead first kind.Plan plan source → IsRead second kind.Script script told
    → IfErr result (StopsWith (AreRefused source told))
    → IfErr result (StopsWith (AreNoInputs (both first second) plan script))
none_accepted first second plan script source told result in_turn is_read is_told stops =
    let plan_read : IsRead (both first second) kind.Plan plan source =
    read_over first second kind.Plan plan source in_turn is_read in
    let script_read : IsRead (both first second) kind.Script script told =
    told_over first second kind.Script script told in_turn is_told in
    errs_as {Is = AreNoInputs (both first second) plan script} {Was = AreRefused source told} result
    (λ answer refused. elim refused [
      | inl no_plan ↦ inr (inr (inl ((told, script_read), (source, plan_read, no_plan))))
      | inr accepted ↦ inr (inr (inr (accepted.0, (source, plan_read, accepted.1), (told, script_read, accepted.2))))
    ]) stops

-- what keeps a command from its inputs answers it
pub none_over : (Is : Plan → Said → Answer → Type 0) (files : FilesSeen) (plan script : List ℕ)
    (result : Result Reply Stop) (stop : Stop) → IsErrAnd result (λ found. found ≡ stop)
    → StopsWith (AreNoInputs files plan script) stop → EndsWith (IsAnswerOver files plan script Is) result
none_over Is files plan script (Ok reply) stop found stops = absurd found
none_over Is files plan script (Err end) (Refused reply) found stops =
    subst (StopsWith (IsAnswerOver files plan script Is)) (sym found) (inr stops)
none_over Is files plan script (Err end) OutOfMemory found stops =
    subst (StopsWith (IsAnswerOver files plan script Is)) (sym found) stops
