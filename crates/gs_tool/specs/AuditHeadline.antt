-- What holds of every trace whose audit ends with status 0.
use Rattle.std.specs.Prelude.{◌≡◌, ℕ, List, Option, Some}
use Rattle.gs_io.specs.Held.{Appends}
use Rattle.gs_plan.specs.Plans.{text_of, graph_of}
use Rattle.gs_plan.specs.declared.plan.Plan.{Plan}
use Rattle.gs_core.specs.declared.event.Event.{Event}
use Rattle.gs_level.specs.ReportText.{report_text}
use Rattle.gs_run.specs.Nets.{net_of}
use Rattle.gs_run.specs.Run.{Allowed}
use Rattle.gs_trace.specs.Worlds.{SpellsWorld}
use Rattle.gs_trace.specs.declared.start.WorldStart.{WorldStart}
use Rattle.gs_audit.specs.Verdicts.{AreKept, report_at, world_at}
use Rattle.gs_tool.specs.Commands.{Audit, command_of}
use Rattle.gs_inputs.specs.Inputs.{IsPlan}
use Rattle.gs_inputs.specs.Sources.{FilesSeen}
use Rattle.gs_tool.specs.TraceInputs.{IsTrace}
use Rattle.gs_cli.specs.declared.status.Status.{Status}
use Rattle.gs_cli.specs.declared.status.Status.TheVariants.{Done}

-- The words PLAN and TRACE name an accepted plan and a file that spells a start and events of it to its last byte. All
-- events are allowed, so all bounds of the plan are kept; and their report was written, in which no number is above its
-- bound.
pub record IsAuditWithin (files : FilesSeen) (plan_word trace_word : List ℕ) (old new : Option (List ℕ)) : Type 0 where
  pub plan : Plan
  pub start : WorldStart
  pub events : List Event
  pub bytes : List ℕ
  pub is_plan : IsPlan files plan_word plan
  pub is_trace : IsTrace files trace_word bytes
  pub spelled : SpellsWorld (text_of plan).cluster (graph_of plan).nodes start events bytes
  pub allowed : Allowed (net_of plan) (world_at plan start) events
  pub kept : AreKept plan start events (report_at plan start events)
  pub written : Appends old new (report_text (text_of plan) (graph_of plan) (report_at plan start events))

-- Every audit that ends with `Done` is of such a trace.
abbrev pub AuditsKeepBounds : FilesSeen → List (List ℕ) → Option (List ℕ) → Option (List ℕ) → Status → Type 0
AuditsKeepBounds files words old new status =
    (plan trace : List ℕ) → command_of words ≡ Some (Audit plan trace) → status ≡ Done
    → IsAuditWithin files plan trace old new
