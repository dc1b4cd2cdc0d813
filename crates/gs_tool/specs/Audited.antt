-- What `audit` and `replay` answer, over an accepted plan and the bytes of a trace.
use Rattle.std.specs.Prelude.{◌≡◌, ℕ, ◌<◌, ◌≤◌, ◌⊎◌, List, ◌++◌, Some, codes, decimal, length}
use Rattle.gs_units.specs.declared.params.NodeParams.{NodeParams}
use Rattle.gs_units.specs.declared.rate.Mode.{Mode}
use Rattle.gs_units.specs.declared.rate.Mode.TheVariants.{Slow, Fast}
use Rattle.gs_plan.specs.Plans.{graph_of, params_for, text_of}
use Rattle.gs_plan.specs.declared.plan.Plan.{Plan}
use Rattle.gs_core.specs.FaultWords.{why_of as node_why}
use Rattle.gs_core.specs.declared.event.Event.{Event}
use Rattle.gs_core.specs.declared.event.NodeEvent.{NodeEvent}
use Rattle.gs_level.specs.ReportText.{report_text}
use Rattle.gs_run.specs.FaultWords.{why_of as event_why}
use Rattle.gs_trace.specs.Nodes.{SpellsNode, node_fault}
use Rattle.gs_trace.specs.FaultWords.{why_of as trace_why}
use Rattle.gs_trace.specs.Worlds.{SpellsWorld, world_fault}
use Rattle.gs_trace.specs.declared.fault.TraceFault.{TraceFault}
use Rattle.gs_trace.specs.declared.start.NodeStart.{NodeStart}
use Rattle.gs_trace.specs.declared.start.WorldStart.{WorldStart}
use Rattle.gs_audit.specs.NodeVerdicts.{node_verdict_of}
use Rattle.gs_audit.specs.Verdicts.{verdict_of}
use Rattle.gs_audit.specs.declared.verdict.NodeVerdict.{NodeVerdict}
use Rattle.gs_audit.specs.declared.verdict.NodeVerdict.TheVariants as node
use Rattle.gs_audit.specs.declared.verdict.Verdict.{Verdict}
use Rattle.gs_audit.specs.declared.verdict.Verdict.TheVariants as world
use Rattle.gs_cli.specs.Answers.{Answer, line}
use Rattle.gs_cli.specs.declared.status.Status.TheVariants as status
use Rattle.gs_inputs.specs.Plans.{node_refused}

-- bytes that are no trace
abbrev pub trace_refused : TraceFault → Answer
trace_refused fault = line status.InputRefused (codes "trace refused: " ++ trace_why fault)

-- the first event that is refused, and why
abbrev pub refused_at : ℕ → List ℕ → Answer
refused_at index why = line status.Breach (codes "refused at " ++ decimal index ++ codes ": " ++ why)

-- ---- audit

-- the report, or the first event that is refused
abbrev pub audit_answer : Plan → Verdict → Answer
audit_answer plan (world.Within report) =
    record { status = status.Done; text = report_text (text_of plan) (graph_of plan) report }
audit_answer plan (world.Refused index why) = refused_at index (event_why why)

-- The answer to `audit`: the verdict on the start and the events that the bytes spell, or why they spell none.
abbrev pub IsAudited : Plan → List ℕ → Answer → Type 0
IsAudited plan bytes answer =
    ((s : WorldStart) × (es : List Event) × SpellsWorld (text_of plan).cluster (graph_of plan).nodes s es bytes
    × (answer ≡ audit_answer plan (verdict_of plan s es)))
    ⊎ ((fault : TraceFault) × (world_fault (text_of plan).cluster (graph_of plan).nodes bytes ≡ Some fault)
    × (answer ≡ trace_refused fault))

-- ---- replay

abbrev pub mode_word : Mode → List ℕ
mode_word Slow = codes "slow"
mode_word Fast = codes "fast"

-- how node v ends after so many events, or the first that it refuses
abbrev pub replay_answer : ℕ → ℕ → NodeVerdict → Answer
replay_answer v count (node.Within l m mode) =
    line status.Done (codes "node " ++ decimal v ++ codes " events " ++ decimal count ++ codes " clock " ++ decimal l
    ++ codes " maximum " ++ decimal m ++ codes " mode " ++ mode_word mode)
replay_answer v count (node.Refused index why) = refused_at index (node_why why)

-- the verdict on the start and the events that the bytes spell for the node of these parameters, or why they spell none
abbrev pub IsReplayOf : NodeParams → List ℕ → Answer → Type 0
IsReplayOf p bytes answer =
    ((s : NodeStart) × (es : List NodeEvent) × SpellsNode p.cluster p.node s es bytes
    × (answer ≡ replay_answer p.node (length es) (node_verdict_of p s es)))
    ⊎ ((fault : TraceFault) × (node_fault p.cluster p.node bytes ≡ Some fault) × (answer ≡ trace_refused fault))

-- The answer to `replay` for node v.
abbrev pub IsReplayed : ℕ → Plan → List ℕ → Answer → Type 0
IsReplayed v plan bytes answer =
    (((graph_of plan).nodes ≤ v) × (answer ≡ node_refused v))
    ⊎ ((v < (graph_of plan).nodes)
    × IsReplayOf (params_for plan v) bytes answer)
