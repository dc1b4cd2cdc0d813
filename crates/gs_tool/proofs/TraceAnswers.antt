-- What a verdict, and what bytes that are no trace, make of the answer.
use Rattle.std.proofs.Common.{◌≡◌, ◌≢◌, ℕ, ◌<◌, inl, inr, List, length, Some, ap, ◌∙◌}
use Rattle.gs_units.specs.declared.params.NodeParams.{NodeParams}
use Rattle.gs_plan.specs.Plans.{graph_of, text_of}
use Rattle.gs_plan.specs.declared.plan.Plan.{Plan}
use Rattle.gs_core.specs.declared.event.Event.{Event}
use Rattle.gs_core.specs.declared.event.NodeEvent.{NodeEvent}
use Rattle.gs_trace.specs.Nodes.{SpellsNode, node_fault}
use Rattle.gs_trace.specs.Worlds.{SpellsWorld, world_fault}
use Rattle.gs_trace.specs.declared.fault.TraceFault.{TraceFault}
use Rattle.gs_trace.specs.declared.start.NodeStart.{NodeStart}
use Rattle.gs_trace.specs.declared.start.WorldStart.{WorldStart}
use Rattle.gs_audit.specs.NodeVerdicts.{node_verdict_of}
use Rattle.gs_audit.specs.Verdicts.{KeepsItsBounds, verdict_of}
use Rattle.gs_audit.specs.declared.verdict.NodeVerdict.{NodeVerdict}
use Rattle.gs_audit.specs.declared.verdict.Verdict.{Verdict}
use Rattle.gs_audit.specs.declared.verdict.Verdict.TheVariants as world
use Rattle.gs_cli.specs.Answers.{Answer}
use Rattle.gs_tool.specs.inside.AuditSeen.{HasLevels}
use Rattle.gs_tool.specs.Audited.{IsAudited, IsReplayOf, audit_answer, replay_answer, trace_refused}

-- a report that keeps its bounds tells all levels
pub kept_levels : (p : Plan) (s : WorldStart) (es : List Event) (v : Verdict) → KeepsItsBounds p s es v → HasLevels p v
kept_levels p s es (world.Within report) kept = kept.levels
kept_levels p s es (world.Refused index why) kept = tt

-- the verdict on a trace
pub audited_by : (p : Plan) (bytes : List ℕ) (s : WorldStart) (es : List Event) (verdict : Verdict) (answer : Answer)
    → SpellsWorld (text_of p).cluster (graph_of p).nodes s es bytes → verdict ≡ verdict_of p s es
    → answer ≡ audit_answer p verdict → IsAudited p bytes answer
audited_by p bytes s es verdict answer spelled is tells = inl (s, es, spelled, tells ∙ ap (audit_answer p) is)

-- bytes that are no trace
pub unaudited_by : (p : Plan) (bytes : List ℕ) (fault : TraceFault) (answer : Answer)
    → world_fault (text_of p).cluster (graph_of p).nodes bytes ≡ Some fault → answer ≡ trace_refused fault
    → IsAudited p bytes answer
unaudited_by p bytes fault answer first tells = inr (fault, first, tells)

-- the same of a node's trace
pub replayed_by : (p : NodeParams) (bytes : List ℕ) (s : NodeStart) (es : List NodeEvent) (count : ℕ) (verdict : NodeVerdict)
    (answer : Answer) → SpellsNode p.cluster p.node s es bytes → count ≡ length es → verdict ≡ node_verdict_of p s es
    → answer ≡ replay_answer p.node count verdict → IsReplayOf p bytes answer
replayed_by p bytes s es count verdict answer spelled counts is tells =
    inl (s, es, spelled, tells ∙ (ap (λ (n : ℕ). replay_answer p.node n verdict) counts ∙ ap (replay_answer p.node (length es)) is))

pub unreplayed_by : (p : NodeParams) (bytes : List ℕ) (fault : TraceFault) (answer : Answer)
    → node_fault p.cluster p.node bytes ≡ Some fault → answer ≡ trace_refused fault → IsReplayOf p bytes answer
unreplayed_by p bytes fault answer first tells = inr (fault, first, tells)

pub ruleset answering = (kept_levels, audited_by, unaudited_by, replayed_by, unreplayed_by)
