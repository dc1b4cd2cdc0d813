-- What `audit` and `replay` do where nothing fails.
use Rattle.std.specs.Prelude.{◌≡◌, ℕ, ◌<◌, ◌≤◌, List, length, Option, Some, None}
use Rattle.gs_planfile.specs.declared.text.PlanText.{PlanText}
use Rattle.gs_plan.specs.Plans.{graph_of, params_for, text_of}
use Rattle.gs_plan.specs.declared.plan.Plan.{Plan}
use Rattle.gs_core.specs.declared.event.Event.{Event}
use Rattle.gs_core.specs.declared.event.NodeEvent.{NodeEvent}
use Rattle.gs_io.specs.Causes.{Rose}
use Rattle.gs_run.specs.Nets.{net_of}
use Rattle.gs_run.specs.Run.{Allowed}
use Rattle.gs_trace.specs.Nodes.{SpellsNode, node_fault}
use Rattle.gs_trace.specs.Worlds.{SpellsWorld, world_fault}
use Rattle.gs_trace.specs.declared.start.NodeStart.{NodeStart}
use Rattle.gs_trace.specs.declared.start.WorldStart.{WorldStart}
use Rattle.gs_audit.specs.NodeVerdicts.{TakesAll, node_verdict_of}
use Rattle.gs_audit.specs.Verdicts.{world_at}
use Rattle.gs_tool.specs.Commands.{Audit, Replay, command_of}
use Rattle.gs_inputs.specs.AtHand.{HasPlan, IsCompleted}
use Rattle.gs_inputs.specs.Sources.{FilesSeen, HasFailed}
use Rattle.gs_cli.specs.declared.status.Status.{Status}

-- the word names a file of these bytes that is there, not too long for a trace, and of which no reading failed
abbrev pub HasTrace : FilesSeen → List ℕ → List ℕ → Type 0
HasTrace files word bytes =
    (told : List ℕ → Option (List ℕ)) × (files.content ≡ Some told) × (told word ≡ Some bytes)
    × (length bytes ≤ 67108864) × ¬ (HasFailed files word)

-- bytes are a trace of this plan, and the events that they spell are allowed
pub record IsAllowedTrace (p : Plan) (bytes : List ℕ) : Type 0 where
  pub whole : world_fault (text_of p).cluster (graph_of p).nodes bytes ≡ None
  pub allowed : (s : WorldStart) (es : List Event) → SpellsWorld (text_of p).cluster (graph_of p).nodes s es bytes
      → Allowed (net_of p) (world_at p s) es

-- bytes are a trace of this node of this plan, and it takes the events that they spell
pub record IsTakenTrace (p : Plan) (v : ℕ) (bytes : List ℕ) : Type 0 where
  pub node : v < (graph_of p).nodes
  pub whole : node_fault (text_of p).cluster v bytes ≡ None
  pub taken : (s : NodeStart) (es : List NodeEvent) → SpellsNode (text_of p).cluster v s es bytes
      → TakesAll (node_verdict_of (params_for p v) s es)

-- Where no count of the sink rose:
pub record AuditsComplete (files : FilesSeen) (words : List (List ℕ)) (before after : ℕ) (status : Status) : Type 0 where
  -- `audit` completes with an accepted plan and a trace of it whose events are allowed,
  pub audits : (plan trace : List ℕ) (text : PlanText) (bytes : List ℕ) → command_of words ≡ Some (Audit plan trace)
      → HasPlan files plan text → HasTrace files trace bytes
      → ((p : Plan) → text_of p ≡ text → IsAllowedTrace p bytes)
      → ¬ (Rose before after) → IsCompleted status
  -- and `replay` with an accepted plan and a trace of a node of it which takes all events.
  pub replays : (plan trace : List ℕ) (v : ℕ) (text : PlanText) (bytes : List ℕ)
      → command_of words ≡ Some (Replay plan v trace) → HasPlan files plan text → HasTrace files trace bytes
      → ((p : Plan) → text_of p ≡ text → IsTakenTrace p v bytes)
      → ¬ (Rose before after) → IsCompleted status
