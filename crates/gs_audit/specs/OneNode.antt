-- One node of a world: what a replay comes to of the events that a node sees in an allowed run.
use Rattle.std.specs.Prelude.{◌≡◌, ℕ, ◌^◌, ◌<◌, List, length}
use Rattle.gs_units.specs.declared.params.NodeParams.{NodeParams}
use Rattle.gs_plan.specs.declared.plan.Plan.{Plan}
use Rattle.gs_core.specs.declared.event.Event.{Event}
use Rattle.gs_core.specs.declared.event.NodeEvent.{NodeEvent}
use Rattle.gs_trace.specs.declared.start.NodeStart.{NodeStart}
use Rattle.gs_run.specs.Accepted.{IsSmall}
use Rattle.gs_run.specs.Net.{params_of}
use Rattle.gs_run.specs.Nets.{net_of}
use Rattle.gs_run.specs.Projection.{projection}
use Rattle.gs_run.specs.Run.{Allowed, run}
use Rattle.gs_run.specs.World.{World, member, world_from}
use Rattle.gs_audit.specs.NodeVerdicts.{verdict_on_node}
use Rattle.gs_audit.specs.declared.verdict.NodeVerdict.{NodeVerdict}

-- A run of a plan whose events are all allowed, from a reading and a clock of at most 2^61 for each node.
pub record AllowedRun (p : Plan) : Type 0 where
  pub hw : ℕ → ℕ
  pub clocks : ℕ → ℕ
  pub events : List Event
  pub small : IsSmall (net_of p) hw clocks
  pub few : length events < 2 ^ 64
  pub allowed : Allowed (net_of p) (world_from (net_of p) hw clocks) events

-- the world in which it starts
abbrev pub start_of : (p : Plan) → AllowedRun p → World
start_of p r = world_from (net_of p) r.hw r.clocks

-- these are the parameters, the start and the events of node v in such a run
pub record IsPartOf (p : Plan) (r : AllowedRun p) (v : ℕ) (params : NodeParams) (s : NodeStart) (es : List NodeEvent) : Type 0 where
  pub node : v < (net_of p).nodes
  pub told : params ≡ params_of (net_of p) v
  pub clock : s.l0 ≡ r.clocks v
  pub reading : s.hw ≡ r.hw v
  pub events : es ≡ projection (net_of p) v (start_of p r) r.events

-- Wherever the events are a node's part of an allowed run, none is refused, and the verdict is on the node at the end of
-- that run.
abbrev pub AgreesWithEveryWorld : NodeParams → NodeStart → List NodeEvent → NodeVerdict → Type 0
AgreesWithEveryWorld params s es verdict =
    (p : Plan) (r : AllowedRun p) (v : ℕ) → IsPartOf p r v params s es
    → verdict ≡ verdict_on_node params (member (run (net_of p) (start_of p r) r.events) v).node
