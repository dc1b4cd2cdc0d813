use Rattle.std.proofs.Common.{rules, ◌<◌, ◌∷◌, ◌-◌, ◌∙◌, ap, sym, length, take, drop, ℕ, List}
use Rattle.gs_core.specs.declared.event.NodeEvent.{NodeEvent}
use Rattle.gs_trace.specs.Nodes.{event_bytes, Fits, node_events, node_format}
use Rattle.gs_trace.proofs.NodeEvents.{node_is_format}
use Rattle.gs_trace.proofs.Scanning.{begins_whole, goes_on, takes_first}
use Rattle.gs_trace.proofs.node_scan.NodeScan.next.Goals as goal

pub first_event-event-requires : goal.first_event-event-requires
first_event-event-requires c =
    let bytes : List ℕ = c.self.inside.left.now in
    let some : 0 < length bytes = search rules in
    begins_whole node_format event_bytes Fits node_is_format bytes c.self.invariant.whole some

pub invariant_of-self : goal.invariant_of-self
invariant_of-self c =
    let bytes : List ℕ = c.self.inside.left.now in
    let some : 0 < length bytes = search rules in
    record { whole = goes_on node_format event_bytes Fits node_is_format c.first_event-event.result.1 bytes c.self.invariant.whole some c.first_event-event.ensures.size }

pub returns-clause-some : goal.returns-clause-some
returns-clause-some c =
    let bytes : List ℕ = c.self.inside.left.now in
    let size : ℕ = c.first_event-event.result.1 in
    let some : 0 < length bytes = search rules in
    sym c.self.view_is
    ∙ takes_first node_format event_bytes Fits node_is_format size bytes c.self.invariant.whole some c.first_event-event.ensures.size
    ∙ ap (λ (e : NodeEvent). e ∷ node_events (take (length bytes - size) (drop size bytes))) (sym c.first_event-event.ensures.event)
