use Rattle.std.proofs.Common.{◌<◌, subst, sym, arith, List, ℕ}
use Rattle.std.proofs.lemmas.List.Elements.{All-from_get_or}
use Rattle.gs_beacon.specs.Numbers.{AreBytes}
use Rattle.gs_core.specs.declared.event.NodeEvent.{NodeEvent}
use Rattle.gs_trace.specs.Nodes.{event_bytes, Fits, node_format}
use Rattle.gs_trace.proofs.NodeEvents.{node_is_format}
use Rattle.gs_trace.proofs.Scanning.{front_fits}
use Rattle.gs_trace.proofs.node_scan.first_event.Goals as goal

pub returns-clause-fits : goal.returns-clause-fits
returns-clause-fits c =
    let bytes : List ℕ = c.args.bytes.now in
    let are : AreBytes bytes = All-from_get_or (λ x. x < 256) bytes 0 (λ k below. omega (arith, c.type_inv.bytes k)) in
    subst (λ (e : NodeEvent). Fits e) (sym c.event_in_front.ensures.event) (front_fits node_format event_bytes Fits node_is_format bytes are c.requires)
