use Rattle.std.proofs.Common.{◌≡◌, ◌-◌, ◌<◌, ◌^◌, rules, sym, subst, ap, arith, ℕ, List, length, take, drop}
use Rattle.std.proofs.lemmas.List.{take_rest}
use Rattle.std.proofs.lemmas.List.Elements.{All-from_get_or}
use Rattle.gs_beacon.specs.Numbers.{AreBytes}
use Rattle.gs_core.specs.declared.event.NodeEvent.{NodeEvent}
use Rattle.gs_trace.specs.Laws.{node_events_in}
use Rattle.gs_trace.specs.Nodes.{SpellsNode, node_events, node_format}
use Rattle.gs_trace.specs.declared.start.NodeStart.{NodeStart}
use Rattle.gs_trace.proofs.NodeTraces.{node-spelled}
use Rattle.gs_trace.proofs.Scanning.{begins}
use Rattle.gs_trace.proofs.node_scan.scan.Goals as goal

pub invariant_of-result : goal.invariant_of-result
invariant_of-result c = record { whole = begins node_format 32 c.args.bytes.now c.in_ok-admit_events.ensures.ok }

pub returns-clause-ok : goal.returns-clause-ok
returns-clause-ok c =
    let bytes : List ℕ = c.args.bytes.now in
    let are : AreBytes bytes = All-from_get_or (λ x. x < 256) bytes 0 (λ k below. omega (arith, c.type_inv.bytes k)) in
    let small : c.args.cluster < 2 ^ 32 = search rules in
    let few : c.args.node < 2 ^ 32 = search rules in
    let whole = node-spelled c.args.cluster c.args.node bytes are small few c.in_ok-start.ensures.ok c.in_ok-admit_events.ensures.ok in
    let left : node_events_in bytes ≡ node_events (take (length bytes - 32) (drop 32 bytes)) = ap node_events (sym (take_rest bytes 32)) in
    let with_start : SpellsNode c.args.cluster c.args.node c.in_ok-start.start (node_events_in bytes) bytes =
    subst (λ (s : NodeStart). SpellsNode c.args.cluster c.args.node s (node_events_in bytes) bytes) (sym c.in_ok-start.ensures.start) whole in
    subst (λ (es : List NodeEvent). SpellsNode c.args.cluster c.args.node c.in_ok-start.start es bytes) left with_start
