use Rattle.std.proofs.Common.{List}
use Rattle.gs_core.specs.declared.event.NodeEvent.{NodeEvent}
use Rattle.gs_trace.specs.Nodes.{SpellsNode, node_fault}
use Rattle.gs_trace.specs.declared.start.NodeStart.{NodeStart}
use Rattle.gs_trace.proofs.Answered.{fault_is_named, spelling_is_read}
use Rattle.gs_trace.proofs.NodeTraces.{one_node}
use Rattle.gs_trace.proofs.node_scan.scan_node.Goals as goal

pub returns-clause-every_spelling : goal.returns-clause-every_spelling
returns-clause-every_spelling c =
    let p = c.args.params.now in
    let bytes = c.args.bytes.now in
    let small = c.scan.ensures.small in
    spelling_is_read (λ (s : NodeStart) (es : List NodeEvent). SpellsNode p.cluster p.node s es bytes) (node_fault p.cluster p.node bytes) (one_node p.cluster p.node bytes small.0 small.1)
    (λ read. read.0) (λ read. read.1) c.scan.result c.scan.ensures.ok c.scan.ensures.err

pub returns-clause-every_fault : goal.returns-clause-every_fault
returns-clause-every_fault c =
    let p = c.args.params.now in
    let bytes = c.args.bytes.now in
    let small = c.scan.ensures.small in
    fault_is_named (λ (s : NodeStart) (es : List NodeEvent). SpellsNode p.cluster p.node s es bytes) (node_fault p.cluster p.node bytes) (one_node p.cluster p.node bytes small.0 small.1)
    (λ read. read.0) (λ read. read.1) c.scan.result c.scan.ensures.ok c.scan.ensures.err
