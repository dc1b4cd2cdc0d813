use Rattle.std.proofs.Common.{List}
use Rattle.gs_core.specs.declared.event.NodeEvent.{NodeEvent}
use Rattle.gs_trace.specs.Nodes.{SpellsNode, node_fault}
use Rattle.gs_trace.specs.declared.start.NodeStart.{NodeStart}
use Rattle.gs_trace.proofs.Answered.{every_fault, every_spelling}
use Rattle.gs_trace.proofs.NodeTraces.{one_node}
use Rattle.gs_trace.proofs.node_reading.read_node.Goals as goal

pub returns-clause-every_spelling : goal.returns-clause-every_spelling
returns-clause-every_spelling c =
    let p = c.args.params.now in
    let bytes = c.args.bytes.now in
    let small = c.read.ensures.small in
    every_spelling (λ (s : NodeStart) (es : List NodeEvent). SpellsNode p.cluster p.node s es bytes) (node_fault p.cluster p.node bytes) (one_node p.cluster p.node bytes small.0 small.1)
    (λ read. read.0) (λ read. read.1.items) c.read.result c.read.ensures.ok c.read.ensures.err

pub returns-clause-every_fault : goal.returns-clause-every_fault
returns-clause-every_fault c =
    let p = c.args.params.now in
    let bytes = c.args.bytes.now in
    let small = c.read.ensures.small in
    every_fault (λ (s : NodeStart) (es : List NodeEvent). SpellsNode p.cluster p.node s es bytes) (node_fault p.cluster p.node bytes) (one_node p.cluster p.node bytes small.0 small.1)
    (λ read. read.0) (λ read. read.1.items) c.read.result c.read.ensures.ok c.read.ensures.err
