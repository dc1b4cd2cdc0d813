use Rattle.std.proofs.Common.{◌≡◌, ◌≤◌, [], take, drop, is_some}
use Rattle.std.specs.List.{count_by}
use Rattle.gs_plan.specs.Faults.{span_fault}
use Rattle.gs_plan.specs.inside.Kept.{edge_spans}
use Rattle.gs_plan.proofs.checking.spans_by_edge.Given as goal

abbrev pub invariant-loop-i : goal.invariant-loop-i
invariant-loop-i l = record {
  rest : span_fault l.text.version l.topo 0 [] l.spans ≡ span_fault l.text.version l.topo l.i (take l.i l.spans) (drop l.i l.spans);
  table : l.found.items ≡ edge_spans (take l.i l.spans) l.topo;
  few : l.i ≤ count_by is_some l.found.items;
}
