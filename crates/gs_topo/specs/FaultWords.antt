-- The words for what is wrong with a graph.
use Rattle.std.specs.Prelude.{ℕ, List, ◌++◌, codes, decimal}
use Rattle.gs_topo.specs.declared.fault.TopoFault.{TopoFault}
use Rattle.gs_topo.specs.declared.fault.TopoFault.TheVariants as fault

-- what is wrong, with the number of the edge or the node
abbrev pub why_of : TopoFault → List ℕ
why_of fault.Count = codes "count"
why_of fault.Edges = codes "edges"
why_of (fault.Node i) = codes "node " ++ decimal i
why_of (fault.Loop i) = codes "loop " ++ decimal i
why_of (fault.Double i) = codes "double " ++ decimal i
why_of (fault.Split v) = codes "split " ++ decimal v
why_of fault.OutOfMemory = codes "out of memory"
