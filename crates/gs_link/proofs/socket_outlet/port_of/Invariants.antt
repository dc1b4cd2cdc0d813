use Rattle.std.proofs.Common.{◌≡◌, drop}
use Rattle.gs_link.specs.Sockets.{port_of}
use Rattle.gs_link.proofs.socket_outlet.port_of.Given as goal

abbrev pub invariant-loop-node : goal.invariant-loop-node
invariant-loop-node l = port_of l.fn.routes l.fn.neighbour ≡ port_of (drop l.node-index l.fn.routes) l.fn.neighbour
