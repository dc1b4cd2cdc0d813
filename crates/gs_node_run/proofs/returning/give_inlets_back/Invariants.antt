use Rattle.std.proofs.Common.{◌≡◌, ◌++◌, ◌+◌, ◌≤◌, ◌<◌, ◌⊎◌, length, map}
use Rattle.std.specs.List.{sum_by}
use Rattle.gs_io.specs.Causes.{Rose}
use Rattle.gs_net.specs.Lending.{returned_inlet}
use Rattle.gs_net.specs.Tales.{OnTold}
use Rattle.gs_node_run.proofs.returning.give_inlets_back.Given as goal

abbrev pub invariant-loop-inlet : goal.invariant-loop-inlet
invariant-loop-inlet g l = record {
  next : (goal.iterator-loop-inlet g).can_next l.inlet-iterator;
  finite : (goal.iterator-loop-inlet g).is_finite l.inlet-iterator;
  back : OnTold (g.P.Ports.back l.ports) (λ before. before ++ map (λ inlet. returned_inlet inlet) l.inlet-iterator.rest.items) ≡ OnTold (g.P.Ports.back l.fn.ports) (λ before. before ++ map (λ inlet. returned_inlet inlet) l.fn.inlets.items);
  inlets_out : g.P.Ports.inlets_out l.ports + length l.fn.inlets.items ≡ g.P.Ports.inlets_out l.fn.ports + length l.inlet-iterator.rest.items;
  out : length l.inlet-iterator.rest.items ≤ g.P.Ports.inlets_out l.ports;
  outlets_out : g.P.Ports.outlets_out l.ports ≡ g.P.Ports.outlets_out l.fn.ports;
  doors_out : g.P.Ports.doors_out l.ports ≡ g.P.Ports.doors_out l.fn.ports;
  asked : g.P.Ports.asked l.ports ≡ g.P.Ports.asked l.fn.ports;
  held : g.P.Ports.held l.ports ≡ g.P.Ports.held l.fn.ports;
  faults : g.P.Ports.faults l.fn.ports ≤ g.P.Ports.faults l.ports;
  counted : 0 < sum_by g.P.In.Inlet.faults l.fn.inlets.items → Rose (g.P.Ports.faults l.fn.ports) (g.P.Ports.faults l.ports) ⊎ (0 < sum_by g.P.In.Inlet.faults l.inlet-iterator.rest.items);
}
