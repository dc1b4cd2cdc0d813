use Rattle.std.proofs.Common.{◌≡◌, ◌++◌, ◌+◌, ◌≤◌, length, map, take, All}
use Rattle.std.specs.List.{AllZip}
use Rattle.std.specs.Vec.{vec_capacity}
use Rattle.gs_net.specs.Lending.{Holds}
use Rattle.gs_net.specs.Tales.{IsFresh, OnTold}
use Rattle.gs_net.specs.declared.lending.Ask.TheVariants as ask
use Rattle.gs_node_run.proofs.asking.ask_inlets.Given as goal

abbrev pub invariant-loop-number : goal.invariant-loop-number
invariant-loop-number g l = record {
  asked : g.P.Ports.asked l.ports ≡ OnTold (g.P.Ports.asked l.fn.ports) (λ before. before ++ map (λ port. ask.Inlet port) (take l.number-index l.numbers));
  count : length l.inlets.items ≡ l.number-index;
  fresh : All IsFresh (map g.P.In.Inlet.tale l.inlets.items);
  holds : AllZip (Holds (g.P.Ports.held l.fn.ports)) (take l.number-index l.numbers) (map g.P.In.Inlet.tale l.inlets.items);
  inlets_out : g.P.Ports.inlets_out l.ports ≡ g.P.Ports.inlets_out l.fn.ports + length l.inlets.items;
  outlets_out : g.P.Ports.outlets_out l.ports ≡ g.P.Ports.outlets_out l.fn.ports;
  doors_out : g.P.Ports.doors_out l.ports ≡ g.P.Ports.doors_out l.fn.ports;
  back : g.P.Ports.back l.ports ≡ g.P.Ports.back l.fn.ports;
  held : g.P.Ports.held l.ports ≡ g.P.Ports.held l.fn.ports;
  faults : g.P.Ports.faults l.fn.ports ≤ g.P.Ports.faults l.ports;
  room : length l.numbers ≤ vec_capacity l.inlets;
}
