use Rattle.std.proofs.Common.{◌≡◌, ◌≤◌, ◌++◌, take}
use Rattle.gs_net.specs.Tales.{OnTold}
use Rattle.gs_callers.specs.Sends.{to_each}
use Rattle.gs_callers.proofs.sending.send_to_each.Given as goal

abbrev pub invariant-loop-link : goal.invariant-loop-link
invariant-loop-link g l = record {
  sent : g.O.Outlet.sent l.outlet ≡ OnTold (g.O.Outlet.sent l.initial.outlet) (λ taken. taken ++ to_each (take l.link-index l.fn.links) l.fn.datagram);
  faults : g.O.Outlet.faults l.initial.outlet ≤ g.O.Outlet.faults l.outlet;
}
