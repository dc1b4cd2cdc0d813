use Rattle.std.proofs.Common.{◌≡◌, ◌≤◌, None, length}
use Rattle.gs_board.specs.Slips.{SameSeat}
use Rattle.gs_callers.specs.Timed.{IsInStep}
use Rattle.gs_callers.proofs.timer.run_turns.Given as goal

abbrev pub invariant-loop : goal.invariant-loop
invariant-loop g l = record {
  count : length l.seat.told ≡ l.counter;
  step : IsInStep l.fn.links l.seat (g.O.Outlet.sent l.outlet) l.publisher;
  timer : l.seat.whose ≡ None;
  same : SameSeat l.initial.seat l.seat;
  faults : g.O.Outlet.faults l.initial.outlet ≤ g.O.Outlet.faults l.outlet;
}
