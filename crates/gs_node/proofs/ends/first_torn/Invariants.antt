use Rattle.std.proofs.Common.{take, All}
use Rattle.gs_board.specs.Boards.{ledger_in}
use Rattle.gs_board.specs.Torn.{IsWhole}
use Rattle.gs_node.proofs.ends.first_torn.Given as goal

abbrev pub invariant-loop-seat : goal.invariant-loop-seat
invariant-loop-seat g l = All (IsWhole (ledger_in l.board)) (take l.seat-index l.seats)
