use Rattle.std.proofs.Common.{take, All}
use Rattle.gs_board.specs.Boards.{ledger_in}
use Rattle.gs_board.specs.Torn.{IsWhole}
use Rattle.gs_node_run.proofs.lines.first_torn.Given as goal

abbrev pub invariant-loop-place : goal.invariant-loop-place
invariant-loop-place g l = All (IsWhole (ledger_in l.board)) (take l.place l.seats)
