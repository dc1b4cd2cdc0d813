-- What a board shows: its clock, and all that it keeps beside it.
use Rattle.gs_clock.specs.declared.clocks.Clock.{Ghosts}
use Rattle.gs_board.specs.Ledger.{Ledger}
use Rattle.gs_board.specs.declared.boards.Board.{Board}

-- the clock
abbrev pub clock_in : {C : Type 0} {told : Ghosts C} → Board C told → C
clock_in board = board.clock

-- the node, its journal and the rest
abbrev pub ledger_in : {C : Type 0} {told : Ghosts C} → Board C told → Ledger
ledger_in board = board.kept
