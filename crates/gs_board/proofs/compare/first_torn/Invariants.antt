use Rattle.gs_board.specs.Entries.{is_of, told_from}
use Rattle.gs_board.proofs.Walking.{IsSoFar}
use Rattle.gs_board.proofs.compare.first_torn.Given as goal

abbrev pub invariant-loop-place : goal.invariant-loop-place
invariant-loop-place l = IsSoFar (λ k. is_of l.fn.whose k.event) (told_from 0 l.journal l.replies) l.told l.place l.index
