-- How a run ends whose node was not served.
use Rattle.std.proofs.Common.{◌≡◌, ℕ, ◌<◌, inl, inr, List, [], Option, sym, subst, arith}
use Rattle.gs_io.specs.Causes.{Rose}
use Rattle.gs_io.specs.Held.{Appends}
use Rattle.gs_board.specs.Faults.{StopsFor}
use Rattle.gs_board.specs.declared.faults.BoardStop.{BoardStop}
use Rattle.gs_board.specs.declared.faults.BoardStop.TheVariants as board
use Rattle.gs_cli.specs.declared.status.Status.{Status}
use Rattle.gs_cli.specs.declared.stop.Stop.{Stop}
use Rattle.gs_cli.specs.declared.stop.Stop.TheVariants.{Refused, OutOfMemory}
use Rattle.gs_cli.specs.Reply.{answer_in}
use Rattle.gs_cli.specs.Stops.{StopsWith}
use Rattle.gs_inputs.specs.Sources.{FilesSeen}
use Rattle.gs_node_run.specs.Lines.{Says}
use Rattle.gs_node_run.specs.Nodes.{IsRefused}
use Rattle.gs_node_run.specs.Statuses.{EndsUnserved, Faults, IsLate, ShowsUnserved}
use Rattle.gs_node_run.specs.inside.Told.{Refuses, Unlent, board_status}
use Rattle.gs_node_run.proofs.Pieces.{appends_none}

-- a count that rose is above 0
risen : (before now : ℕ) → Rose before now → 0 < now
risen before now (inl more) = omega arith
risen before now (inr last) = omega arith

-- nothing was said
says_nothing : (old new : Option (List ℕ)) (before now : ℕ) → new ≡ old → Says [] old new before now
says_nothing old new before now same = inl (subst (λ (z : Option (List ℕ)). Appends old z []) (sym same) (appends_none old))

-- words that are refused end a run so
pub refused_ends : (files : FilesSeen) (words : List (List ℕ)) (n : Faults) (late : Type 0) (s : Status) (stop : Stop) (old new : Option (List ℕ)) (before now : ℕ)
    → StopsWith (IsRefused files words) stop → Refuses stop old new before now s
    → EndsUnserved files words n late (λ text. Says text old new before now) s
refused_ends files words n late s (Refused reply) old new before now stops told = inl (answer_in reply, stops, told.0, told.1)
refused_ends files words n late s OutOfMemory old new before now stops told = inr (inr (told.0, says_nothing old new before now told.1))

-- the status of a board that could not be made shows why
pub board_shows : (n : Faults) (left later : Option (List ℕ)) (before : ℕ) (stop : BoardStop) → StopsFor left later before n.clock stop → ShowsUnserved n (IsLate left later) (board_status stop)
board_shows n left later before board.ClockFailed why = risen before n.clock why.0
board_shows n left later before board.Far why = why
board_shows n left later before board.OutOfMemory why = tt

-- and so does that of ports that lent nothing
pub unlent_shows : (n : Faults) (late : Type 0) (s : Status) → Unlent n.ports.before n.ports.after s → ShowsUnserved n late s
unlent_shows n late s why = elim why [
  | inl failed ↦ subst (ShowsUnserved n late) (sym failed.0) failed.1
  | inr short ↦ subst (ShowsUnserved n late) (sym short) tt
]
