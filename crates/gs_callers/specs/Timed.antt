-- What the timer has sent and published for the entries of its seat.
use Rattle.std.specs.Prelude.{◌≡◌, ℕ, List, length, take, Option}
use Rattle.gs_units.specs.declared.params.Link.{Link}
use Rattle.gs_board.specs.Slips.{Slip}
use Rattle.gs_view.specs.declared.snaps.Snap.{Snap}
use Rattle.gs_callers.specs.Sends.{SentAll, SentSoFar}
use Rattle.gs_callers.specs.Snaps.{snaps_of}

-- all of it, as between two turns
pub record IsInStep (links : List Link) (s : Slip) (sent : Option (List (ℕ × List ℕ))) (snaps : List Snap) : Type 0 where
  pub sends : SentAll links s.told sent
  pub shows : snaps ≡ snaps_of s.begun s.told

-- a beginning of it, as after a turn that was cut off
pub record IsCutOff (links : List Link) (s : Slip) (sent : Option (List (ℕ × List ℕ))) (snaps : List Snap) : Type 0 where
  pub sends : SentSoFar links s.told sent
  pub shows : snaps ≡ take (length snaps) (snaps_of s.begun s.told)
