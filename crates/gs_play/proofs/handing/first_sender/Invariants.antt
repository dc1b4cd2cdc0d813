use Rattle.std.proofs.Common.{ℕ, ◌*◌, ◌<◌, ◌≤◌, []}
use Rattle.gs_run.specs.Net.{Net}
use Rattle.gs_calendar.specs.Course.{Course}
use Rattle.gs_seat.specs.Held.{AreSentIn}
use Rattle.gs_play.specs.inside.Pieces.{ArePieces}
use Rattle.gs_play.proofs.handing.first_sender.Given as goal

abbrev pub invariant-loop-i : goal.invariant-loop-i
invariant-loop-i l = (net : Net) (c : Course) (by : ℕ → ℕ → ℕ) (m t : ℕ) → ArePieces net c by l.size m t l.pieces
    → (x : ℕ) → l.from ≤ x → x < l.i * l.size → x < net.nodes → AreSentIn net c x m t []
