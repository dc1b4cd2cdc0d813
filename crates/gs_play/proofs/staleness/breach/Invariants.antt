use Rattle.std.proofs.Common.{◌≡◌, ℕ, suc, ◌*◌, ◌<◌, None}
use Rattle.gs_run.specs.Nets.{net_of}
use Rattle.gs_calendar.specs.Course.{Course}
use Rattle.gs_calendar.specs.Stale.{first_stale}
use Rattle.gs_play.specs.inside.Pieces.{ArePieces}
use Rattle.gs_play.proofs.staleness.breach.Given as goal

abbrev pub invariant-loop-i : goal.invariant-loop-i
invariant-loop-i l = (c : Course) (by : ℕ → ℕ → ℕ) (size m : ℕ) → ArePieces (net_of l.plan) c by size m l.t l.pieces
    → (v : ℕ) → v < l.i * size → v < (net_of l.plan).nodes → first_stale (net_of l.plan) c (suc l.t) v ≡ None
