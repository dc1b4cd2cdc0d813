-- Up to which quantum what was heard is fresh. This is for private functions and proofs.
use Rattle.std.specs.Prelude.{ℕ, ◌+◌, ◌<◌, ◌≤◌, length}
use Rattle.gs_run.specs.Net.{Net, neighbour, neighbours}
use Rattle.gs_calendar.specs.Calendar.{heard_at}
use Rattle.gs_calendar.specs.Course.{Course}

-- whatever was heard by the end of quantum t is fresh up to this quantum
abbrev pub AreFresh : Net → Course → ℕ → ℕ → Type 0
AreFresh net c t safe = (v i : ℕ) → v < net.nodes → i < length (neighbours net v)
    → safe ≤ (heard_at net c (neighbour net v i) v t).quantum + net.age
