-- The words for why a play ends with no report.
use Rattle.std.specs.Prelude.{ℕ, List, ◌++◌, codes, decimal}
use Rattle.gs_calendar.specs.Breach.{Breach}
use Rattle.gs_calendar.specs.declared.stop.PlayStop.{PlayStop}
use Rattle.gs_calendar.specs.declared.stop.PlayStop.TheVariants.{Stale, OutOfMemory}

-- a breach: its quantum, and whose news is too old for whom
abbrev pub breach_text : Breach → List ℕ
breach_text b =
    codes "breach at quantum " ++ decimal b.quantum ++ codes ": stale " ++ decimal b.from ++ codes " " ++ decimal b.to

-- a stop
abbrev pub stop_text : PlayStop → List ℕ
stop_text (Stale quantum from to) = breach_text (record { quantum = quantum; from = from; to = to })
stop_text OutOfMemory = codes "out of memory"
