-- What is so of each run of the command `stamp`.
use Rattle.std.specs.Prelude.{◌≡◌, ℕ, ◌^◌, ◌≤◌, List, [], Option, Some}
use Rattle.gs_stamp.specs.Format.{ceiling_of}
use Rattle.gs_stamp.specs.Restarts.{AllBelow, IsRun, RiseFrom}
use Rattle.gs_cli.specs.declared.status.Status.{Status}
use Rattle.gs_cli.specs.declared.status.Status.TheVariants.{Done, StampEnd}
use Rattle.gs_stamp_run.specs.Issued.{AreFirst}
use Rattle.gs_stamp_run.specs.Lines.{Wrote}

-- At the end of a run its stamps rose from `low` on and stayed below `next`; each has its line, and they are those at
-- the clock's readings.
pub record Went (count low next : ℕ) (readings : Option (List ℕ)) (status : Status) (old new : Option (List ℕ)) : Type 0 where
  pub stamps : List ℕ
  pub rise : RiseFrom low stamps
  pub below : AllBelow next stamps
  pub kept : low ≤ next
  pub wrote : Wrote stamps status old new
  pub exact : (rs : List ℕ) → readings ≡ Some rs → AreFirst count low rs stamps status

-- A run that issued nothing, since its words are others or its store was not opened.
pub record NotOpened (read : Option (List ℕ)) (status : Status) (old new : Option (List ℕ)) : Type 0 where
  pub wrote : Wrote [] status old new
  pub undone : status ≡ Done → ⊥
  pub full : status ≡ StampEnd → (bytes : List ℕ) → read ≡ Some bytes → 2 ^ 62 ≤ ceiling_of bytes

-- A run that opened its store: it went on from the ceiling that it read, whatever a crash may leave now has a ceiling
-- above its stamps, and so it is one of the runs of the law of restarts.
pub record Ran (count : ℕ) (read readings : Option (List ℕ)) (may_leave : List ℕ → Type 0) (status : Status) (old new : Option (List ℕ)) : Type 0 where
  pub low : ℕ
  pub next : ℕ
  pub from : (bytes : List ℕ) → read ≡ Some bytes → low ≡ ceiling_of bytes
  pub went : Went count low next readings status old new
  pub above : (c : List ℕ) → may_leave c → next ≤ ceiling_of c
  pub run : (c : List ℕ) → may_leave c → IsRun (record { found = low; stamps = went.stamps; left = ceiling_of c })
