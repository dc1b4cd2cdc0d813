-- How many beacons a script loses one after the other.
use Rattle.std.specs.Prelude.{◌≡◌, ℕ, ◌+◌, ◌≤◌, true, Some}
use Rattle.gs_plan.specs.Plans.{text_of}
use Rattle.gs_plan.specs.declared.plan.Plan.{Plan}
use Rattle.gs_script.specs.Script.{Said}
use Rattle.gs_run.specs.Net.{Net, Adjacent}
use Rattle.gs_run.specs.Nets.{net_of}
use Rattle.gs_calendar.specs.Calendar.{sent_at}
use Rattle.gs_calendar.specs.Course.{Course, course_of}

-- the beacon of this sequence is sent by the last quantum, and is lost on its way
abbrev pub IsLostOn : Net → Course → ℕ → ℕ → ℕ → Type 0
IsLostOn net c from to seq =
    (t : ℕ) × (t ≤ c.quanta) × (sent_at net c from t ≡ Some seq) × (c.lost from to t ≡ true)

-- Over no edge, in either direction, are more than so many beacons lost that were sent one after the other.
abbrev pub LosesAtMost : Net → Course → ℕ → Type 0
LosesAtMost net c most =
    (from to first : ℕ) → Adjacent net from to → ((i : ℕ) → i ≤ most → IsLostOn net c from to (first + i)) → ⊥

-- a script loses no more in a row than its plan allows for
abbrev pub LosesFew : Plan → Said → Type 0
LosesFew p s = LosesAtMost (net_of p) (course_of s) (text_of p).losses
