-- The first quantum of any script, for tests.
use Rattle.std.proofs.Common.{ℕ, ◌<◌, ◌≤◌, arith}
use Rattle.gs_plan.specs.Plans.{text_of}
use Rattle.gs_plan.specs.declared.plan.Plan.{Plan}
use Rattle.gs_script.specs.Script.{Said}
use Rattle.gs_run.specs.Net.{Net}
use Rattle.gs_run.specs.Nets.{net_of}
use Rattle.gs_calendar.specs.Course.{course_of}
use Rattle.gs_calendar.specs.Scripts.{IsReadFor}
use Rattle.gs_seat.specs.Held.{IsWindow}
use Rattle.gs_seat.specs.Worlds.{Plays}
use Rattle.gs_seat.proofs.Aging.{fresh_first, fresh_is_calm}

-- nothing is stale yet
pub first_plays : (p : Plan) (s : Said) (v : ℕ) → IsReadFor (text_of p) s → v < (net_of p).nodes → 1 ≤ s.quanta → 1 ≤ (net_of p).age → Plays p s v 1
first_plays p s v read node end age = record {
  read = read;
  node = node;
  end = end;
  calm = fresh_is_calm (net_of p) (course_of s) 0 (net_of p).age (fresh_first (net_of p) (course_of s)) age;
}

-- one quantum is a window of any plan
pub first_window : (net : Net) → IsWindow net 0 1
first_window net = record { few = omega arith; short = λ v w near. omega arith }
