-- The worlds of a script, and the parts that nodes have in them.
use Rattle.std.specs.Prelude.{◌≡◌, ℕ, suc, ◌<◌, ◌≤◌, List, None, Some}
use Rattle.gs_plan.specs.Plans.{text_of}
use Rattle.gs_plan.specs.declared.plan.Plan.{Plan}
use Rattle.gs_script.specs.Script.{Said}
use Rattle.gs_run.specs.Nets.{net_of}
use Rattle.gs_run.specs.Net.{Net, params_of}
use Rattle.gs_run.specs.Run.{run}
use Rattle.gs_run.specs.World.{World, Member, Sent, member, advanced, sent_by}
use Rattle.gs_calendar.specs.Calendar.{sent_at}
use Rattle.gs_calendar.specs.Course.{Course, course_of}
use Rattle.gs_calendar.specs.Events.{events_upto}
use Rattle.gs_calendar.specs.Scripts.{IsReadFor, start_of}
use Rattle.gs_calendar.specs.Stale.{breach_upto}
use Rattle.gs_seat.specs.Alone.{alone, hears}
use Rattle.gs_seat.specs.Letters.{Letter}

-- the world of a script at the end of quantum t
abbrev pub world_of : Net → Course → ℕ → World
world_of net c t = run net (start_of net) (events_upto net c t)

-- node v's part of it
abbrev pub part_at : Net → Course → ℕ → ℕ → Member
part_at net c t v = alone (member (world_of net c t) v)

-- as quantum t + 1 has begun, and once these were heard
abbrev pub part_begun : Net → Course → ℕ → ℕ → Member
part_begun net c t v = advanced (part_at net c t v) (c.inc v (suc t))

abbrev pub part_heard : Net → Course → ℕ → ℕ → List Letter → Member
part_heard net c t v bs = hears (params_of net v) bs (part_begun net c t v)

-- v has sent this by the end of quantum t
pub record WasSent (net : Net) (c : Course) (v t : ℕ) (x : Sent) : Type 0 where
  pub by : x.quantum ≤ t
  pub sent : sent_at net c v x.quantum ≡ Some x.beacon.seq
  pub found : sent_by (world_of net c t) v x.beacon.seq ≡ Some x

-- v is a node of this plan, and this script was read for it, and has no breach by the end of its quantum t
pub record Plays (p : Plan) (s : Said) (v t : ℕ) : Type 0 where
  pub read : IsReadFor (text_of p) s
  pub node : v < (net_of p).nodes
  pub end : t ≤ s.quanta
  pub calm : breach_upto (net_of p) (course_of s) t ≡ None
