-- For which plan a script was read, how it starts, and its first breach.
use Rattle.std.specs.Prelude.{◌≡◌, map, Option}
use Rattle.gs_run.specs.Net.{Net}
use Rattle.gs_run.specs.World.{World, world_at_start}
use Rattle.gs_calendar.specs.Breach.{Breach, first_breach}
use Rattle.gs_calendar.specs.Course.{Course, course_of}
use Rattle.gs_calendar.specs.Events.{events_of, nodes_of}
use Rattle.gs_plan.specs.declared.plan.Plan.{Plan}
use Rattle.gs_planfile.specs.declared.text.PlanText.{PlanText}
use Rattle.gs_script.specs.Script.{Said, IsScript}
use Rattle.gs_run.specs.Nets.{net_of}

-- a script was read for the plan of this text
pub record IsReadFor (t : PlanText) (s : Said) : Type 0 where
  pub text : s.text ≡ t
  pub bounds : IsScript s

-- scripts start with all readings and all clocks at 0
abbrev pub start_of : Net → World
start_of net = world_at_start net (map (λ v. 0) (nodes_of net)) 0

-- The first breach of a script's events.
abbrev pub breach_of_course : Net → Course → Option Breach
breach_of_course net c = first_breach net (start_of net) (events_of net c)

-- the first breach of a script
abbrev pub breach_of_script : Plan → Said → Option Breach
breach_of_script p s = breach_of_course (net_of p) (course_of s)
