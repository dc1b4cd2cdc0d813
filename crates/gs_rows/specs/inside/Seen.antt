-- For private functions and proofs: how the fields of a play's rows are seen.
use Rattle.std.specs.Prelude.{◌≡◌, ℕ, List, ◌∷◌, ◌++◌, length}
use Rattle.gs_core.specs.declared.event.Event.{Event}
use Rattle.gs_plan.specs.Plans.{text_of}
use Rattle.gs_script.specs.Script.{IsScript}
use Rattle.gs_run.specs.Net.{Net}
use Rattle.gs_run.specs.Nets.{net_of}
use Rattle.gs_run.specs.World.{World, clocks_in}
use Rattle.gs_calendar.specs.Breach.{first_breach}
use Rattle.gs_calendar.specs.Calm.{Calm}
use Rattle.gs_calendar.specs.Course.{course_of}
use Rattle.gs_calendar.specs.Events.{events_of}
use Rattle.gs_rows.specs.inside.Onward.{left_of}
use Rattle.gs_rows.specs.Row.{Row, rows_after, rows_from, start_from}
use Rattle.gs_rows.specs.Stage.{Stage}
use Rattle.gs_rows.specs.declared.rows.Rows.TheInside.{Inside}

abbrev pub stage_of : Inside → Stage
stage_of a = record { plan = a.plan.now; said = a.script.now; l0s = a.l0s.items; quanta = a.world.world.quanta }

-- Of all events from the world `start` these are left in the world w, whose last quantum so many nodes took in fast
-- mode. The rows so far, of which this is the last, and those that are to come are the rows of all events.
pub record IsOn (net : Net) (start : World) (all : List Event) (w : World) (left : List Event) (fast : ℕ) : Type 0 where
  pub calm : Calm net w left
  pub breach : first_breach net start all ≡ first_breach net w left
  pub before : List Row
  pub rows : rows_from net start all
      ≡ before ++ record { clocks = clocks_in net w; fast = fast } ∷ rows_after net w left
  pub number : length before ≡ w.quanta
  pub members : length w.members ≡ net.nodes

-- what is true of the fields
pub record IsInside (a : Inside) : Type 0 where
  pub text : a.script.now.text ≡ text_of a.plan.now
  pub within : IsScript a.script.now
  pub plan : a.world.plan ≡ a.plan.now
  pub on : IsOn (net_of a.plan.now) (start_from (net_of a.plan.now) a.l0s.items)
      (events_of (net_of a.plan.now) (course_of a.script.now)) a.world.world (left_of a.held a.feed) a.fast
