-- For private functions and proofs: what is known of the rows of clocks so far.
use Rattle.std.specs.Prelude.{◌≡◌, ℕ, ◌*◌, ◌^◌, ◌≤◌, List, ◌∷◌, ◌++◌, [], None}
use Rattle.gs_plan.specs.Plans.{graph_of, text_of}
use Rattle.gs_plan.specs.declared.plan.Plan.{Plan}
use Rattle.gs_lookout.specs.Lookouts.{IsLookout}
use Rattle.gs_lookout.specs.declared.lookout.Lookout.{Lookout}
use Rattle.gs_script.specs.Script.{Said}
use Rattle.gs_run.specs.Nets.{net_of}
use Rattle.gs_run.specs.RunRows.{fast_of, rows_of}
use Rattle.gs_run.specs.World.{clocks_in}
use Rattle.gs_calendar.specs.Course.{Course, course_of}
use Rattle.gs_calendar.specs.Events.{events_upto}
use Rattle.gs_calendar.specs.Scripts.{IsReadFor, start_of}
use Rattle.gs_calendar.specs.Stale.{breach_upto}
use Rattle.gs_seat.specs.Worlds.{world_of}
use Rattle.gs_play.specs.declared.totals.Totals.{Totals}

-- This lookout is over all rows of the first t quanta.
pub record HasSeen (p : Plan) (c : Course) (t : ℕ) (lookout : Lookout) : Type 0 where
  pub before : List (List ℕ)
  pub rows : rows_of (net_of p) (start_of (net_of p)) (events_upto (net_of p) c t) ≡ before ++ clocks_in (net_of p) (world_of (net_of p) c t) ∷ []
  pub is : IsLookout (graph_of p) before (clocks_in (net_of p) (world_of (net_of p) c t)) lookout

-- These are the totals of the first t quanta, and the row at the end of the last.
pub record AreTotals (p : Plan) (c : Course) (t : ℕ) (x : Totals) : Type 0 where
  pub tallied : HasSeen p c t x.lookout
  pub row : x.row.items ≡ clocks_in (net_of p) (world_of (net_of p) c t)
  pub fast : x.fast ≡ fast_of (net_of p) (start_of (net_of p)) (events_upto (net_of p) c t)
  pub few : x.fast ≤ 2 ^ 38 * t

-- This script was read for the plan, and has no breach by the end of its quantum t.
pub record IsCalm (p : Plan) (s : Said) (t : ℕ) : Type 0 where
  pub read : IsReadFor (text_of p) s
  pub end : t ≤ s.quanta
  pub calm : breach_upto (net_of p) (course_of s) t ≡ None
