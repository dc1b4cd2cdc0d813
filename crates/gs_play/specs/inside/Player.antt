-- For private functions and proofs: a play under way.
use Rattle.std.specs.Prelude.{◌≡◌, ℕ, ◌+◌, ◌<◌, ◌≤◌, length, None}
use Rattle.gs_plan.specs.Plans.{text_of}
use Rattle.gs_plan.specs.declared.plan.Plan.{Plan}
use Rattle.gs_script.specs.Script.{Said}
use Rattle.gs_run.specs.Net.{neighbour, neighbours}
use Rattle.gs_run.specs.Nets.{net_of}
use Rattle.gs_calendar.specs.Calendar.{heard_at}
use Rattle.gs_calendar.specs.Course.{course_of}
use Rattle.gs_calendar.specs.Scripts.{IsReadFor}
use Rattle.gs_calendar.specs.Stale.{breach_upto}
use Rattle.gs_play.specs.inside.Pieces.{ArePiecesIn}
use Rattle.gs_play.specs.inside.Totals.{AreTotals}
use Rattle.gs_play.specs.inside.Windows.{longest_window}
use Rattle.gs_play.specs.declared.player.Player.{Player}

-- This player has played the first t quanta of a script, none of which is a breach.
pub record IsPlayerAt (p : Plan) (s : Said) (t : ℕ) (x : Player) : Type 0 where
  pub read : IsReadFor (text_of p) s
  pub end : t ≤ s.quanta
  pub calm : breach_upto (net_of p) (course_of s) t ≡ None
  pub quanta : x.quanta ≡ t
  pub size : 0 < x.size
  pub few : length x.pieces.items ≤ 64
  pub window : x.window ≡ longest_window (text_of p)
  pub fresh : (v i : ℕ) → v < (net_of p).nodes → i < length (neighbours (net_of p) v)
      → x.safe ≤ (heard_at (net_of p) (course_of s) (neighbour (net_of p) v i) v t).quantum + (net_of p).age
  pub pieces : ArePiecesIn (net_of p) (course_of s) x.size t t x.pieces.items
  pub totals : AreTotals p (course_of s) t x.totals

-- it can play the n quanta after that as a window
pub record IsPlayerFor (p : Plan) (s : Said) (t n : ℕ) (x : Player) : Type 0 where
  pub at : IsPlayerAt p s t x
  pub some : 1 ≤ n
  pub end : t + n ≤ s.quanta
  pub window : n ≤ longest_window (text_of p)
  pub safe : t + n ≤ x.safe

-- it has played more quanta than t
pub record HasPlayed (p : Plan) (s : Said) (t : ℕ) (x : Player) : Type 0 where
  pub more : t < x.quanta
  pub at : IsPlayerAt p s x.quanta x
