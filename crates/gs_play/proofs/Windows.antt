-- The longest window is one.
use Rattle.std.proofs.Common.{ℕ, ◌+◌, ◌≤◌, arith, min, List, [], ◌∷◌, Bool, true, false, cond, Some}
use Rattle.std.specs.List.{find}
use Rattle.std.specs.Option.{option_map_or}
use Rattle.gs_planfile.specs.declared.text.EdgeSpan.{EdgeSpan}
use Rattle.gs_planfile.specs.declared.text.PlanText.{PlanText}
use Rattle.gs_plan.specs.Edges.{edge_given, own_given, span_given}
use Rattle.gs_plan.specs.Plans.{text_of}
use Rattle.gs_plan.specs.declared.plan.Plan.{Plan}
use Rattle.gs_topo.specs.Graph.{joins}
use Rattle.gs_run.specs.Nets.{net_of}
use Rattle.gs_seat.specs.Held.{IsWindow}
use Rattle.gs_play.specs.inside.Windows.{least_delay, longest_window}

least_low : (d : ℕ) (ss : List EdgeSpan) → least_delay d ss ≤ d
least_low d [] = omega arith
least_low d (s ∷ ss) = let low = least_low (min d s.delay_min) ss in omega (arith, low)

least_found : (p : EdgeSpan → Bool) (t : PlanText) (d : ℕ) (ss : List EdgeSpan) → d ≤ t.delay_min → least_delay d ss ≤ (option_map_or span_given (find p ss) (own_given t)).delay_min
least_found p t d [] le = le
least_found p t d (s ∷ ss) le =
    let low = least_low (min d s.delay_min) ss in
    pick (p s) (omega (arith, low)) (least_found p t (min d s.delay_min) ss (omega (arith, le)))
  where
    pick : (b : Bool) → least_delay (min d s.delay_min) ss ≤ s.delay_min → least_delay (min d s.delay_min) ss ≤ (option_map_or span_given (find p ss) (own_given t)).delay_min
        → least_delay (min d s.delay_min) ss ≤ (option_map_or span_given (cond b (Some s) (find p ss)) (own_given t)).delay_min
    pick true here rest = here
    pick false here rest = rest

-- no delay is less
least_is : (t : PlanText) (v w : ℕ) → least_delay t.delay_min t.spans ≤ (edge_given t (v, w)).delay_min
least_is t v w = least_found (λ s. joins (s.a, s.b) v w) t t.delay_min t.spans (omega arith)

pub longest_is : (p : Plan) (m n : ℕ) → n ≤ longest_window (text_of p) → IsWindow (net_of p) m (m + n)
longest_is p m n le = record {
  few = omega (arith, le);
  short = λ v w h. (let least = least_is (text_of p) v w in omega (arith, le, least));
}
