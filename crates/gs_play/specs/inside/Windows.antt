-- For private functions and proofs: how long a window is.
use Rattle.std.specs.Prelude.{ℕ, List, [], ◌∷◌, min, max}
use Rattle.gs_planfile.specs.declared.text.EdgeSpan.{EdgeSpan}
use Rattle.gs_planfile.specs.declared.text.PlanText.{PlanText}

-- the least of this delay and those of some spans
abbrev pub least_delay : ℕ → List EdgeSpan → ℕ
least_delay least [] = least
least_delay least (s ∷ ss) = least_delay (min least s.delay_min) ss

-- the lesser of 64 and the greater of the least delay and 1, in quanta
abbrev pub longest_window : PlanText → ℕ
longest_window t = min (max (least_delay t.delay_min t.spans) 1) 64
