-- The weight of a pair of nodes, as a number.
use Rattle.std.specs.Prelude.{ℕ, zero, suc, ◌+◌, ◌-◌, ◌*◌, ◌&&◌, ◌||◌, ◌==◌, nat_le, Bool, unwrap_or}
use Rattle.std.specs.List.{find, list_any, range_with_len}
use Rattle.gs_topo.specs.Graph.{Graph, adjacent}
use Rattle.gs_topo.specs.Walks.{diameter_of}
use Rattle.gs_planfile.specs.declared.text.PlanText.{PlanText}
use Rattle.gs_plan.specs.Bounds.{greatest_kappa_in}
use Rattle.gs_plan.specs.Numbers.{kappa_between}

-- some walk of at most so many steps from v to w has exactly the sum d of the lengths k
unfoldable pub has_sum : (ℕ → ℕ → Bool) → ℕ → (ℕ → ℕ → ℕ) → ℕ → ℕ → ℕ → ℕ → Bool
has_sum adj n k zero v w d = (v == w) && (d == 0)
has_sum adj n k (suc steps) v w d =
    ((v == w) && (d == 0))
    || list_any (λ x. adj v x && (nat_le (k v x) d && has_sum adj n k steps x w (d - k v x))) (range_with_len 0 n)

-- The least sum of the kappas of a walk from v to w. A walk of sum d has at most d steps, as each edge counts at least
-- 1, and no least sum is above the greatest kappa for each step of the diameter.
unfoldable pub weight_in : PlanText → Graph → ℕ → ℕ → ℕ
weight_in t g v w =
    unwrap_or (find (λ d. has_sum (adjacent g) g.nodes (kappa_between t) d v w d)
    (range_with_len 0 (diameter_of g * greatest_kappa_in t g + 1))) 0
