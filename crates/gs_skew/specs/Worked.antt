-- A network that meets the premises of the laws of the levels, with a node in the fast condition.
use Rattle.std.specs.Prelude.{ℕ, ◌==◌, not, if◌then◌else◌, Bool, IsTrue}
use Rattle.gs_skew.specs.Conditions.{MeetsFastCondition}
use Rattle.gs_skew.specs.Laws.{IsSteeredNetwork}

-- two nodes with an edge of kappa 1
abbrev pub two_apart : ℕ → ℕ → Bool
two_apart v w = not (v == w)

abbrev pub one_between : ℕ → ℕ → ℕ
one_between v w = if v == w then 0 else 1

-- from equal clocks node 0 adds 2 and node 1 adds 3
abbrev pub two_rows : ℕ → ℕ → ℕ
two_rows t v = if t == 0 then 0 else if v == 0 then 2 else 3

-- Clocks add at least lo = 1, drift apart by r = 1 and catch up at q = 1. At the end node 0 is in the fast condition of
-- level 1.
pub record IsWorkedNetwork : Type 0 where
  pub network : IsSteeredNetwork 2 1 two_apart (λ v w. 1) one_between two_rows 1 1 1 1
  pub behind : MeetsFastCondition 2 (λ a b. IsTrue (two_apart a b)) (λ a b. 1) (two_rows 1) 0
