-- From unequal clocks: from which quantum on each level holds.
use Rattle.std.specs.Prelude.{ℕ, zero, suc, ◌+◌, ◌-◌, ◌*◌, ◌<◌, ◌≤◌, max, List, map}
use Rattle.std.specs.List.{range_with_len}
use Rattle.std.specs.Int.{div_ceil}
use Rattle.gs_units.specs.Rates.{drift_of, q_of, r_of}
use Rattle.gs_plan.specs.Plans.{text_of}
use Rattle.gs_plan.specs.declared.plan.Plan.{Plan}
use Rattle.gs_skew.specs.Skews.{potential, skew_between}
use Rattle.gs_run.specs.Net.{Net, Adjacent, level_of, skew_of}
use Rattle.gs_run.specs.Nets.{net_of}

-- T0: from here on all that nodes decide by was really heard
abbrev pub heard_time : Net → ℕ
heard_time net = max net.diameter 1 * net.age + 2 * net.tick + 1

-- T(s): from here on level s holds, from clocks that differ by at most gamma
abbrev pub level_time : Net → ℕ → ℕ → ℕ
level_time net gamma zero =
    heard_time net + div_ceil (gamma + drift_of net.rate * heard_time net - skew_of net) (q_of net.rate - r_of net.rate)
level_time net gamma (suc s) = level_time net gamma s + div_ceil (level_of net s) (q_of net.rate)

-- these clocks keep the bounds of level s
pub record AreSettled (net : Net) (clocks : List ℕ) (s : ℕ) : Type 0 where
  pub level : potential net.weight clocks s ≤ level_of net s
  pub edges : (v w : ℕ) → v < net.nodes → w < net.nodes → Adjacent net v w
      → skew_between clocks v w ≤ 2 * s * net.kappa v w + level_of net s

-- T(0) to T(levels) of a plan
abbrev pub times_of : Plan → ℕ → List ℕ
times_of p gamma = map (level_time (net_of p) gamma) (range_with_len 0 ((text_of p).levels + 1))
