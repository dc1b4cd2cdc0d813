-- A potential with the first pair that has it.
use Rattle.std.specs.Prelude.{ℕ, ◌==◌, List, length, unwrap_or}
use Rattle.std.specs.List.{find}
use Rattle.gs_level.specs.declared.peak.Peak.{Peak}
use Rattle.gs_skew.specs.Skews.{beyond, pairs_of, potential}

-- the first pair with this excess at level s, (0, 0) where there is none
abbrev pub first_pair : (ℕ → ℕ → ℕ) → List ℕ → ℕ → ℕ → ℕ × ℕ
first_pair weight clocks s value =
    unwrap_or (find (λ p. beyond weight clocks s p.0 p.1 == value) (pairs_of (length clocks))) (0, 0)

-- the potential of level s with the first pair that has it
abbrev pub peak_of : (ℕ → ℕ → ℕ) → List ℕ → ℕ → Peak
peak_of weight clocks s = record {
  value = potential weight clocks s;
  v = (first_pair weight clocks s (potential weight clocks s)).0;
  w = (first_pair weight clocks s (potential weight clocks s)).1;
}
