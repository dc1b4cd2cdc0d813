-- Skews and potentials over a list of clocks, one of each node.
use Rattle.std.specs.Prelude.{◌≡◌, ℕ, ◌≤◌, ◌+◌, ◌-◌, ◌*◌, max, List, [], ◌∷◌, length, map, slice_index}
use Rattle.std.specs.List.{flat_map, range_with_len}

-- the greatest f of a list, 0 of none
abbrev pub greatest_over : {X : Type 0} → (X → ℕ) → List X → ℕ
greatest_over f [] = 0
greatest_over f (x ∷ xs) = max (f x) (greatest_over f xs)

-- all ordered pairs of numbers below n, ascending
abbrev pub pairs_of : ℕ → List (ℕ × ℕ)
pairs_of n = flat_map (λ v. map (λ w. (v, w)) (range_with_len 0 n)) (range_with_len 0 n)

-- how far w is ahead of v, 0 where it is not
abbrev pub lead : List ℕ → ℕ → ℕ → ℕ
lead clocks v w = slice_index clocks w - slice_index clocks v

-- the greatest difference of two clocks
abbrev pub global_skew : List ℕ → ℕ
global_skew clocks = greatest_over (λ p. lead clocks p.0 p.1) (pairs_of (length clocks))

-- the difference of two clocks
abbrev pub skew_between : List ℕ → ℕ → ℕ → ℕ
skew_between clocks v w = lead clocks v w + lead clocks w v

-- that of the ends of an edge
abbrev pub edge_skew : List ℕ → ℕ × ℕ → ℕ
edge_skew clocks e = skew_between clocks e.0 e.1

-- the greatest difference at one of these edges
abbrev pub neighbour_skew : List (ℕ × ℕ) → List ℕ → ℕ
neighbour_skew edges clocks = greatest_over (edge_skew clocks) edges

-- how far w is ahead of v beyond 2s times their weight, 0 where it is not
abbrev pub beyond : (ℕ → ℕ → ℕ) → List ℕ → ℕ → ℕ → ℕ → ℕ
beyond weight clocks s v w = slice_index clocks w - (slice_index clocks v + 2 * s * weight v w)

-- The potential of level s: the greatest of that over all pairs.
abbrev pub potential : (ℕ → ℕ → ℕ) → List ℕ → ℕ → ℕ
potential weight clocks s = greatest_over (λ p. beyond weight clocks s p.0 p.1) (pairs_of (length clocks))

-- At level 0 the potential is the global skew, and at no level is it above.
pub record ArePotentials (weight : ℕ → ℕ → ℕ) (clocks : List ℕ) : Type 0 where
  pub first : potential weight clocks 0 ≡ global_skew clocks
  pub within : (s : ℕ) → potential weight clocks s ≤ global_skew clocks

abbrev pub PotentialsAreSkews : Type 0
PotentialsAreSkews = (weight : ℕ → ℕ → ℕ) (clocks : List ℕ) → ArePotentials weight clocks
