-- The greatest values of lists.
use Rattle.std.proofs.Common.{◌≡◌, ℕ, zero, suc, ◌+◌, ◌-◌, ◌*◌, ◌<◌, ◌≤◌, max, min, inl, inr, arith, ap, sym, refl, ◌∙◌, List, [], ◌∷◌, ◌++◌, All, length, map, get_or, slice_index, take}
use Rattle.std.specs.List.{flat_map, range_with_len}
use Rattle.std.proofs.lemmas.Bool.{cases_lt}
use Rattle.std.proofs.lemmas.List.{get_or_default, take_more}
use Rattle.std.proofs.lemmas.List.Elements.{All-head, All-push, All-tail, Contains-append_left, Contains-push}
use Rattle.gs_topo.specs.Graph.{Graph}
use Rattle.gs_topo.specs.Walks.{IsTopology}
use Rattle.gs_skew.specs.Ranges.{AreEnds}
use Rattle.gs_skew.specs.Skews.{ArePotentials, beyond, edge_skew, global_skew, greatest_over, lead, neighbour_skew, pairs_of, potential}

-- the greatest of two lists
pub greatest_append : {X : Type 0} (f : X → ℕ) (xs ys : List X) → greatest_over f (xs ++ ys) ≡ max (greatest_over f xs) (greatest_over f ys)
greatest_append f [] ys = omega arith
greatest_append f (x ∷ xs) ys = let h = greatest_append f xs ys in omega (arith, h)

-- one more item
pub greatest_push : {X : Type 0} (f : X → ℕ) (xs : List X) (x : X) → greatest_over f (xs ++ x ∷ []) ≡ max (greatest_over f xs) (f x)
greatest_push f xs x = let h = greatest_append f xs (x ∷ []) in omega (arith, h)

pub greatest_more : {X : Type 0} (f : X → ℕ) (xs : List X) (i : ℕ) (d : X) → i < length xs → greatest_over f (take (i + 1) xs) ≡ max (greatest_over f (take i xs)) (f (get_or xs i d))
greatest_more f xs i d h = ap (greatest_over f) (take_more xs i d h) ∙ greatest_push f (take i xs) (get_or xs i d)

-- no item has more
pub at_most_greatest : {X : Type 0} (f : X → ℕ) (xs : List X) → All (λ x. f x ≤ greatest_over f xs) xs
at_most_greatest f [] k d h = absurd (omega (arith, h))
at_most_greatest f (x ∷ xs) zero d h = omega arith
at_most_greatest f (x ∷ xs) (suc k) d h = let rest = at_most_greatest f xs k d (omega (arith, h)) in omega (arith, rest)

-- the greatest is no more than what all are at most
pub greatest_at_most : {X : Type 0} (f : X → ℕ) (xs : List X) (m : ℕ) → All (λ x. f x ≤ m) xs → greatest_over f xs ≤ m
greatest_at_most f [] m all = omega arith
greatest_at_most f (x ∷ xs) m all =
    let first = All-head (λ y. f y ≤ m) x xs all in
    let rest = greatest_at_most f xs m (All-tail (λ y. f y ≤ m) x xs all) in
    omega (arith, first, rest)

-- some item has the greatest value
pub has_greatest : {X : Type 0} (f : X → ℕ) (x : X) (xs : List X) (d : X) → (k : ℕ) × (k < length (x ∷ xs)) × (f (get_or (x ∷ xs) k d) ≡ greatest_over f (x ∷ xs))
has_greatest f x [] d = (0, omega arith, omega arith)
has_greatest f x (y ∷ ys) d = elim (cases_lt (f x) (greatest_over f (y ∷ ys))) [
  | inl later ↦ let rest = has_greatest f y ys d in (suc rest.0, (let h = rest.1 in omega (arith, h)), (let h = rest.2 in omega (arith, h, later)))
  | inr here ↦ (0, omega arith, omega (arith, here))
]

-- ---- over ranges and pairs
greatest_map : {X Y : Type 0} (f : Y → ℕ) (g : X → Y) (xs : List X) → greatest_over f (map g xs) ≡ greatest_over (λ x. f (g x)) xs
greatest_map f g [] = refl
greatest_map f g (x ∷ xs) = let h = greatest_map f g xs in omega (arith, h)

greatest_flat_map : {X Y : Type 0} (f : Y → ℕ) (g : X → List Y) (xs : List X) → greatest_over f (flat_map g xs) ≡ greatest_over (λ x. greatest_over f (g x)) xs
greatest_flat_map f g [] = refl
greatest_flat_map f g (x ∷ xs) =
    let both = greatest_append f (g x) (flat_map g xs) in
    let rest = greatest_flat_map f g xs in
    omega (arith, both, rest)

range_at_most : (f : ℕ → ℕ) (a n x : ℕ) → a ≤ x → x < a + n → f x ≤ greatest_over f (range_with_len a n)
range_at_most f a zero x low high = absurd (omega (arith, low, high))
range_at_most f a (suc n) x low high = elim (cases_lt a x) [
  | inl later ↦ let rest = range_at_most f (a + 1) n x (omega (arith, later)) (omega (arith, high)) in omega (arith, rest)
  | inr here ↦ let e : x ≡ a = omega (arith, here, low) in rw e (omega arith)
]

range_within : (f : ℕ → ℕ) (a n m : ℕ) → ((x : ℕ) → a ≤ x → x < a + n → f x ≤ m) → greatest_over f (range_with_len a n) ≤ m
range_within f a zero m each = omega arith
range_within f a (suc n) m each =
    let first = each a (omega arith) (omega arith) in
    let rest = range_within f (a + 1) n m (λ x low high. each x (omega (arith, low)) (omega (arith, high))) in
    omega (arith, first, rest)

over_pairs : (f : ℕ × ℕ → ℕ) (n : ℕ) → greatest_over f (pairs_of n) ≡ greatest_over (λ v. greatest_over f (map (λ w. (v, w)) (range_with_len 0 n))) (range_with_len 0 n)
over_pairs f n = greatest_flat_map f (λ v. map (λ w. (v, w)) (range_with_len 0 n)) (range_with_len 0 n)

-- the value of a pair is at most the greatest of all
pub pair_at_most : (f : ℕ × ℕ → ℕ) (n v w : ℕ) → v < n → w < n → f (v, w) ≤ greatest_over f (pairs_of n)
pair_at_most f n v w hv hw =
    let row : greatest_over f (map (λ w. (v, w)) (range_with_len 0 n)) ≡ greatest_over (λ w. f (v, w)) (range_with_len 0 n) = greatest_map f (λ w. (v, w)) (range_with_len 0 n) in
    let here = range_at_most (λ w. f (v, w)) 0 n w (omega arith) (omega (arith, hw)) in
    let there = range_at_most (λ v. greatest_over f (map (λ w. (v, w)) (range_with_len 0 n))) 0 n v (omega arith) (omega (arith, hv)) in
    let all = over_pairs f n in
    omega (arith, row, here, there, all)

-- and the greatest of all is no more than what each pair is at most
pub pairs_within : (f : ℕ × ℕ → ℕ) (n m : ℕ) → ((v w : ℕ) → v < n → w < n → f (v, w) ≤ m) → greatest_over f (pairs_of n) ≤ m
pairs_within f n m each =
    let all = over_pairs f n in
    let rows = range_within (λ v. greatest_over f (map (λ w. (v, w)) (range_with_len 0 n))) 0 n m (λ v low hv.
    let row : greatest_over f (map (λ w. (v, w)) (range_with_len 0 n)) ≡ greatest_over (λ w. f (v, w)) (range_with_len 0 n) = greatest_map f (λ w. (v, w)) (range_with_len 0 n) in
    let below = range_within (λ w. f (v, w)) 0 n m (λ w low hw. each v w (omega (arith, hv)) (omega (arith, hw))) in
    omega (arith, row, below)) in
    omega (arith, all, rows)

-- ---- skews
-- the global skew is the greatest clock less the least
pub skew_of_ends : (clocks : List ℕ) (least greatest : ℕ) → AreEnds clocks least greatest → greatest - least ≡ global_skew clocks
skew_of_ends clocks least greatest are =
    let low = are.has_least in
    let high = are.has_greatest in
    let at_low : slice_index clocks low.0 ≡ least = sym (get_or_default clocks low.0 least 0 low.1) ∙ low.2 in
    let at_high : slice_index clocks high.0 ≡ greatest = sym (get_or_default clocks high.0 greatest 0 high.1) ∙ high.2 in
    let reached = pair_at_most (λ p. lead clocks p.0 p.1) (length clocks) low.0 high.0 low.1 high.1 in
    let most = pairs_within (λ p. lead clocks p.0 p.1) (length clocks) (greatest - least) (λ v w hv hw.
    let a = are.none_less v 0 hv in let b = are.none_greater w 0 hw in omega (arith, a, b)) in
    omega (arith, reached, most, at_low, at_high)

-- a potential is at most what every lead is, beyond the weights
pub potential_at_most : (weight : ℕ → ℕ → ℕ) (clocks : List ℕ) (s m : ℕ)
    → ((v w : ℕ) → v < length clocks → w < length clocks → slice_index clocks w ≤ slice_index clocks v + 2 * s * weight v w + m) → potential weight clocks s ≤ m
potential_at_most weight clocks s m each =
    pairs_within (λ p. beyond weight clocks s p.0 p.1) (length clocks) m (λ v w hv hw. let e = each v w hv hw in omega (arith, e))

-- and so at most the global skew, which it is at level 0
pub potentials_are : (weight : ℕ → ℕ → ℕ) (clocks : List ℕ) → ArePotentials weight clocks
potentials_are weight clocks =
    let below : (s : ℕ) → potential weight clocks s ≤ global_skew clocks = λ s. potential_at_most weight clocks s (global_skew clocks) (λ v w hv hw.
    let a = pair_at_most (λ p. lead clocks p.0 p.1) (length clocks) v w hv hw in omega (arith, a)) in
    let above = pairs_within (λ p. lead clocks p.0 p.1) (length clocks) (potential weight clocks 0) (λ v w hv hw.
    let a = pair_at_most (λ p. beyond weight clocks 0 p.0 p.1) (length clocks) v w hv hw in
    let none : 2 * 0 * weight v w ≡ 0 = omega arith in
    omega (arith, a, none)) in
    let least = below 0 in
    record { first = omega (arith, above, least); within = below }

-- no edge has more than the global skew
pub near_within : (edges : List (ℕ × ℕ)) (clocks : List ℕ) → All (λ e. e.0 < length clocks) edges → All (λ e. e.1 < length clocks) edges → neighbour_skew edges clocks ≤ global_skew clocks
near_within edges clocks lows highs = greatest_at_most (edge_skew clocks) edges (global_skew clocks) (λ k d h.
    let e : ℕ × ℕ = get_or edges k d in
    let there = pair_at_most (λ p. lead clocks p.0 p.1) (length clocks) e.0 e.1 (lows k d h) (highs k d h) in
    let back = pair_at_most (λ p. lead clocks p.0 p.1) (length clocks) e.1 e.0 (highs k d h) (lows k d h) in
    omega (arith, there, back))

-- the ends of the edges of a graph with a clock for each node
pub ends_have_clocks : (g : Graph) (clocks : List ℕ) → IsTopology g → length clocks ≡ g.nodes → All (λ e. e.0 < length clocks) g.edges × All (λ e. e.1 < length clocks) g.edges
ends_have_clocks g clocks is count = (
  λ k d h. let up = is.upright k d h in let below = is.below k d h in omega (arith, up, below, count),
  λ k d h. let below = is.below k d h in omega (arith, below, count),
)

-- the ends of one clock, and of one more
pub ends_of_one : (clock : ℕ) → AreEnds (clock ∷ []) clock clock
ends_of_one clock = record {
  has_least = (0, omega arith, refl);
  none_less = λ k d h. let e : k ≡ 0 = omega (arith, h) in rw e (omega arith);
  has_greatest = (0, omega arith, refl);
  none_greater = λ k d h. let e : k ≡ 0 = omega (arith, h) in rw e (omega arith);
}

pub ends_of_more : (clocks : List ℕ) (least greatest clock : ℕ) → AreEnds clocks least greatest → AreEnds (clocks ++ clock ∷ []) (min least clock) (max greatest clock)
ends_of_more clocks least greatest clock are =
    let low : min least clock ≤ least = omega arith in
    let high : greatest ≤ max greatest clock = omega arith in
    record {
      has_least = elim (cases_lt clock least) [
        | inl lower ↦ let e : min least clock ≡ clock = omega (arith, lower) in rw e (Contains-push clocks clock)
        | inr not_lower ↦ let e : min least clock ≡ least = omega (arith, not_lower) in rw e (Contains-append_left clocks (clock ∷ []) least are.has_least)
      ];
      none_less = All-push (λ c. min least clock ≤ c) clocks clock (λ k d h. let old = are.none_less k d h in omega (arith, old, low)) (omega arith);
      has_greatest = elim (cases_lt greatest clock) [
        | inl higher ↦ let e : max greatest clock ≡ clock = omega (arith, higher) in rw e (Contains-push clocks clock)
        | inr not_higher ↦ let e : max greatest clock ≡ greatest = omega (arith, not_higher) in rw e (Contains-append_left clocks (clock ∷ []) greatest are.has_greatest)
      ];
      none_greater = All-push (λ c. c ≤ max greatest clock) clocks clock (λ k d h. let old = are.none_greater k d h in omega (arith, old, high)) (omega arith);
    }

pub ruleset ends = (skew_of_ends, ends_of_one, ends_of_more)
