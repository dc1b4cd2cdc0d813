-- One pass over all pairs finds the greatest excess with the first pair that has it.
use Rattle.std.proofs.Common.{◌≡◌, ℕ, zero, suc, ◌+◌, ◌<◌, ◌≤◌, ◌==◌, nat_lt, inl, inr, arith, ap, sym, refl, ◌∙◌, cond, fold, List, [], ◌∷◌, true, false, unwrap_or, length}
use Rattle.std.specs.List.{find, flat_map, range_with_len}
use Rattle.std.proofs.lemmas.Bool.{cases_lt, eq-eqb, ne_eqb, le-ltb, lt-ltb}
use Rattle.std.proofs.lemmas.Grind.{fold-append}
use Rattle.gs_topo.proofs.Building.{flat_range_more, map_range_more}
use Rattle.gs_level.specs.declared.peak.Peak.{Peak}
use Rattle.gs_level.specs.Peaks.{first_pair, peak_of}
use Rattle.gs_level.specs.inside.Running.{pairs_from, raised}
use Rattle.gs_skew.specs.Skews.{beyond, greatest_over, pairs_of, potential}

-- the excess of a pair, the first pair of a list with an excess, and a peak with its pair
abbrev excess : (ℕ → ℕ → ℕ) → List ℕ → ℕ → ℕ × ℕ → ℕ
excess weight clocks s p = beyond weight clocks s p.0 p.1

abbrev first_of : (ℕ × ℕ → ℕ) → ℕ → List (ℕ × ℕ) → ℕ × ℕ
first_of f m xs = unwrap_or (find (λ p. f p == m) xs) (0, 0)

abbrev peak_at : ℕ → ℕ × ℕ → Peak
peak_at value p = record { value = value; v = p.0; w = p.1 }

abbrev peak_in : (ℕ × ℕ → ℕ) → List (ℕ × ℕ) → Peak
peak_in f xs = peak_at (greatest_over f xs) (first_of f (greatest_over f xs) xs)

-- a peak, or one more pair
abbrev better : (ℕ × ℕ → ℕ) → Peak → ℕ × ℕ → Peak
better f best p = cond (nat_lt best.value (f p)) (peak_at (f p) p) best

-- the first pair of more, where it has the greatest excess, and where a later one has
first_here : (f : ℕ × ℕ → ℕ) (x : ℕ × ℕ) (xs : List (ℕ × ℕ)) → greatest_over f xs ≤ f x → peak_in f (x ∷ xs) ≡ peak_at (f x) x
first_here f x xs most =
    let value : greatest_over f (x ∷ xs) ≡ f x = omega (arith, most) in
    let here : first_of f (f x) (x ∷ xs) ≡ x = (let e : (f x == f x) ≡ true = eq-eqb (f x) (f x) refl in rw e refl) in
    ap (λ (m : ℕ). peak_at m (first_of f m (x ∷ xs))) value ∙ ap (λ (p : ℕ × ℕ). peak_at (f x) p) here

first_later : (f : ℕ × ℕ → ℕ) (x : ℕ × ℕ) (xs : List (ℕ × ℕ)) → f x < greatest_over f xs → peak_in f (x ∷ xs) ≡ peak_in f xs
first_later f x xs less =
    let value : greatest_over f (x ∷ xs) ≡ greatest_over f xs = omega (arith, less) in
    let later : first_of f (greatest_over f xs) (x ∷ xs) ≡ first_of f (greatest_over f xs) xs =
    (let e : (f x == greatest_over f xs) ≡ false = ne_eqb (f x) (greatest_over f xs) (λ same. omega (arith, less, same)) in rw e refl) in
    ap (λ (m : ℕ). peak_at m (first_of f m (x ∷ xs))) value ∙ ap (λ (p : ℕ × ℕ). peak_at (greatest_over f xs) p) later

-- the pass keeps the greater of what it had and the peak of the list
pass_is : (f : ℕ × ℕ → ℕ) (xs : List (ℕ × ℕ)) (best : Peak) → fold (better f) best xs ≡ cond (nat_lt best.value (greatest_over f xs)) (peak_in f xs) best
pass_is f [] best = rw (le-ltb best.value 0 (omega arith)) refl
pass_is f (x ∷ xs) best = elim (cases_lt best.value (f x)) [
  | inl raises ↦
      let step : better f best x ≡ peak_at (f x) x = (rw (lt-ltb best.value (f x) raises) refl) in
      let above : nat_lt best.value (greatest_over f (x ∷ xs)) ≡ true = lt-ltb best.value (greatest_over f (x ∷ xs)) (omega (arith, raises)) in
      let rest = pass_is f xs (peak_at (f x) x) in
      ap (λ (b : Peak). fold (better f) b xs) step ∙ rest ∙ elim (cases_lt (f x) (greatest_over f xs)) [
        | inl later ↦ rw (lt-ltb (f x) (greatest_over f xs) later, above) (sym (first_later f x xs later))
        | inr here ↦ rw (le-ltb (f x) (greatest_over f xs) here, above) (sym (first_here f x xs here))
      ]
  | inr keeps ↦
      let step : better f best x ≡ best = (rw (le-ltb best.value (f x) keeps) refl) in
      let rest = pass_is f xs best in
      ap (λ (b : Peak). fold (better f) b xs) step ∙ rest ∙ elim (cases_lt best.value (greatest_over f xs)) [
        | inl later ↦
            let above : nat_lt best.value (greatest_over f (x ∷ xs)) ≡ true = lt-ltb best.value (greatest_over f (x ∷ xs)) (omega (arith, later)) in
            rw (lt-ltb best.value (greatest_over f xs) later, above) (sym (first_later f x xs (omega (arith, later, keeps))))
        | inr none ↦
            let below : nat_lt best.value (greatest_over f (x ∷ xs)) ≡ false = le-ltb best.value (greatest_over f (x ∷ xs)) (omega (arith, none, keeps)) in
            rw (le-ltb best.value (greatest_over f xs) none, below) refl
      ]
]

-- no node is ahead of itself, so the first of all pairs has an excess of 0
none_is_first : (weight : ℕ → ℕ → ℕ) (clocks : List ℕ) (s n : ℕ) → first_of (excess weight clocks s) 0 (pairs_of n) ≡ (0, 0)
none_is_first weight clocks s zero = refl
none_is_first weight clocks s (suc n) =
    let e : (excess weight clocks s (0, 0) == 0) ≡ true = eq-eqb (excess weight clocks s (0, 0)) 0 (omega arith) in
    rw e refl

-- where no pair has an excess, the peak is nothing
pub no_peak : (weight : ℕ → ℕ → ℕ) (clocks : List ℕ) (s : ℕ) → potential weight clocks s ≡ 0 → peak_of weight clocks s ≡ record { value = 0; v = 0; w = 0 }
no_peak weight clocks s none =
    ap (λ (m : ℕ). peak_at m (first_pair weight clocks s m)) none ∙ ap (λ (p : ℕ × ℕ). peak_at 0 p) (none_is_first weight clocks s (length clocks))

-- from nothing the pass finds the peak
pub pass_over_pairs : (weight : ℕ → ℕ → ℕ) (clocks : List ℕ) (s : ℕ) → fold (raised weight clocks s) (record { value = 0; v = 0; w = 0 }) (pairs_of (length clocks)) ≡ peak_of weight clocks s
unfolding raised
pass_over_pairs weight clocks s =
    let f : ℕ × ℕ → ℕ = excess weight clocks s in
    let xs : List (ℕ × ℕ) = pairs_of (length clocks) in
    pass_is (excess weight clocks s) (pairs_of (length clocks)) (record { value = 0; v = 0; w = 0 }) ∙ elim (cases_lt 0 (potential weight clocks s)) [
      | inl some ↦ rw (lt-ltb 0 (potential weight clocks s) some) refl
      | inr none ↦
          rw (le-ltb 0 (potential weight clocks s) none) (sym (no_peak weight clocks s (omega (arith, none))))
    ]

-- one more pair of a node, and the pairs of one more node
pub one_more_pair : (weight : ℕ → ℕ → ℕ) (clocks : List ℕ) (s : ℕ) (best : Peak) (v w : ℕ)
    → fold (raised weight clocks s) best (pairs_from (w + 1) v) ≡ raised weight clocks s (fold (raised weight clocks s) best (pairs_from w v)) (v, w)
one_more_pair weight clocks s best v w =
    ap (fold (raised weight clocks s) best) (map_range_more (λ x. (v, x)) w) ∙ fold-append (raised weight clocks s) best (pairs_from w v) ((v, w) ∷ [])

-- the pairs of the first nodes
abbrev pub pairs_below : ℕ → ℕ → List (ℕ × ℕ)
pairs_below n v = flat_map (pairs_from n) (range_with_len 0 v)

pub one_more_node : (weight : ℕ → ℕ → ℕ) (clocks : List ℕ) (s : ℕ) (best : Peak) (n v : ℕ)
    → fold (raised weight clocks s) best (pairs_below n (v + 1)) ≡ fold (raised weight clocks s) (fold (raised weight clocks s) best (pairs_below n v)) (pairs_from n v)
one_more_node weight clocks s best n v =
    ap (fold (raised weight clocks s) best) (flat_range_more (pairs_from n) v) ∙ fold-append (raised weight clocks s) best (pairs_below n v) (pairs_from n v)

pub ruleset passes = (one_more_pair, one_more_node, pass_over_pairs)
