-- Least sums over walks weigh the pairs, where steps go both ways at one length.
use Rattle.std.proofs.Common.{◌≡◌, ◌≢◌, ℕ, ◌+◌, ◌<◌, ◌≤◌, arith, sym, refl, List, [], ◌∷◌, Bool, IsTrue}
use Rattle.gs_topo.specs.Walks.{IsWalk, length_of}
use Rattle.gs_topo.specs.Laws.{AreLeastSums, LeastSumsWeigh}
use Rattle.gs_topo.proofs.Walks.{turned}

abbrev Steps : (ℕ → ℕ → Bool) → ℕ → ℕ → Type 0
Steps adj a b = IsTrue (adj a b)

turned_least : (n : ℕ) (adj : ℕ → ℕ → Bool) (k weight : ℕ → ℕ → ℕ) → AreLeastSums n adj k weight → (v w : ℕ) → v < n → w < n → weight w v ≤ weight v w
turned_least n adj k weight t v w hv hw =
    let there = (t.least v w hv hw).some in
    let back = turned (Steps adj) n k t.both_ways t.same_length v w there.0 hv there.1 in
    let le = (t.least w v hw hv).each back.0 back.1 in
    omega (arith, le, back.2, there.2)

-- least sums are the same both ways
pub same_weight : (n : ℕ) (adj : ℕ → ℕ → Bool) (k weight : ℕ → ℕ → ℕ) → AreLeastSums n adj k weight → (v w : ℕ) → v < n → w < n → weight v w ≡ weight w v
same_weight n adj k weight t v w hv hw =
    let a = turned_least n adj k weight t v w hv hw in
    let b = turned_least n adj k weight t w v hw hv in
    omega (arith, a, b)

-- a step in front
step_more : (n : ℕ) (adj : ℕ → ℕ → Bool) (k weight : ℕ → ℕ → ℕ) → AreLeastSums n adj k weight → (u x w : ℕ) → u < n → x < n → w < n → IsTrue (adj u x) → weight u w ≤ k u x + weight x w
step_more n adj k weight t u x w hu hx hw next =
    let rest = (t.least x w hx hw).some in
    let le = (t.least u w hu hw).each (x ∷ rest.0) (next, hx, rest.1) in
    omega (arith, le, rest.2)

-- the first step of a walk of the least sum
first_step : (n : ℕ) (adj : ℕ → ℕ → Bool) (k weight : ℕ → ℕ → ℕ) → AreLeastSums n adj k weight → (w u : ℕ) → w < n → u < n → w ≢ u → (xs : List ℕ) → IsWalk (Steps adj) n u xs w → length_of k u xs ≡ weight u w
    → (x : ℕ) × (x < n) × IsTrue (adj u x) × (weight w u ≡ k u x + weight w x)
first_step n adj k weight t w u hw hu other [] walk sum = absurd (other (sym walk))
first_step n adj k weight t w u hw hu other (x ∷ xs) walk sum =
    let rest = (t.least x w walk.1 hw).each xs walk.2 in
    let more = step_more n adj k weight t u x w hu walk.1 hw walk.0 in
    let a = same_weight n adj k weight t w u hw hu in
    let b = same_weight n adj k weight t w x hw walk.1 in
    (x, walk.1, walk.0, omega (arith, rest, more, a, b, sum))

pub least_sums_weigh : LeastSumsWeigh
least_sums_weigh n adj k weight t = record {
  itself = λ v hv. let le = (t.least v v hv hv).each [] refl in omega (arith, le);
  same = λ v w hv hw. same_weight n adj k weight t v w hv hw;
  towards = λ w u hw hu other. let s = (t.least u w hu hw).some in first_step n adj k weight t w u hw hu other s.0 s.1 s.2;
  near = λ w u y hw hu hy next.
      let more = step_more n adj k weight t y u w hy hu hw (t.both_ways u y next) in
      let a = same_weight n adj k weight t w y hw hy in
      let b = same_weight n adj k weight t w u hw hu in
      let c = t.same_length u y in
      omega (arith, more, a, b, c);
}
