-- Walks put together and turned, and their sums.
use Rattle.std.proofs.Common.{◌≡◌, ℕ, ◌+◌, ◌*◌, ◌<◌, ◌≤◌, arith, ap, sym, refl, subst, List, [], ◌∷◌, ◌++◌}
use Rattle.std.proofs.Math.Nat.{mul-add}
use Rattle.gs_topo.specs.Walks.{IsWalk, length_of}

-- a walk and one from its end are a walk
pub walk_append : (adj : ℕ → ℕ → Type 0) (n : ℕ) (v w z : ℕ) (xs ys : List ℕ) → IsWalk adj n v xs w → IsWalk adj n w ys z → IsWalk adj n v (xs ++ ys) z
walk_append adj n v w z [] ys a b = let P : ℕ → Type 0 = λ i. IsWalk adj n i ys z in subst P (sym a) b
walk_append adj n v w z (x ∷ xs) ys a b = (a.0, a.1, walk_append adj n x w z xs ys a.2 b)

-- and its sum is the sum of the two
pub length_of-append : (adj : ℕ → ℕ → Type 0) (n : ℕ) (k : ℕ → ℕ → ℕ) (v w : ℕ) (xs ys : List ℕ) → IsWalk adj n v xs w → length_of k v (xs ++ ys) ≡ length_of k v xs + length_of k w ys
length_of-append adj n k v w [] ys a = let e : length_of k v ys ≡ length_of k w ys = ap (λ (i : ℕ). length_of k i ys) a in omega (arith, e)
length_of-append adj n k v w (x ∷ xs) ys a = let e = length_of-append adj n k x w xs ys a.2 in omega (arith, e)

-- the same walk the other way, of the same sum
pub turned : (adj : ℕ → ℕ → Type 0) (n : ℕ) (k : ℕ → ℕ → ℕ) → ((v w : ℕ) → adj v w → adj w v) → ((v w : ℕ) → k v w ≡ k w v) → (v w : ℕ) (xs : List ℕ) → v < n → IsWalk adj n v xs w
    → (ys : List ℕ) × IsWalk adj n w ys v × (length_of k w ys ≡ length_of k v xs)
turned adj n k both same v w [] hv walk = ([], sym walk, refl)
turned adj n k both same v w (x ∷ xs) hv walk =
    let rest = turned adj n k both same x w xs walk.1 walk.2 in
    let step : IsWalk adj n x (v ∷ []) v = (both v x walk.0, hv, refl) in
    let sum = length_of-append adj n k w x rest.0 (v ∷ []) rest.1 in
    let s = same x v in
    (rest.0 ++ v ∷ [], walk_append adj n w x v rest.0 (v ∷ []) rest.1 step, omega (arith, sum, rest.2, s))

-- sums that fall along no step by more than its length are below the sum of each walk
pub below_walks : (adj : ℕ → ℕ → Type 0) (n : ℕ) (k : ℕ → ℕ → ℕ) (d : ℕ → ℕ) → ((u x : ℕ) → u < n → x < n → adj u x → d x ≤ d u + k u x)
    → (v w : ℕ) (xs : List ℕ) → v < n → IsWalk adj n v xs w → d w ≤ d v + length_of k v xs
below_walks adj n k d near v w [] hv walk = let e : d v ≡ d w = ap d walk in omega (arith, e)
below_walks adj n k d near v w (x ∷ xs) hv walk =
    let step = near v x hv walk.1 walk.0 in
    let rest = below_walks adj n k d near x w xs walk.1 walk.2 in
    omega (arith, step, rest)

-- steps of at most m each make a sum of at most m for each step
pub sum_is_small : (adj : ℕ → ℕ → Type 0) (n : ℕ) (k j : ℕ → ℕ → ℕ) (m : ℕ) → ((v w : ℕ) → v < n → w < n → adj v w → k v w ≤ m * j v w)
    → (v w : ℕ) (xs : List ℕ) → v < n → IsWalk adj n v xs w → length_of k v xs ≤ m * length_of j v xs
sum_is_small adj n k j m most v w [] hv walk = omega arith
sum_is_small adj n k j m most v w (x ∷ xs) hv walk =
    let step = most v x hv walk.1 walk.0 in
    let rest = sum_is_small adj n k j m most x w xs walk.1 walk.2 in
    let e : m * (j v x + length_of j x xs) ≡ m * j v x + m * length_of j x xs = mul-add m (j v x) (length_of j x xs) in
    omega (arith, step, rest, e)

-- steps of exactly m each make a sum of m for each step
pub sum_of_equal : (adj : ℕ → ℕ → Type 0) (n : ℕ) (k j : ℕ → ℕ → ℕ) (m : ℕ) → ((v w : ℕ) → v < n → w < n → adj v w → k v w ≡ m * j v w)
    → (v w : ℕ) (xs : List ℕ) → v < n → IsWalk adj n v xs w → length_of k v xs ≡ m * length_of j v xs
sum_of_equal adj n k j m equal v w [] hv walk = omega arith
sum_of_equal adj n k j m equal v w (x ∷ xs) hv walk =
    let step = equal v x hv walk.1 walk.0 in
    let rest = sum_of_equal adj n k j m equal x w xs walk.1 walk.2 in
    let e : m * (j v x + length_of j x xs) ≡ m * j v x + m * length_of j x xs = mul-add m (j v x) (length_of j x xs) in
    omega (arith, step, rest, e)
