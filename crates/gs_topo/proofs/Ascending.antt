-- The edges of a graph that was given by any list: ascending, upright, and joining what the list joins.
use Rattle.std.proofs.Common.{◌≡◌, ℕ, zero, suc, ◌+◌, ◌-◌, ◌<◌, ◌≤◌, ◌⊎◌, ◌&&◌, ◌==◌, inl, inr, arith, sym, refl, ◌∙◌, List, [], ◌∷◌, ◌++◌, map, filter, cond, Bool, true, false, All, AllPairs}
use Rattle.std.specs.List.{Contains, flat_map, range_with_len}
use Rattle.std.proofs.lemmas.Bool.{cases_order, cases_lt, eqb-true, eq-eqb, and_parts, and_from, or_cases, or_left, or_right}
use Rattle.std.proofs.lemmas.List.Elements.{All-nil, All-head, All-tail, All-map, All-append, All-weaker, All-filter, All-contains, filter_passes, Contains-append_left, Contains-append_right}
use Rattle.gs_topo.specs.Graph.{IsBefore, joins, joined, adjacent, pairs_below, graph_of}
use Rattle.gs_topo.proofs.Members.{Contains-filter, Contains-map, Contains-range, range_below, member-from_list_any, list_any-from_member, member_cases}
use Rattle.gs_topo.proofs.Distances.{joined-turned}

-- each pair stands before those after it
pub Ascends : List (ℕ × ℕ) → Type 0
Ascends [] = Unit {0}
Ascends (e ∷ es) = All (IsBefore e) es × Ascends es

pub Ascends-filter : (p : ℕ × ℕ → Bool) (es : List (ℕ × ℕ)) → Ascends es → Ascends (filter p es)
unfolding Ascends
Ascends-filter p [] a = tt
Ascends-filter p (e ∷ es) a = at (p e) (All-filter p (IsBefore e) es a.0) (Ascends-filter p es a.1)
  where
    at : (b : Bool) → All (IsBefore e) (filter p es) → Ascends (filter p es) → Ascends (cond b (e ∷ filter p es) (filter p es))
    at true first rest = (first, rest)
    at false first rest = rest

Ascends-append : (xs ys : List (ℕ × ℕ)) → Ascends xs → Ascends ys → All (λ x. All (IsBefore x) ys) xs → Ascends (xs ++ ys)
unfolding Ascends
Ascends-append [] ys a b cross = b
Ascends-append (x ∷ xs) ys a b cross =
    (All-append (IsBefore x) xs ys a.0 (All-head (λ x. All (IsBefore x) ys) x xs cross), Ascends-append xs ys a.1 b (All-tail (λ x. All (IsBefore x) ys) x xs cross))

pub all_pairs : (es : List (ℕ × ℕ)) → Ascends es → AllPairs IsBefore es
unfolding Ascends
all_pairs [] a i j d less inside = absurd (omega (arith, inside))
all_pairs (e ∷ es) a zero zero d less inside = absurd (omega arith)
all_pairs (e ∷ es) a zero (suc j) d less inside = a.0 j d (omega (arith, inside))
all_pairs (e ∷ es) a (suc i) zero d less inside = absurd (omega arith)
all_pairs (e ∷ es) a (suc i) (suc j) d less inside = all_pairs es a.1 i j d (omega arith) (omega (arith, inside))

row_ascends : (a s m : ℕ) → Ascends (map (λ b. (a, b)) (range_with_len s m))
unfolding Ascends
row_ascends a s zero = tt
row_ascends a s (suc m) =
    (All-map (IsBefore (a, s)) (λ (b : ℕ). (a, b)) (range_with_len (s + 1) m) (λ k d h. let r = range_below (s + 1) m k d h in inr (refl, omega (arith, r))), row_ascends a (s + 1) m)

abbrev Row : ℕ → ℕ → List (ℕ × ℕ)
Row n a = map (λ b. (a, b)) (range_with_len (a + 1) (n - (a + 1)))

row_within : (n a : ℕ) → All (λ e. (e.0 ≡ a) × (a < e.1) × (e.1 < n ⊎ n ≤ a)) (Row n a)
row_within n a = All-map (λ (e : ℕ × ℕ). (e.0 ≡ a) × (a < e.1) × (e.1 < n ⊎ n ≤ a)) (λ (b : ℕ). (a, b)) (range_with_len (a + 1) (n - (a + 1)))
    (λ k d h. let r = range_below (a + 1) (n - (a + 1)) k d h in (refl, omega (arith, r), elim (cases_lt a n) [ inl less ↦ inl (omega (arith, r, less)) | inr past ↦ inr past ]))

rows_from : (n a m : ℕ) → All (λ e. a ≤ e.0) (flat_map (Row n) (range_with_len a m))
rows_from n a zero = All-nil (λ e. a ≤ e.0)
rows_from n a (suc m) = All-append (λ e. a ≤ e.0) (Row n a) (flat_map (Row n) (range_with_len (a + 1) m))
    (All-weaker (λ e. (e.0 ≡ a) × (a < e.1) × (e.1 < n ⊎ n ≤ a)) (λ e. a ≤ e.0) (λ e h. let e = h.0 in omega (arith, e)) (Row n a) (row_within n a))
    (All-weaker (λ e. a + 1 ≤ e.0) (λ e. a ≤ e.0) (λ e h. omega (arith, h)) (flat_map (Row n) (range_with_len (a + 1) m)) (rows_from n (a + 1) m))

rows_ascend : (n a m : ℕ) → Ascends (flat_map (Row n) (range_with_len a m))
unfolding Ascends
rows_ascend n a zero = tt
rows_ascend n a (suc m) = Ascends-append (Row n a) (flat_map (Row n) (range_with_len (a + 1) m)) (row_ascends a (a + 1) (n - (a + 1))) (rows_ascend n (a + 1) m)
    (All-weaker (λ e. (e.0 ≡ a) × (a < e.1) × (e.1 < n ⊎ n ≤ a)) (λ x. All (IsBefore x) (flat_map (Row n) (range_with_len (a + 1) m)))
    (λ e h. All-weaker (λ f. a + 1 ≤ f.0) (IsBefore e) (λ f low. inl (let same = h.0 in omega (arith, same, low))) (flat_map (Row n) (range_with_len (a + 1) m)) (rows_from n (a + 1) m))
    (Row n a) (row_within n a))

pub pairs_ascend : (n : ℕ) → Ascends (pairs_below n)
pairs_ascend n = rows_ascend n 0 n

-- each pair is upright, of numbers below n
rows_within : (n a m : ℕ) → a + m ≤ n → All (λ e. (e.0 < e.1) × (e.1 < n)) (flat_map (Row n) (range_with_len a m))
rows_within n a zero fits = All-nil (λ e. (e.0 < e.1) × (e.1 < n))
rows_within n a (suc m) fits = All-append (λ e. (e.0 < e.1) × (e.1 < n)) (Row n a) (flat_map (Row n) (range_with_len (a + 1) m))
    (All-weaker (λ e. (e.0 ≡ a) × (a < e.1) × (e.1 < n ⊎ n ≤ a)) (λ e. (e.0 < e.1) × (e.1 < n))
    (λ e h. (let s = h.0 in let l = h.1 in omega (arith, s, l), elim h.2 [ inl less ↦ less | inr past ↦ absurd (omega (arith, past, fits)) ])) (Row n a) (row_within n a))
    (rows_within n (a + 1) m (omega (arith, fits)))

pub pairs_within : (n : ℕ) → All (λ e. (e.0 < e.1) × (e.1 < n)) (pairs_below n)
pairs_within n = rows_within n 0 n (omega arith)

-- and each such pair is there
flat_member : {X Y : Type 0} (f : X → List Y) (xs : List X) (x : X) (y : Y) → Contains xs x → Contains (f x) y → Contains (flat_map f xs) y
flat_member f [] x y h k = absurd (omega (arith, h.1))
flat_member f (z ∷ xs) x y h k = elim (member_cases z x xs h) [
  | inl same ↦ rw same (Contains-append_left (f x) (flat_map f xs) y k)
  | inr later ↦ Contains-append_right (f z) (flat_map f xs) y (flat_member f xs x y later k)
]

pair_member : (n a b : ℕ) → a < b → b < n → Contains (pairs_below n) (a, b)
pair_member n a b less inside = flat_member (Row n) (range_with_len 0 n) a (a, b) (Contains-range 0 n a (omega arith) (omega arith))
    (Contains-map (λ (x : ℕ). (a, x)) (range_with_len (a + 1) (n - (a + 1))) b (Contains-range (a + 1) (n - (a + 1)) b (omega arith) (omega arith)))

-- what joins two nodes
pub joins-cases : (e : ℕ × ℕ) (v w : ℕ) → joins e v w ≡ true → ((e.0 ≡ v) × (e.1 ≡ w)) ⊎ ((e.0 ≡ w) × (e.1 ≡ v))
joins-cases e v w h = elim (or_cases ((e.0 == v) && (e.1 == w)) ((e.0 == w) && (e.1 == v)) h) [
  | inl there ↦ let p = and_parts (e.0 == v) (e.1 == w) there in inl (eqb-true e.0 v p.0, eqb-true e.1 w p.1)
  | inr back ↦ let p = and_parts (e.0 == w) (e.1 == v) back in inr (eqb-true e.0 w p.0, eqb-true e.1 v p.1)
]

pub joins-itself : (v w : ℕ) → joins (v, w) v w ≡ true
joins-itself v w = or_left ((v == v) && (w == w)) ((v == w) && (w == v)) (and_from (v == v) (w == w) (eq-eqb v v refl) (eq-eqb w w refl))

joins-back : (v w : ℕ) → joins (w, v) v w ≡ true
joins-back v w = or_right ((w == v) && (v == w)) ((w == w) && (v == v)) (and_from (w == w) (v == v) (eq-eqb w w refl) (eq-eqb v v refl))

-- The graph joins what the given edges join.
adjacent-from_joined : (n : ℕ) (given : List (ℕ × ℕ)) (v w : ℕ) → ((u : ℕ) → joined given u u ≡ false) → v < n → w < n → joined given v w ≡ true → adjacent (graph_of n given) v w ≡ true
adjacent-from_joined n given v w plain hv hw h =
    let test : ℕ × ℕ → Bool = λ e. joined given e.0 e.1 in
    elim (cases_order v w) [
      | inl same ↦ let no : joined given v v ≡ false = plain v in let yes : joined given v v ≡ true = rw (← same) at h in let clash : true ≡ false = sym yes ∙ no in cc
      | inr other ↦ elim other [
        | inl less ↦ list_any-from_member (λ e. joins e v w) (filter test (pairs_below n)) (v, w) (joins-itself v w) (Contains-filter test (pairs_below n) (v, w) h (pair_member n v w less hw))
        | inr more ↦ list_any-from_member (λ e. joins e v w) (filter test (pairs_below n)) (w, v) (joins-back v w) (Contains-filter test (pairs_below n) (w, v) (joined-turned given v w h) (pair_member n w v more hv))
      ]
    ]

joined-from_adjacent : (n : ℕ) (given : List (ℕ × ℕ)) (v w : ℕ) → adjacent (graph_of n given) v w ≡ true → joined given v w ≡ true
joined-from_adjacent n given v w h =
    let test : ℕ × ℕ → Bool = λ e. joined given e.0 e.1 in
    let m = member-from_list_any (λ e. joins e v w) (filter test (pairs_below n)) h in
    let passes : joined given m.0.0 m.0.1 ≡ true = All-contains (λ e. test e ≡ true) (filter test (pairs_below n)) m.0 (filter_passes test (pairs_below n)) m.1 in
    elim (joins-cases m.0 v w m.2) [
      | inl there ↦ rw (there.0, there.1) at passes
      | inr back ↦ joined-turned given w v (rw (back.0, back.1) at passes)
    ]

same_answers : (x y : Bool) → (x ≡ true → y ≡ true) → (y ≡ true → x ≡ true) → x ≡ y
same_answers true y f g = sym (f refl)
same_answers false true f g = g refl
same_answers false false f g = refl

pub adjacent_is_joined : (n : ℕ) (given : List (ℕ × ℕ)) → ((u : ℕ) → joined given u u ≡ false) → (v w : ℕ) → v < n → w < n → adjacent (graph_of n given) v w ≡ joined given v w
adjacent_is_joined n given plain v w hv hw = same_answers (adjacent (graph_of n given) v w) (joined given v w) (joined-from_adjacent n given v w) (adjacent-from_joined n given v w plain hv hw)
