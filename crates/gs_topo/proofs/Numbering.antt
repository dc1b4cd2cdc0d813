-- The number of an edge, as a binary search for the pair with its lower end first finds it.
use Rattle.std.proofs.Common.{◌≡◌, ℕ, ◌+◌, ◌<◌, ◌&&◌, ◌==◌, min, max, inl, inr, arith, sym, refl, ◌∙◌, List, length, All, AllPairs, true, false, Some, None, get_or}
use Rattle.std.specs.List.{HoldsAt, position}
use Rattle.std.specs.List.Sorted.{IsBinarySearchResult, IsPartitionPoint, IsSearchInRange}
use Rattle.std.specs.Ordering.{MatchOrdering, is_lt, nat_cmp, ordering_then}
use Rattle.std.specs.declared.cmp.Ordering.{Ordering}
use Rattle.std.specs.declared.cmp.Ordering.TheVariants.{Less, Equal, Greater}
use Rattle.std.specs.Prelude.{Result, Ok, Err}
use Rattle.std.specs.Result.{result_ok}
use Rattle.std.proofs.lemmas.Bool.{cases_lt, eq-eqb, and_from, false_from_ne_true, or_left, or_right}
use Rattle.std.proofs.lemmas.Cmp.{nat_cmp_total, on_total, ranked, then_total}
use Rattle.std.proofs.lemmas.List.Sorted.{searchable_from_sorted}
use Rattle.gs_topo.specs.Graph.{IsBefore, joins}
use Rattle.gs_topo.proofs.Ascending.{joins-cases}
use Rattle.gs_topo.proofs.Nearer.{position_at, position_nowhere}

abbrev pub pair_cmp : ℕ × ℕ → ℕ × ℕ → Ordering
pair_cmp a b = ordering_then (nat_cmp a.0 b.0) (nat_cmp a.1 b.1)

equal_pairs : (a b : ℕ × ℕ) → pair_cmp a b ≡ Equal → (a.0 ≡ b.0) × (a.1 ≡ b.1)
equal_pairs a b h = at (nat_cmp a.0 b.0) (nat_cmp a.1 b.1) (ranked a.0 b.0 (nat_cmp a.0 b.0) refl) (ranked a.1 b.1 (nat_cmp a.1 b.1) refl) h
  where
    at : (o p : Ordering) → MatchOrdering o (a.0 < b.0) (a.0 ≡ b.0) (b.0 < a.0) → MatchOrdering p (a.1 < b.1) (a.1 ≡ b.1) (b.1 < a.1) → ordering_then o p ≡ Equal → (a.0 ≡ b.0) × (a.1 ≡ b.1)
    at Less p first second is = cc
    at Equal Less first second is = cc
    at Equal Equal first second is = (first, second)
    at Equal Greater first second is = cc
    at Greater p first second is = cc

same_pairs : (a b : ℕ × ℕ) → a.0 ≡ b.0 → a.1 ≡ b.1 → pair_cmp a b ≡ Equal
same_pairs a b e f = at (nat_cmp a.0 b.0) (nat_cmp a.1 b.1) (ranked a.0 b.0 (nat_cmp a.0 b.0) refl) (ranked a.1 b.1 (nat_cmp a.1 b.1) refl)
  where
    at : (o p : Ordering) → MatchOrdering o (a.0 < b.0) (a.0 ≡ b.0) (b.0 < a.0) → MatchOrdering p (a.1 < b.1) (a.1 ≡ b.1) (b.1 < a.1) → ordering_then o p ≡ Equal
    at Less p first second = absurd (omega (arith, first, e))
    at Equal Less first second = absurd (omega (arith, second, f))
    at Equal Equal first second = refl
    at Equal Greater first second = absurd (omega (arith, second, f))
    at Greater p first second = absurd (omega (arith, first, e))

not_after : (a b : ℕ × ℕ) → IsBefore a b → is_lt (pair_cmp b a) ≡ false
not_after a b before = at (nat_cmp b.0 a.0) (nat_cmp b.1 a.1) (ranked b.0 a.0 (nat_cmp b.0 a.0) refl) (ranked b.1 a.1 (nat_cmp b.1 a.1) refl)
  where
    at : (o p : Ordering) → MatchOrdering o (b.0 < a.0) (b.0 ≡ a.0) (a.0 < b.0) → MatchOrdering p (b.1 < a.1) (b.1 ≡ a.1) (a.1 < b.1) → is_lt (ordering_then o p) ≡ false
    at Less p first second = elim before [ inl lower ↦ absurd (omega (arith, first, lower)) | inr level ↦ absurd (let l = level.0 in omega (arith, first, l)) ]
    at Equal Less first second = elim before [ inl lower ↦ absurd (omega (arith, first, lower)) | inr level ↦ absurd (let l = level.1 in omega (arith, second, l)) ]
    at Equal Equal first second = refl
    at Equal Greater first second = refl
    at Greater p first second = refl

-- an upright pair joins two numbers exactly where it is their lesser and their greater
ends_of : (e : ℕ × ℕ) (v w : ℕ) → e.0 < e.1 → joins e v w ≡ true → (e.0 ≡ min v w) × (e.1 ≡ max v w)
ends_of e v w upright h = elim (joins-cases e v w h) [
  | inl there ↦ let a = there.0 in let b = there.1 in (omega (arith, upright, a, b), omega (arith, upright, a, b))
  | inr back ↦ let a = back.0 in let b = back.1 in (omega (arith, upright, a, b), omega (arith, upright, a, b))
]

joins-from_ends : (e : ℕ × ℕ) (v w : ℕ) → e.0 ≡ min v w → e.1 ≡ max v w → joins e v w ≡ true
joins-from_ends e v w a b = elim (cases_lt v w) [
  | inl less ↦ or_left ((e.0 == v) && (e.1 == w)) ((e.0 == w) && (e.1 == v)) (and_from (e.0 == v) (e.1 == w) (eq-eqb e.0 v (omega (arith, a, less))) (eq-eqb e.1 w (omega (arith, b, less))))
  | inr more ↦ or_right ((e.0 == v) && (e.1 == w)) ((e.0 == w) && (e.1 == v)) (and_from (e.0 == w) (e.1 == v) (eq-eqb e.0 w (omega (arith, a, more))) (eq-eqb e.1 v (omega (arith, b, more))))
]

-- the edges of a graph, and the ends of the edge that is looked for
pub record IsLookedUp (es : List (ℕ × ℕ)) (v w : ℕ) (x : ℕ × ℕ) : Type 0 where
  pub upright : All (λ e. e.0 < e.1) es
  pub ascending : AllPairs IsBefore es
  pub lower : x.0 ≡ min v w
  pub upper : x.1 ≡ max v w

found_number : (es : List (ℕ × ℕ)) (v w i : ℕ) (x : ℕ × ℕ) → IsLookedUp es v w x → i < length es → HoldsAt (λ e. pair_cmp e x ≡ Equal) es i → position (λ e. joins e v w) es ≡ Some i
found_number es v w i x is inside here =
    let same = equal_pairs (get_or es i (0, 0)) x (here (0, 0)) in
    let low = same.0 ∙ is.lower in
    let high = same.1 ∙ is.upper in
    position_at (λ e. joins e v w) es i (0, 0) inside
    (λ k earlier. false_from_ne_true (joins (get_or es k (0, 0)) v w) (λ yes.
    let ends = ends_of (get_or es k (0, 0)) v w (is.upright k (0, 0) (omega (arith, earlier, inside))) yes in
    elim (is.ascending k i (0, 0) earlier inside) [
      | inl lower ↦ let a = ends.0 in omega (arith, lower, a, low)
      | inr level ↦ let l = level.1 in let b = ends.1 in omega (arith, l, b, high)
    ]))
    (joins-from_ends (get_or es i (0, 0)) v w low high)

no_number : (es : List (ℕ × ℕ)) (v w i : ℕ) (x : ℕ × ℕ) → IsLookedUp es v w x → IsPartitionPoint (λ e. pair_cmp e x ≡ Less) (λ e. pair_cmp e x ≡ Greater) es i → position (λ e. joins e v w) es ≡ None
no_number es v w i x is parts = position_nowhere (λ e. joins e v w) es (0, 0) (λ k inside. false_from_ne_true (joins (get_or es k (0, 0)) v w) (λ yes.
    let e = get_or es k (0, 0) in
    let ends = ends_of e v w (is.upright k (0, 0) inside) yes in
    let equal : pair_cmp e x ≡ Equal = same_pairs e x (ends.0 ∙ sym is.lower) (ends.1 ∙ sym is.upper) in
    elim (cases_lt k i) [
      | inl before ↦ let less : pair_cmp e x ≡ Less = parts.0 k (0, 0) (omega arith) before in let clash : Equal ≡ Less = sym equal ∙ less in cc
      | inr after ↦ let greater : pair_cmp e x ≡ Greater = parts.1 k (0, 0) after inside in let clash : Equal ≡ Greater = sym equal ∙ greater in cc
    ]))

-- what a binary search answers is the place among the edges
pub number_is : (es : List (ℕ × ℕ)) (v w : ℕ) (x : ℕ × ℕ) (r : Result ℕ ℕ) → IsLookedUp es v w x → IsSearchInRange r (length es) → IsBinarySearchResult (λ e. pair_cmp e x) es r → result_ok r ≡ position (λ e. joins e v w) es
number_is es v w x (Ok i) is inside here = sym (found_number es v w i x is inside here)
number_is es v w x (Err i) is inside parts =
    let order = then_total (on_total (λ (e : ℕ × ℕ). e.0) nat_cmp_total) (on_total (λ (e : ℕ × ℕ). e.1) nat_cmp_total) in
    sym (no_number es v w i x is (parts (searchable_from_sorted order (λ (e : ℕ × ℕ). e) es x
    (λ k d low high. not_after (get_or es k d) (get_or es (k + 1) d) (is.ascending k (k + 1) d (omega arith) high)))))
