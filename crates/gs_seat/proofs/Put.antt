-- A letter is put among what is in transit to a node.
use Rattle.std.proofs.Common.{◌≡◌, ℕ, zero, suc, ◌-◌, ◌<◌, ◌≤◌, inl, inr, arith, ap, sym, refl, ◌∙◌, subst, Bool, true, false, if◌then◌else◌, List, [], ◌∷◌, length, slice_index_or}
use Rattle.std.specs.BTreeSet.{insert_key}
use Rattle.std.specs.List.{AllByRecursion, insert}
use Rattle.std.specs.Ordering.{is_gt, is_lt}
use Rattle.std.specs.declared.cmp.Ordering.{Ordering}
use Rattle.std.specs.declared.cmp.Ordering.TheVariants.{Less, Equal, Greater}
use Rattle.std.proofs.lemmas.Bool.{cases_eq, true≢false}
use Rattle.std.proofs.lemmas.List.{get_or_default}
use Rattle.gs_calendar.specs.Due.{Key, key_cmp}
use Rattle.gs_calendar.specs.Transits.{Has, Before, AreInOrder}
use Rattle.gs_calendar.proofs.Placed.{stands, ahead, level, behind}
use Rattle.gs_calendar.proofs.Sorted.{before_on, behind_has, never_both, never_itself}
use Rattle.gs_seat.specs.Letters.{Letter, IsGap, key_of, keys, put_letter}

-- ---- where it belongs

-- a key is greater than those before it
greater : (x y : Key) → Before y x → is_gt (key_cmp x y) ≡ true
greater x y before = elim (stands x y) [
  | ahead o after ↦ absurd (never_both x y after before)
  | level o same ↦ absurd (never_itself y (subst (λ (z : Key). Before y z) same before))
  | behind o b ↦ ap is_gt o
]

-- what is not less than another key, nor that key, stands behind it
not_less : (x y : Key) → is_lt (key_cmp x y) ≡ false → (x ≡ y → ⊥) → Before y x
not_less x y e other = elim (stands x y) [
  | ahead o b ↦ absurd (true≢false (sym (ap is_lt o) ∙ e))
  | level o same ↦ absurd (other same)
  | behind o before ↦ before
]

never_both_ways : (o : Ordering) → is_lt o ≡ true → is_gt o ≡ false
never_both_ways Less e = refl
never_both_ways Equal e = refl
never_both_ways Greater e = absurd (true≢false (sym e))

key_at : (bs : List Letter) (i : ℕ) (d : Letter) → i < length bs → Has (key_of (slice_index_or bs i d)) (keys bs)
unfolding Has
key_at [] i d inside = absurd (omega (arith, inside))
key_at (b ∷ bs) zero d inside = inl refl
key_at (b ∷ bs) (suc i) d inside = inr (key_at bs i d (omega (arith, inside)))

rises : (bs : List Letter) (i j : ℕ) (d : Letter) → AreInOrder (keys bs) → i < j → j < length bs → Before (key_of (slice_index_or bs i d)) (key_of (slice_index_or bs j d))
unfolding AreInOrder
rises [] i j d order less inside = absurd (omega (arith, inside))
rises (b ∷ bs) i zero d order less inside = absurd (omega (arith, less))
rises (b ∷ bs) zero (suc j) d order less inside = behind_has (key_of b) (keys bs) (key_of (slice_index_or bs j d)) order.0 (key_at bs j d (omega (arith, inside)))
rises (b ∷ bs) (suc i) (suc j) d order less inside = rises bs i j d order.1 (omega (arith, less)) (omega (arith, inside))

-- a search from the end finds the place
pub gap_found : (b : Letter) (bs : List Letter) (at : ℕ) → AreInOrder (keys bs) → (Has (key_of b) (keys bs) → ⊥) → at ≤ length bs
    → ((d : Letter) → at < length bs → is_lt (key_cmp (key_of b) (key_of (slice_index_or bs at d))) ≡ true)
    → ((d : Letter) → 0 < at → is_lt (key_cmp (key_of b) (key_of (slice_index_or bs (at - 1) d))) ≡ false)
    → IsGap b bs at
gap_found b bs at order new inside rest last = record {
  inside = inside;
  lesser = λ i d less.
      let below : at - 1 < length bs = omega (arith, inside, less) in
      let stands_last : Before (key_of (slice_index_or bs (at - 1) d)) (key_of b) =
      not_less (key_of b) (key_of (slice_index_or bs (at - 1) d)) (last d (omega (arith, less)))
      (λ same. new (subst (λ (k : Key). Has k (keys bs)) (sym same) (key_at bs (at - 1) d below))) in
      greater (key_of b) (key_of (slice_index_or bs i d)) (elim (cases_eq i (at - 1)) [
        | inl same ↦ subst (λ (k : ℕ). Before (key_of (slice_index_or bs k d)) (key_of b)) (sym same) stands_last
        | inr other ↦ before_on (key_of (slice_index_or bs i d)) (key_of (slice_index_or bs (at - 1) d)) (key_of b) (rises bs i (at - 1) d order (omega (arith, less, other)) below) stands_last
      ]);
  rest = λ d less. never_both_ways (key_cmp (key_of b) (key_of (slice_index_or bs at d))) (rest d less);
}

-- as the search ends at this letter
pub gap_here : (b x : Letter) (bs : List Letter) (at : ℕ) → AreInOrder (keys bs) → (Has (key_of b) (keys bs) → ⊥) → at ≤ length bs
    → ((d : Letter) → at < length bs → is_lt (key_cmp (key_of b) (key_of (slice_index_or bs at d))) ≡ true)
    → x ≡ slice_index_or bs (at - 1) x → is_lt (key_cmp (key_of b) (key_of x)) ≡ false → IsGap b bs at
gap_here b x bs at order new inside rest here stays = gap_found b bs at order new inside rest (λ d some.
    let same : slice_index_or bs (at - 1) d ≡ x = get_or_default bs (at - 1) d x (omega (arith, inside, some)) ∙ sym here in
    ap (λ (y : Letter). is_lt (key_cmp (key_of b) (key_of y))) same ∙ stays)

-- it is put there
pub insert_is : (b : Letter) (bs : List Letter) (at : ℕ) → IsGap b bs at → insert bs at b ≡ put_letter b bs
insert_is b [] zero gap = refl
insert_is b [] (suc at) gap = absurd (let inside = gap.inside in omega (arith, inside))
insert_is b (x ∷ bs) zero gap = let not : is_gt (key_cmp (key_of b) (key_of x)) ≡ false = gap.rest x (omega arith) in rw not refl
insert_is b (x ∷ bs) (suc at) gap =
    let first : is_gt (key_cmp (key_of b) (key_of x)) ≡ true = gap.lesser 0 x (omega arith) in
    let left : IsGap b bs at = record {
      inside = (let inside = gap.inside in omega (arith, inside));
      lesser = λ i d less. gap.lesser (suc i) d (omega (arith, less));
      rest = λ d less. gap.rest d (omega (arith, less));
    } in
    rw first (ap (λ (xs : List Letter). x ∷ xs) (insert_is b bs at left))

-- ---- what it is put among

-- its key is put among the keys
pub keys_put : (b : Letter) (bs : List Letter) → (Has (key_of b) (keys bs) → ⊥) → keys (put_letter b bs) ≡ insert_key key_cmp (keys bs) (key_of b)
unfolding Has
keys_put b [] new = refl
keys_put b (x ∷ bs) new = elim (stands (key_of b) (key_of x)) [
  | ahead o before ↦ rw o refl
  | level o same ↦ absurd (new (inl (sym same)))
  | behind o after ↦ rw o (ap (λ (ks : List Key). key_of x ∷ ks) (keys_put b bs (λ has. new (inr has))))
]

-- what holds of it and of those before holds of all
pub each_put : (P : Letter → Type 0) (b : Letter) (bs : List Letter) → P b → AllByRecursion P bs → AllByRecursion P (put_letter b bs)
each_put P b [] one all = (one, tt)
each_put P b (x ∷ bs) one all = pick (is_gt (key_cmp (key_of b) (key_of x))) (each_put P b bs one all.1) where
  pick : (d : Bool) → AllByRecursion P (put_letter b bs) → AllByRecursion P (if d then x ∷ put_letter b bs else b ∷ x ∷ bs)
  pick true rest = (all.0, rest)
  pick false rest = (one, all)
