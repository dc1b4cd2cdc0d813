-- Two lists that are walked side by side, the second one over those of its elements that pass a test.
use Rattle.std.proofs.Common.{◌≡◌, ◌≢◌, ℕ, ◌+◌, ◌<◌, ◌≤◌, ◌⊎◌, inl, inr, Bool, true, false, cond, List, [], ◌∷◌, ◌++◌, length, take, drop, get_or, Option, Some, None, refl, sym, ◌∙◌, ap, arith, append_assoc, length-append, length-take, append-nil}
use Rattle.std.specs.Prelude.{filter, slice_get}
use Rattle.std.proofs.lemmas.List.{take-append-drop, take_more, take_all, take_at}
use Rattle.std.proofs.lemmas.List.Elements.{filter-append, filter_more}
use Rattle.std.proofs.lemmas.Option.{get_or_from_slice_get, slice_get_cases, slice_get_past, slice_get_read, slice_get_within}
use Rattle.std.proofs.lemmas.Grind.{common_steps}
use Rattle.gs_board.specs.Torn.{FirstDiffers}

-- the first elements of xs are those that pass among the first i of ks
pub record IsSoFar {A : Type 0} (p : A → Bool) (ks xs : List A) (i count : ℕ) : Type 0 where
  pub same : take count xs ≡ filter p (take i ks)
  pub within : count ≤ length xs

no_element : {A : Type 0} (xs : List A) (i : ℕ) → ((x : A) × (i < length xs) × (slice_get xs i ≡ Some x) × (get_or xs i x ≡ x)) ⊎ ((length xs ≤ i) × (slice_get xs i ≡ None))
    → slice_get xs i ≡ None → length xs ≤ i
no_element xs i (inl here) none = absurd (let one = here.2 in cc)
no_element xs i (inr past) none = past.0

-- where no element is, the list is at its end
past_end : {A : Type 0} (xs : List A) (i : ℕ) → slice_get xs i ≡ None → length xs ≤ i
past_end xs i none = no_element xs i (slice_get_cases xs i).1 none

module _ {A : Type 0} (p : A → Bool) (ks : List A) where
  -- one element more of ks
  passes : (i : ℕ) (k : A) → slice_get ks i ≡ Some k → p k ≡ true → filter p (take (i + 1) ks) ≡ filter p (take i ks) ++ k ∷ []
  passes i k at is =
      let here : get_or ks i k ≡ k = get_or_from_slice_get ks i k k at in
      let one : cond (p (get_or ks i k)) (get_or ks i k ∷ []) [] ≡ k ∷ [] = rw (here, is) refl in
      filter_more p ks i k (slice_get_within ks i k at) ∙ ap (λ (z : List A). filter p (take i ks) ++ z) one

  skipped : (i : ℕ) (k : A) → slice_get ks i ≡ Some k → p k ≡ false → filter p (take (i + 1) ks) ≡ filter p (take i ks)
  skipped i k at is =
      let here : get_or ks i k ≡ k = get_or_from_slice_get ks i k k at in
      let none : cond (p (get_or ks i k)) (get_or ks i k ∷ []) [] ≡ [] = rw (here, is) refl in
      filter_more p ks i k (slice_get_within ks i k at) ∙ (ap (λ (z : List A). filter p (take i ks) ++ z) none ∙ append-nil _)

  splits : (i : ℕ) (k : A) → slice_get ks i ≡ Some k → p k ≡ true → filter p ks ≡ filter p (take i ks) ++ k ∷ filter p (drop (i + 1) ks)
  splits i k at is =
      ap (filter p) (sym (take-append-drop (i + 1) ks)) ∙ (filter-append p (take (i + 1) ks) (drop (i + 1) ks)
      ∙ (ap (λ (z : List A). z ++ filter p (drop (i + 1) ks)) (passes i k at is) ∙ append_assoc (filter p (take i ks)) (k ∷ []) (filter p (drop (i + 1) ks))))

  seam : (xs ys : List A) (k : A) → slice_get (xs ++ k ∷ ys) (length xs) ≡ Some k
  seam xs ys k = slice_get_read (xs ++ k ∷ ys) (length (xs ++ k ∷ ys)) (length xs) k refl (omega (arith, length-append xs (k ∷ ys))) (grind (arith, common_steps))

  count_is : (xs : List A) (i count : ℕ) → IsSoFar p ks xs i count → length (filter p (take i ks)) ≡ count
  count_is xs i count h = let e = ap length h.same in omega (arith, e, length-take count xs, h.within)

  -- the walk skips what does not pass,
  pub skips : (xs : List A) (i count : ℕ) (k : A) → IsSoFar p ks xs i count → slice_get ks i ≡ Some k → p k ≡ false → IsSoFar p ks xs (i + 1) count
  skips xs i count k h at is = record { same = h.same ∙ sym (skipped i k at is); within = h.within }

  -- goes on where both are the same,
  pub goes_on : (xs : List A) (i count : ℕ) (k : A) → IsSoFar p ks xs i count → slice_get ks i ≡ Some k → p k ≡ true → slice_get xs count ≡ Some k
      → IsSoFar p ks xs (i + 1) (count + 1)
  goes_on xs i count k h at is same =
      let within = slice_get_within xs count k same in record {
        same = take_more xs count k within ∙ (ap (λ (z : A). take count xs ++ z ∷ []) (get_or_from_slice_get xs count k k same)
            ∙ (ap (λ (z : List A). z ++ k ∷ []) h.same ∙ sym (passes i k at is)));
        within = omega (arith, within);
      }

  -- stops where they differ,
  pub differs : (xs : List A) (i count : ℕ) (k : A) (x : Option A) → IsSoFar p ks xs i count → slice_get ks i ≡ Some k → p k ≡ true → slice_get xs count ≡ x → x ≢ Some k
      → FirstDiffers count x (Some k) xs (filter p ks)
  differs xs i count k x h at is here other =
      let n = count_is xs i count h in
      let all = splits i k at is in record {
        same = h.same ∙ (sym (take_at (filter p (take i ks)) (k ∷ filter p (drop (i + 1) ks)) count n) ∙ ap (take count) (sym all));
        told_is = here;
        kept_is = ap (λ (z : List A). slice_get z count) all
            ∙ (ap (slice_get (filter p (take i ks) ++ k ∷ filter p (drop (i + 1) ks))) (sym n) ∙ seam (filter p (take i ks)) (filter p (drop (i + 1) ks)) k);
        differ = other;
      }

  -- and ends where ks is at its end: xs has more,
  pub ends_long : (xs : List A) (i count : ℕ) (x : A) → IsSoFar p ks xs i count → length ks ≤ i → slice_get xs count ≡ Some x
      → FirstDiffers count (Some x) None xs (filter p ks)
  ends_long xs i count x h le more =
      let whole = take_all i ks le in
      let same : take count xs ≡ filter p ks = h.same ∙ ap (filter p) whole in
      let n : length (filter p ks) ≤ count = omega (arith, count_is xs i count h, ap (λ (z : List A). length (filter p z)) whole) in record {
        same = same ∙ sym (take_all count (filter p ks) n);
        told_is = more;
        kept_is = slice_get_past (filter p ks) count n;
        differ = λ q. absurd (cc);
      }

  -- or is the same.
  pub all_same : (xs : List A) (i count : ℕ) → IsSoFar p ks xs i count → length ks ≤ i → slice_get xs count ≡ None → xs ≡ filter p ks
  all_same xs i count h le none =
      let past = past_end xs count none in
      sym (take_all count xs past) ∙ (h.same ∙ ap (filter p) (take_all i ks le))
