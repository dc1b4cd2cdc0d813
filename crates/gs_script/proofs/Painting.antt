-- Runs that ascend: one more, two lists of them as one, and which of them a quantum is in.
use Rattle.std.proofs.Common.{◌≡◌, ◌==◌, ◌∙◌, ◌<◌, ◌≤◌, ◌+◌, ◌-◌, ◌^◌, ℕ, nat_le, Bool, true, false, List, [], ◌∷◌, ◌++◌, length, drop, get_or, cond, max, min, ◌&&◌, ◌⊎◌, zero, suc, inl, inr, refl, sym, ap, arith, append_assoc, if◌then◌else◌}
use Rattle.std.specs.List.Sorted.{IsNonDecreasingBy}
use Rattle.std.proofs.lemmas.Bool.{false≢true, le-leb, lt-leb, ne_eqb}
use Rattle.std.proofs.lemmas.Bool.Decides.{nat_tests}
use Rattle.std.proofs.lemmas.List.{append-nil, get_or_default, drop_all, drop_more}
use Rattle.gs_script.specs.declared.run.Run.{Run}
use Rattle.gs_script.specs.Lasts.{Lasts}
use Rattle.gs_script.specs.inside.Runs.{Rise, value_at, value_or}

-- ---- lists of runs

pub value_or-append : (t : ℕ) (xs ys : List Run) (n : ℕ) → value_or t (xs ++ ys) n ≡ value_or t xs (value_or t ys n)
unfolding value_or
value_or-append t [] ys n = refl
value_or-append t (r ∷ xs) ys n = ap (λ y. cond (nat_le t r.until) r.value y) (value_or-append t xs ys n)

-- the last run may be left out where the next has its value
Rise-last : (n : ℕ) (xs : List Run) (last run : Run) (rest : List Run) → Rise n (xs ++ last ∷ (run ∷ rest)) → (last.until ≤ run.until) × Rise n (xs ++ run ∷ rest)
unfolding Rise
Rise-last n [] last run rest h = (h.1.0, (omega (arith, h), h.1.1))
Rise-last n (r ∷ xs) last run rest h = (let rest = Rise-last r.until xs last run rest h.1 in (rest.0, (h.0, rest.1)))

same_value : (t : ℕ) (last run : Run) (n : ℕ) → last.until ≤ run.until → last.value ≡ run.value → value_or t (run ∷ []) n ≡ value_or t (last ∷ (run ∷ [])) n
unfolding value_or
same_value t last run n below same = grind (arith, nat_tests)

-- one run more in place of the last
pub replaced : (xs : List Run) (last run : Run) → last.value ≡ run.value → Rise 0 ((xs ++ last ∷ []) ++ run ∷ []) → (t n : ℕ) → value_or t (xs ++ run ∷ []) n ≡ value_or t ((xs ++ last ∷ []) ++ run ∷ []) n
replaced xs last run same up t n =
    let below = (Rise-last 0 xs last run [] (rw append_assoc at up)).0 in
    rw append_assoc (value_or-append t xs (run ∷ []) n ∙ ap (value_or t xs) (same_value t last run n below same) ∙ sym (value_or-append t xs (last ∷ (run ∷ [])) n))

pub replaced_rises : (xs : List Run) (last run : Run) (rest : List Run) → Rise 0 ((xs ++ last ∷ []) ++ run ∷ rest) → Rise 0 ((xs ++ run ∷ []) ++ rest)
replaced_rises xs last run rest up = rw append_assoc (Rise-last 0 xs last run rest (rw append_assoc at up)).1

pub ruleset adding = (replaced, replaced_rises, append_assoc)

-- ---- two lists as one

-- what is left of a list whose first run may end in quantum u
abbrev behind : ℕ → Run → List Run → List Run
behind u x xs = if nat_le x.until u then xs else x ∷ xs

-- the run up to the end of the first of two, with the greater value
abbrev both : Run → Run → Run
both x y = record { value = max x.value y.value; until = min x.until y.until }

greater_value : (t : ℕ) (x y : Run) (xs ys : List Run)
    → max (value_at (x ∷ xs) t) (value_at (y ∷ ys) t)
    ≡ value_or t (both x y ∷ []) (max (value_at (behind (min x.until y.until) x xs) t) (value_at (behind (min x.until y.until) y ys) t))
unfolding value_or
greater_value t x y xs ys = grind (arith, nat_tests)

greater_rises : (n : ℕ) (items : List Run) (x y : Run) (xs ys : List Run) → Rise n (items ++ x ∷ xs) → Rise n (items ++ y ∷ ys)
    → Rise n (items ++ both x y ∷ behind (min x.until y.until) x xs) × Rise n (items ++ both x y ∷ behind (min x.until y.until) y ys)
unfolding Rise
greater_rises n [] x y xs ys a b = grind (arith, nat_tests)
greater_rises n (r ∷ items) x y xs ys a b = (let rest = greater_rises r.until items x y xs ys a.1 b.1 in ((a.0, rest.0), (a.0, rest.1)))

-- what is merged of two lists, up to a place in each
pub record IsMerged (a b : List Run) (i k : ℕ) (items : List Run) : Type 0 where
  pub first_in : i ≤ length a
  pub second_in : k ≤ length b
  pub value : (t : ℕ) → value_or t items (max (value_at (drop i a) t) (value_at (drop k b) t)) ≡ max (value_at a t) (value_at b t)
  pub first : Rise 0 (items ++ drop i a)
  pub second : Rise 0 (items ++ drop k b)

-- nothing yet
pub merged-none : (a b : List Run) → Rise 0 a → Rise 0 b → IsMerged a b 0 0 []
unfolding value_or
merged-none a b first second = record { first_in = omega arith; second_in = omega arith; value = λ t. refl; first = first; second = second }

-- the place behind a run that has ended in quantum u
abbrev place : ℕ → Run → ℕ → ℕ
place u x i = if nat_le x.until u then i + 1 else i

left_at : (u : ℕ) (x : Run) (xs : List Run) (i : ℕ) → i < length xs → x ≡ get_or xs i x → (drop i xs ≡ x ∷ drop (i + 1) xs) × (drop (place u x i) xs ≡ behind u x (drop (i + 1) xs)) × (place u x i ≤ length xs)
left_at u x xs i h is = pick (nat_le x.until u) where
  here : drop i xs ≡ x ∷ drop (i + 1) xs
  here = drop_more xs i x h ∙ ap (λ y. y ∷ drop (i + 1) xs) (sym is)

  pick : (c : Bool) → (drop i xs ≡ x ∷ drop (i + 1) xs) × (drop (cond c (i + 1) i) xs ≡ cond c (drop (i + 1) xs) (x ∷ drop (i + 1) xs)) × (cond c (i + 1) i ≤ length xs)
  pick true = (here, refl, omega (arith, h))
  pick false = (here, here, omega (arith, h))

-- one run more may be added
pub merged-may : (a b : List Run) (i k : ℕ) (items : List Run) (x y : Run) → IsMerged a b i k items → i < length a → k < length b → x ≡ get_or a i x → y ≡ get_or b k y
    → Rise 0 (items ++ both x y ∷ [])
unfolding Rise
merged-may a b i k items x y m ia kb xs ys =
    let la = left_at 0 x a i ia xs in
    let lb = left_at 0 y b k kb ys in
    let f = rw la.0 at m.first in
    let s = rw lb.0 at m.second in
    cut 0 items (both x y) (behind (min x.until y.until) x (drop (i + 1) a)) (greater_rises 0 items x y (drop (i + 1) a) (drop (k + 1) b) f s).0
  where
    cut : (n : ℕ) (xs : List Run) (r : Run) (rest : List Run) → Rise n (xs ++ r ∷ rest) → Rise n (xs ++ r ∷ [])
    cut n [] r rest h = (h.0, tt)
    cut n (x ∷ xs) r rest h = (h.0, cut x.until xs r rest h.1)

-- one run more
pub merged-more : (a b : List Run) (i k : ℕ) (items more : List Run) (x y : Run) → IsMerged a b i k items → i < length a → k < length b → x ≡ get_or a i x → y ≡ get_or b k y
    → ((t n : ℕ) → value_or t more n ≡ value_or t (items ++ both x y ∷ []) n) → ((rest : List Run) → Rise 0 (items ++ both x y ∷ rest) → Rise 0 (more ++ rest))
    → IsMerged a b (place (min x.until y.until) x i) (place (min x.until y.until) y k) more
merged-more a b i k items more x y m ia kb xs ys value rises =
    let u = min x.until y.until in
    let la = left_at u x a i ia xs in
    let lb = left_at u y b k kb ys in
    let f = rw la.0 at m.first in
    let s = rw lb.0 at m.second in
    let up = greater_rises 0 items x y (drop (i + 1) a) (drop (k + 1) b) f s in
    record {
      first_in = la.2;
      second_in = lb.2;
      value = λ t.
          let left = max (value_at (drop (place u x i) a) t) (value_at (drop (place u y k) b) t) in
          let added : value_or t more left ≡ value_or t items (value_or t (both x y ∷ []) left) = value t left ∙ value_or-append t items (both x y ∷ []) left in
          let same : value_or t (both x y ∷ []) left ≡ max (value_at (drop i a) t) (value_at (drop k b) t) = rw (la.1, lb.1, la.0, lb.0) (sym (greater_value t x y (drop (i + 1) a) (drop (k + 1) b))) in
          added ∙ ap (value_or t items) same ∙ m.value t;
      first = rw la.1 (rises (behind u x (drop (i + 1) a)) up.0);
      second = rw lb.1 (rises (behind u y (drop (k + 1) b)) up.1);
    }

-- all, where nothing is left of one of both
pub merged-all : (a b : List Run) (i k : ℕ) (items : List Run) → IsMerged a b i k items → (length a ≤ i) ⊎ (length b ≤ k)
    → ((t : ℕ) → value_at ((items ++ drop i a) ++ drop k b) t ≡ max (value_at a t) (value_at b t)) × Rise 0 ((items ++ drop i a) ++ drop k b)
unfolding value_or
merged-all a b i k items m (inl over) =
    let none = drop_all i a over in
    rw (none, append-nil items) (
      (λ t. value_or-append t items (drop k b) 0 ∙ ap (value_or t items) (zero_max (value_at (drop k b) t)) ∙ rw none at (m.value t)),
      m.second,
    ) where
      zero_max : (n : ℕ) → n ≡ max 0 n
      zero_max n = omega arith
merged-all a b i k items m (inr over) =
    let none = drop_all k b over in
    rw (none, append-nil (items ++ drop i a)) (
      (λ t. value_or-append t items (drop i a) 0 ∙ ap (value_or t items) (max_zero (value_at (drop i a) t)) ∙ rw none at (m.value t)),
      m.first,
    ) where
      max_zero : (n : ℕ) → n ≡ max n 0
      max_zero n = omega arith

pub ruleset merging = (merged-none, merged-may, merged-more, merged-all)

-- ---- one record

pub one_value : (from to number t : ℕ) → 1 ≤ from → value_or t (record { value = 0; until = from - 1 } ∷ (record { value = number; until = to } ∷ [])) 0 ≡ cond (nat_le from t && nat_le t to) number 0
unfolding value_or
one_value from to number t h = grind (arith, nat_tests)

pub ruleset one = (one_value, nat_tests)

-- ---- the run of a quantum

-- runs that ascend
Rise-below : (n : ℕ) (xs : List Run) → Rise n xs → (j : ℕ) (d : Run) → j < length xs → n ≤ (get_or xs j d).until
unfolding Rise
Rise-below n [] up j d h = absurd (omega (arith, h))
Rise-below n (x ∷ xs) up zero d h = up.0
Rise-below n (x ∷ xs) up (suc j) d h = (let rest = Rise-below x.until xs up.1 j d (omega (arith, h)) in let here = up.0 in omega (arith, rest, here))

pub Rise-ordered : (n : ℕ) (xs : List Run) → Rise n xs → IsNonDecreasingBy (λ r. r.until) xs
unfolding Rise
Rise-ordered n [] up i j d le h = absurd (omega (arith, h))
Rise-ordered n (x ∷ xs) up zero zero d le h = omega arith
Rise-ordered n (x ∷ xs) up zero (suc j) d le h = Rise-below x.until xs up.1 j d (omega (arith, h))
Rise-ordered n (x ∷ xs) up (suc i) zero d le h = absurd (omega (arith, le))
Rise-ordered n (x ∷ xs) up (suc i) (suc j) d le h = Rise-ordered x.until xs up.1 i j d (omega (arith, le)) (omega (arith, h))

-- all runs up to a place have ended
passed_value : (t : ℕ) (xs : List Run) (i : ℕ) → ((j : ℕ) (d : Run) → j < i → j < length xs → (get_or xs j d).until < t) → value_at xs t ≡ value_at (drop i xs) t
unfolding value_or
passed_value t [] zero h = refl
passed_value t [] (suc i) h = refl
passed_value t (x ∷ xs) zero h = refl
passed_value t (x ∷ xs) (suc i) h =
    let over : x.until < t = h 0 x (omega arith) (omega arith) in
    rw (lt-leb t x.until over) (passed_value t xs i (λ j d less inside. h (suc j) d (omega (arith, less)) (omega (arith, inside))))

here_value : (t : ℕ) (r : Run) (rs : List Run) → t ≤ r.until → value_at (r ∷ rs) t ≡ r.value
unfolding value_or
here_value t r rs h = rw (le-leb t r.until h) refl

-- the run at the place up to which all have ended
pub run_lasts : (t : ℕ) (xs : List Run) (i : ℕ) (r : Run) → ((j : ℕ) (d : Run) → j < i → j < length xs → (get_or xs j d).until < t) → i < length xs → r ≡ get_or xs i r → t ≤ r.until → Lasts (value_at xs) t r.until r.value
run_lasts t xs i r before inside is below = record {
  here = below;
  same = λ s from to.
      passed_value s xs i (λ j d less there. (let b = before j d less there in omega (arith, b, from)))
      ∙ rw (drop_more xs i r inside, ← is) (here_value s r (drop (i + 1) xs) to);
}

-- where a run has ended, all before it have
pub all_behind : (t : ℕ) (xs : List Run) (k : ℕ) (r : Run) → Rise 0 xs → k < length xs → r ≡ get_or xs k r → r.until < t
    → (j : ℕ) (d : Run) → j < suc k → j < length xs → (get_or xs j d).until < t
all_behind t xs k r up inside is ended j d less there =
    let order = Rise-ordered 0 xs up j k d (omega (arith, less)) inside in
    let same = ap (λ (x : Run). x.until) (is ∙ get_or_default xs k r d inside) in
    omega (arith, order, same, ended)

-- of no runs none is left
pub no_runs : (xs : List Run) → (length xs == 0) ≡ true → length xs ≡ 0
no_runs [] e = refl
no_runs (x ∷ xs) e = absurd (false≢true (sym (ne_eqb (length (x ∷ xs)) 0 (λ z. omega (arith, z))) ∙ e))

-- behind the last
pub none_lasts : (t u : ℕ) (xs : List Run) → ((j : ℕ) (d : Run) → j < length xs → (get_or xs j d).until < t) → t ≤ u → Lasts (value_at xs) t u 0
unfolding value_or
none_lasts t u xs before below = record {
  here = below;
  same = λ s from to.
      passed_value s xs (length xs) (λ j d less there. (let b = before j d there in omega (arith, b, from)))
      ∙ rw (drop_all (length xs) xs (omega arith)) refl;
}
