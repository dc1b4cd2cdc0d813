-- Keys in the order of due quantum, sender and sequence: a list in that order is known by what it has.
use Rattle.std.proofs.Common.{◌≡◌, ℕ, ◌<◌, ◌≤◌, nat_le, ◌⊎◌, inl, inr, arith, refl, sym, ◌∙◌, subst, List, [], ◌∷◌}
use Rattle.std.proofs.lemmas.Bool.{cases_Bool, le-leb, leb-true, leb-false}
use Rattle.gs_calendar.specs.Due.{Key}
use Rattle.gs_calendar.specs.Due.{due_by, due_after}
use Rattle.gs_calendar.specs.Transits.{Has, Before, AllBehind, AreInOrder}

pub never_itself : (x : Key) → Before x x → ⊥
unfolding Before
never_itself x h = elim h [ inl a ↦ omega arith | inr b ↦ elim b.1 [ inl a ↦ omega arith | inr c ↦ let d = c.1 in omega arith ] ]

never_both_by : (a b c p q r : ℕ) → (a < p) ⊎ ((a ≡ p) × ((b < q) ⊎ ((b ≡ q) × (c < r)))) → (p < a) ⊎ ((p ≡ a) × ((q < b) ⊎ ((q ≡ b) × (r < c)))) → ⊥
never_both_by a b c p q r h k = grind arith

pub never_both : (x y : Key) → Before x y → Before y x → ⊥
unfolding Before
never_both x y h k = never_both_by x.due x.from x.seq y.due y.from y.seq h k

before_on_by : (a b c p q r x y z : ℕ) → (a < p) ⊎ ((a ≡ p) × ((b < q) ⊎ ((b ≡ q) × (c < r)))) → (p < x) ⊎ ((p ≡ x) × ((q < y) ⊎ ((q ≡ y) × (r < z))))
    → (a < x) ⊎ ((a ≡ x) × ((b < y) ⊎ ((b ≡ y) × (c < z))))
before_on_by a b c p q r x y z (inl h) (inl k) = inl (omega arith)
before_on_by a b c p q r x y z (inl h) (inr k) = let e = k.0 in inl (omega arith)
before_on_by a b c p q r x y z (inr h) (inl k) = let e = h.0 in inl (omega arith)
before_on_by a b c p q r x y z (inr h) (inr k) = inr (
  h.0 ∙ k.0,
  elim h.1 [
    | inl s ↦ elim k.1 [ inl u ↦ inl (omega arith) | inr u ↦ let e = u.0 in inl (omega arith) ]
    | inr s ↦ elim k.1 [ inl u ↦ let e = s.0 in inl (omega arith) | inr u ↦ inr (s.0 ∙ u.0, (let f = s.1 in let g = u.1 in omega arith)) ]
  ],
)

pub before_on : (x y z : Key) → Before x y → Before y z → Before x z
unfolding Before
before_on x y z h k = before_on_by x.due x.from x.seq y.due y.from y.seq z.due z.from z.seq h k

pub due_rises : (x y : Key) → Before x y → x.due ≤ y.due
unfolding Before
due_rises x y h = elim h [ inl a ↦ omega arith | inr b ↦ let e = b.0 in omega arith ]

pub behind_has : (x : Key) (xs : List Key) (e : Key) → AllBehind x xs → Has e xs → Before x e
unfolding AllBehind Has
behind_has x [] e h i = absurd i
behind_has x (y ∷ ys) e h i = elim i [ inl same ↦ subst (λ (z : Key). Before x z) same h.0 | inr rest ↦ behind_has x ys e h.1 rest ]

-- two lists in order that have the same are the same
pub same_by_has : (xs ys : List Key) → AreInOrder xs → AreInOrder ys → ((e : Key) → Has e xs → Has e ys) → ((e : Key) → Has e ys → Has e xs) → xs ≡ ys
unfolding AreInOrder Has
same_by_has [] [] a b f g = refl
same_by_has [] (y ∷ ys) a b f g = absurd (g y (inl refl))
same_by_has (x ∷ xs) [] a b f g = absurd (f x (inl refl))
same_by_has (x ∷ xs) (y ∷ ys) a b f g =
    let first : x ≡ y = elim (f x (inl refl)) [
      | inl e ↦ sym e
      | inr later ↦ elim (g y (inl refl)) [
        | inl e ↦ e
        | inr also ↦ absurd (never_both x y (behind_has x xs y a.0 also) (behind_has y ys x b.0 later))
      ]
    ] in
    let down : (e : Key) → Has e xs → Has e ys = λ e i. elim (f e (inr i)) [
      | inl same ↦ absurd (never_itself x (behind_has x xs x a.0 (subst (λ (z : Key). Has z xs) (sym same ∙ sym first) i)))
      | inr rest ↦ rest
    ] in
    let up : (e : Key) → Has e ys → Has e xs = λ e i. elim (g e (inr i)) [
      | inl same ↦ absurd (never_itself y (behind_has y ys y b.0 (subst (λ (z : Key). Has z ys) (sym same ∙ first) i)))
      | inr rest ↦ rest
    ] in
    let rest : xs ≡ ys = same_by_has xs ys a.1 b.1 down up in
    λ i. first i ∷ rest i

-- ---- the front that is due and the rest
by_behind : (x : Key) (t : ℕ) (xs : List Key) → AllBehind x xs → AllBehind x (due_by t xs)
unfolding AllBehind
by_behind x t [] h = tt
by_behind x t (y ∷ ys) h = elim (cases_Bool (nat_le y.due t)) [ inl e ↦ rw e (h.0, by_behind x t ys h.1) | inr e ↦ rw e tt ]

pub by_in_order : (t : ℕ) (xs : List Key) → AreInOrder xs → AreInOrder (due_by t xs)
unfolding AreInOrder
by_in_order t [] h = tt
by_in_order t (x ∷ xs) h = elim (cases_Bool (nat_le x.due t)) [ inl e ↦ rw e (by_behind x t xs h.0, by_in_order t xs h.1) | inr e ↦ rw e tt ]

pub after_in_order : (t : ℕ) (xs : List Key) → AreInOrder xs → AreInOrder (due_after t xs)
unfolding AreInOrder
after_in_order t [] h = tt
after_in_order t (x ∷ xs) h = elim (cases_Bool (nat_le x.due t)) [ inl e ↦ rw e (after_in_order t xs h.1) | inr e ↦ rw e h ]

pub has_by : (t : ℕ) (xs : List Key) (e : Key) → Has e (due_by t xs) → Has e xs × (e.due ≤ t)
unfolding Has
has_by t [] e h = absurd h
has_by t (x ∷ xs) e h = elim (cases_Bool (nat_le x.due t)) [
  | inl d ↦
      let i : (x ≡ e) ⊎ Has e (due_by t xs) = rw d at h in
      elim i [
        | inl same ↦ (inl same, (subst (λ (z : Key). z.due ≤ t) same (leb-true x.due t d)))
        | inr rest ↦ let more = has_by t xs e rest in (inr more.0, more.1)
      ]
  | inr d ↦ let i : ⊥ = rw d at h in absurd i
]

pub by_has : (t : ℕ) (xs : List Key) (e : Key) → AreInOrder xs → Has e xs → e.due ≤ t → Has e (due_by t xs)
unfolding Has AreInOrder
by_has t [] e o h d = absurd h
by_has t (x ∷ xs) e o h d =
    let first : x.due ≤ t = elim h [ inl same ↦ subst (λ (z : Key). z.due ≤ t) (sym same) d | inr rest ↦ (let r = due_rises x e (behind_has x xs e o.0 rest) in omega arith) ] in
    rw (le-leb x.due t first) (elim h [ inl same ↦ inl same | inr rest ↦ inr (by_has t xs e o.1 rest d) ])

pub has_after : (t : ℕ) (xs : List Key) (e : Key) → AreInOrder xs → Has e (due_after t xs) → Has e xs × (t < e.due)
unfolding Has AreInOrder
has_after t [] e o h = absurd h
has_after t (x ∷ xs) e o h = elim (cases_Bool (nat_le x.due t)) [
  | inl d ↦ let i : Has e (due_after t xs) = rw d at h in let more = has_after t xs e o.1 i in (inr more.0, more.1)
  | inr d ↦
      let i : (x ≡ e) ⊎ Has e xs = rw d at h in
      let low : t < x.due = leb-false x.due t d in
      (i, elim i [ inl same ↦ subst (λ (z : Key). t < z.due) same low | inr rest ↦ (let r = due_rises x e (behind_has x xs e o.0 rest) in omega arith) ])
]

pub after_has : (t : ℕ) (xs : List Key) (e : Key) → Has e xs → t < e.due → Has e (due_after t xs)
unfolding Has
after_has t [] e h d = absurd h
after_has t (x ∷ xs) e h d = elim (cases_Bool (nat_le x.due t)) [
  | inl b ↦ rw b (elim h [
    | inl same ↦ absurd (let low : e.due ≤ t = subst (λ (z : Key). z.due ≤ t) same (leb-true x.due t b) in omega arith)
    | inr rest ↦ after_has t xs e rest d
  ])
  | inr b ↦ rw b h
]
