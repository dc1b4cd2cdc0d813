-- What comes: each beacon with the quantum of its sending, by sequence.
use Rattle.std.proofs.Common.{◌≡◌, ℕ, zero, suc, ◌+◌, ◌<◌, ◌≤◌, ◌==◌, Bool, true, false, not, inl, inr, arith, refl, ap, sym, ◌∙◌, subst, List, [], ◌∷◌, ◌++◌, append-nil, Option, Some, None}
use Rattle.std.proofs.lemmas.Bool.{cases_eq, eqb-true, and_parts}
use Rattle.gs_run.specs.Net.{Net}
use Rattle.gs_calendar.specs.Course.{Course}
use Rattle.gs_calendar.specs.Calendar.{sent_at, comes_at, if_comes, coming}
use Rattle.gs_calendar.specs.Transits.{Has, Comes}
use Rattle.gs_calendar.proofs.Lists.{has_more, has_left, has_right}
use Rattle.gs_calendar.proofs.Turns.{sent_above}

-- when it comes
pub comes_when : (c : Course) (from to t m : ℕ) → comes_at c from to t m ≡ true → m + c.delay from to m ≡ t
comes_when c from to t m h = eqb-true (m + c.delay from to m) t (and_parts (not (c.lost from to m)) (m + c.delay from to m == t) h).1

-- it is sent before, as a delay is at least 1
pub comes_later : (net : Net) (c : Course) (from to t m k : ℕ) → 1 ≤ c.delay from to m → Comes net c from to t m k → m < t
comes_later net c from to t m k some is = let e = comes_when c from to t m is.comes in omega arith

one_has : (b : Bool) (n : ℕ) (o : Option ℕ) (x : ℕ × ℕ) → Has x (if_comes b n o) → (b ≡ true) × (o ≡ Some x.1) × (n ≡ x.0)
unfolding Has
one_has b n None x h = absurd h
one_has true n (Some k) x h = elim h [ inl same ↦ (refl, ap (λ (y : ℕ × ℕ). Some y.1) same, ap (λ (y : ℕ × ℕ). y.0) same) | inr none ↦ absurd none ]
one_has false n (Some k) x h = absurd h

has_one : (b : Bool) (n k : ℕ) (o : Option ℕ) → b ≡ true → o ≡ Some k → Has (n, k) (if_comes b n o)
unfolding Has
has_one true n k None e h = absurd (cc)
has_one true n k (Some j) e h = inl (λ i. (n, (let same : j ≡ k = cc in same) i))
has_one false n k o e h = absurd (cc)

-- the list has just those that come
pub coming_has : (net : Net) (c : Course) (from to t n : ℕ) (x : ℕ × ℕ) → Has x (coming net c from to t n) → (x.0 ≤ n) × Comes net c from to t x.0 x.1
unfolding Has
coming_has net c from to t zero x h = absurd h
coming_has net c from to t (suc n) x h = elim (has_more (coming net c from to t n) (if_comes (comes_at c from to t (suc n)) (suc n) (sent_at net c from (suc n))) x h) [
  | inl old ↦ let r = coming_has net c from to t n x old in let le = r.0 in (omega arith, r.1)
  | inr new ↦
      let m = one_has (comes_at c from to t (suc n)) (suc n) (sent_at net c from (suc n)) x new in
      let now : suc n ≡ x.0 = m.2 in
      (omega (arith, now), record { sent = ap (λ (j : ℕ). sent_at net c from j) (sym now) ∙ m.1; comes = ap (λ (j : ℕ). comes_at c from to t j) (sym now) ∙ m.0 })
]

pub has_coming : (net : Net) (c : Course) (from to t n m k : ℕ) → m ≤ n → Comes net c from to t m k → Has (m, k) (coming net c from to t n)
has_coming net c from to t zero m k le is =
    let none : m ≡ 0 = omega arith in
    let sent : sent_at net c from 0 ≡ Some k = ap (λ (j : ℕ). sent_at net c from j) (sym none) ∙ is.sent in
    absurd (cc)
has_coming net c from to t (suc n) m k le is =
    let last = if_comes (comes_at c from to t (suc n)) (suc n) (sent_at net c from (suc n)) in
    elim (cases_eq m (suc n)) [
      | inl same ↦ has_right (coming net c from to t n) last (m, k)
          (subst (λ (j : ℕ). Has (j, k) last) (sym same)
          (has_one (comes_at c from to t (suc n)) (suc n) k (sent_at net c from (suc n)) (ap (λ (j : ℕ). comes_at c from to t j) (sym same) ∙ is.comes) (ap (λ (j : ℕ). sent_at net c from j) (sym same) ∙ is.sent)))
      | inr other ↦ has_left (coming net c from to t n) last (m, k) (has_coming net c from to t n m k (omega arith) is)
    ]

-- ---- sequences rise
unfoldable pub SeqsRise : List (ℕ × ℕ) → Type 0
SeqsRise [] = Unit {0}
SeqsRise (b ∷ bs) = ((x : ℕ × ℕ) → Has x bs → b.1 < x.1) × SeqsRise bs

rise_push : (bs : List (ℕ × ℕ)) (b : ℕ × ℕ) → ((x : ℕ × ℕ) → Has x bs → x.1 < b.1) → SeqsRise bs → SeqsRise (bs ++ b ∷ [])
unfolding SeqsRise Has
rise_push [] b below h = ((λ x i. absurd i), tt)
rise_push (d ∷ bs) b below h = (
  (λ x i. elim (has_more bs (b ∷ []) x i) [
    | inl old ↦ h.0 x old
    | inr new ↦ elim new [ inl same ↦ subst (λ (y : ℕ × ℕ). d.1 < y.1) same (below d (inl refl)) | inr none ↦ absurd none ]
  ]),
  rise_push bs b (λ x i. below x (inr i)) h.1,
)

rise_one : (b : Bool) (n : ℕ) (o : Option ℕ) (bs : List (ℕ × ℕ)) → ((k : ℕ) → o ≡ Some k → (x : ℕ × ℕ) → Has x bs → x.1 < k) → SeqsRise bs → SeqsRise (bs ++ if_comes b n o)
rise_one b n None bs below h = rw (append-nil bs) h
rise_one true n (Some k) bs below h = rise_push bs (n, k) (below k refl) h
rise_one false n (Some k) bs below h = rw (append-nil bs) h

pub coming_rises : (net : Net) (c : Course) (from to t n : ℕ) → SeqsRise (coming net c from to t n)
unfolding SeqsRise
coming_rises net c from to t zero = tt
coming_rises net c from to t (suc n) = rise_one (comes_at c from to t (suc n)) (suc n) (sent_at net c from (suc n)) (coming net c from to t n)
    (λ k e x i.
    let old = coming_has net c from to t n x i in
    let le = old.0 in
    sent_above net c from x.0 (suc n) x.1 k (omega arith) old.1.sent e)
    (coming_rises net c from to t n)
