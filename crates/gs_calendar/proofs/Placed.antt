-- A key that is put where it belongs in a list in order.
use Rattle.std.proofs.Common.{◌≡◌, ℕ, ◌<◌, ◌⊎◌, inl, inr, arith, sym, ◌∙◌, subst, List, [], ◌∷◌}
use Rattle.std.specs.Ordering.{nat_cmp}
use Rattle.std.specs.BTreeSet.{insert_key}
use Rattle.std.specs.declared.cmp.Ordering.TheVariants.{Less, Equal, Greater}
use Rattle.std.proofs.lemmas.Bool.{cases_order, lt-ltb, le-ltb, eq-eqb, ne_eqb}
use Rattle.gs_calendar.specs.Due.{Key}
use Rattle.gs_calendar.specs.Due.{key_cmp}
use Rattle.gs_calendar.specs.Transits.{Has, Before, AllBehind, AreInOrder}
use Rattle.gs_calendar.proofs.Sorted.{behind_has, before_on}
use Rattle.gs_calendar.proofs.Waiting.{behind_all}

less : (a b : ℕ) → a < b → nat_cmp a b ≡ Less
less a b h = rw (lt-ltb a b h)

equal : (a b : ℕ) → a ≡ b → nat_cmp a b ≡ Equal
equal a b h = rw (le-ltb a b (omega arith), eq-eqb a b h)

greater : (a b : ℕ) → b < a → nat_cmp a b ≡ Greater
greater a b h = rw (le-ltb a b (omega arith), ne_eqb a b (λ e. omega arith))

-- a key stands before another, is the same, or stands behind it
pub data Stands (x y : Key) : Type 0 where
  ahead : key_cmp x y ≡ Less → Before x y → Stands x y
  level : key_cmp x y ≡ Equal → x ≡ y → Stands x y
  behind : key_cmp x y ≡ Greater → Before y x → Stands x y

pub stands : (x y : Key) → Stands x y
unfolding Before
stands x y = elim (cases_order x.due y.due) [
  | inr d ↦ elim d [
    | inl l ↦ ahead (rw (less x.due y.due l)) (inl l)
    | inr g ↦ behind (rw (greater x.due y.due g)) (inl g)
  ]
  | inl d ↦ elim (cases_order x.from y.from) [
    | inr f ↦ elim f [
      | inl l ↦ ahead (rw (equal x.due y.due d, less x.from y.from l)) (inr (d, inl l))
      | inr g ↦ behind (rw (equal x.due y.due d, greater x.from y.from g)) (inr (sym d, inl g))
    ]
    | inl f ↦ elim (cases_order x.seq y.seq) [
      | inr q ↦ elim q [
        | inl l ↦ ahead (rw (equal x.due y.due d, equal x.from y.from f, less x.seq y.seq l)) (inr (d, inr (f, l)))
        | inr g ↦ behind (rw (equal x.due y.due d, equal x.from y.from f, greater x.seq y.seq g)) (inr (sym d, inr (sym f, g)))
      ]
      | inl q ↦ level (rw (equal x.due y.due d, equal x.from y.from f, equal x.seq y.seq q)) (λ i. record { due = d i; from = f i; seq = q i })
    ]
  ]
]

-- the list has what it had and this key
pub has_insert : (x : Key) (ys : List Key) (k : Key) → Has k (insert_key key_cmp ys x) → (x ≡ k) ⊎ Has k ys
unfolding Has
has_insert x [] k h = h
has_insert x (y ∷ ys) k h = elim (stands x y) [
  | ahead o b ↦ let i : (x ≡ k) ⊎ ((y ≡ k) ⊎ Has k ys) = rw o at h in i
  | level o same ↦ let i : (y ≡ k) ⊎ Has k ys = rw o at h in inr i
  | behind o b ↦
      let i : (y ≡ k) ⊎ Has k (insert_key key_cmp ys x) = rw o at h in
      elim i [
        | inl same ↦ inr (inl same)
        | inr rest ↦ elim (has_insert x ys k rest) [ inl same ↦ inl same | inr more ↦ inr (inr more) ]
      ]
]

pub insert_has : (x : Key) (ys : List Key) (k : Key) → (x ≡ k) ⊎ Has k ys → Has k (insert_key key_cmp ys x)
unfolding Has
insert_has x [] k h = h
insert_has x (y ∷ ys) k h = elim (stands x y) [
  | ahead o b ↦ rw o h
  | level o same ↦ rw o (elim h [ inl now ↦ inl (sym same ∙ now) | inr there ↦ there ])
  | behind o b ↦ rw o (elim h [
    | inl same ↦ inr (insert_has x ys k (inl same))
    | inr there ↦ elim there [ inl same ↦ inl same | inr more ↦ inr (insert_has x ys k (inr more)) ]
  ])
]

pub insert_in_order : (x : Key) (ys : List Key) → AreInOrder ys → AreInOrder (insert_key key_cmp ys x)
unfolding AreInOrder Has AllBehind
insert_in_order x [] o = (tt, tt)
insert_in_order x (y ∷ ys) o = elim (stands x y) [
  | ahead e b ↦ rw e (behind_all x (y ∷ ys) (λ z i. elim i [ inl same ↦ subst (λ (q : Key). Before x q) same b | inr rest ↦ before_on x y z b (behind_has y ys z o.0 rest) ]), o)
  | level e same ↦ rw e o
  | behind e b ↦ rw e (behind_all y (insert_key key_cmp ys x) (λ z i. elim (has_insert x ys z i) [ inl same ↦ subst (λ (q : Key). Before y q) same b | inr rest ↦ behind_has y ys z o.0 rest ]), insert_in_order x ys o.1)
]
