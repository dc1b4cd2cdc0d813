-- What is due at the front of what is in transit.
use Rattle.std.proofs.Common.{◌≡◌, ℕ, true, false, nat_le, refl, sym, ap, ◌∙◌, List, [], ◌∷◌, slice_get, Some, Bool, cond}
use Rattle.std.proofs.lemmas.Bool.{le-leb, leb-true}
use Rattle.gs_calendar.specs.Due.{Key, due_by, due_after}
use Rattle.gs_seat.specs.Letters.{Letter, key_of, keys, letters_by, letters_after, IsFirstDue, IsNoneDue, TakesFirst}

pub first_yes : (t : ℕ) (bs : List Letter) (b : Letter) → slice_get bs 0 ≡ Some b → nat_le b.due t ≡ true → IsFirstDue t bs
first_yes t [] b h e = absurd (cc)
first_yes t (x ∷ bs) b h e =
    let same : x ≡ b = cc in
    record { first = x; rest = bs; is = refl; due = rw same (leb-true b.due t e) }

pub first_no : (t : ℕ) (bs : List Letter) (b : Letter) → slice_get bs 0 ≡ Some b → nat_le b.due t ≡ false → IsNoneDue t bs
first_no t [] b h e = absurd (cc)
first_no t (x ∷ bs) b h e =
    let same : x ≡ b = cc in
    let late : nat_le x.due t ≡ false = rw same e in
    record { by = rw late refl; after = rw late refl }

pub takes : (t : ℕ) (bs : List Letter) (b : Letter) (rest : List Letter) → IsFirstDue t bs → bs ≡ b ∷ rest → TakesFirst t bs b rest
takes t bs b rest h e =
    let same : h.first ≡ b = (let both : h.first ∷ h.rest ≡ b ∷ rest = sym h.is ∙ e in cc) in
    let due : nat_le b.due t ≡ true = le-leb b.due t (rw (← same) h.due) in
    record { is = e; by = rw (e, due) refl; after = rw (e, due) refl }

-- the keys of what is due are those that are due
pub keys_by : (t : ℕ) (bs : List Letter) → keys (letters_by t bs) ≡ due_by t (keys bs)
keys_by t [] = refl
keys_by t (b ∷ bs) = pick (nat_le b.due t) (keys_by t bs) where
  pick : (d : Bool) → keys (letters_by t bs) ≡ due_by t (keys bs) → keys (cond d (b ∷ letters_by t bs) []) ≡ cond d (key_of b ∷ due_by t (keys bs)) []
  pick true same = ap (λ (ks : List Key). key_of b ∷ ks) same
  pick false same = refl

pub keys_after : (t : ℕ) (bs : List Letter) → keys (letters_after t bs) ≡ due_after t (keys bs)
keys_after t [] = refl
keys_after t (b ∷ bs) = pick (nat_le b.due t) (keys_after t bs) where
  pick : (d : Bool) → keys (letters_after t bs) ≡ due_after t (keys bs) → keys (cond d (letters_after t bs) (b ∷ bs)) ≡ cond d (due_after t (keys bs)) (key_of b ∷ keys bs)
  pick true same = same
  pick false same = refl
