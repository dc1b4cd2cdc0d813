-- What writes and torn writes make of the two slots of 18 bytes.
use Rattle.std.proofs.Common.{◌≡◌, inl, inr, ◌⊎◌, ℕ, suc, ◌+◌, ◌-◌, ◌≤◌, ◌==◌, List, [], ◌∷◌, ◌++◌, length, take, drop, Option, Some, None, IsSome, Bool, true, false, refl, sym, ◌∙◌, ap, subst, arith, append_assoc, length-append, length-drop}
use Rattle.std.proofs.lemmas.List.{append-nil, take_at, drop_at, drop_all, take-take, drop-drop, drop-take, length-take-le}
use Rattle.byteorder.specs.Endian.{big_number}
use Rattle.gs_stamp.specs.Disk.{Torn, put}
use Rattle.gs_stamp.specs.Format.{With, ceiling_in, open_ceiling, other, place_of, slot_bytes}
use Rattle.gs_stamp.specs.declared.slots.Slot.{Slot}
use Rattle.gs_stamp.specs.declared.slots.Slot.TheVariants.{First, Second}

-- a write is one of the outcomes of a torn write
pub put_torn : (at n : ℕ) (piece bytes : List ℕ) → length piece ≡ n → at + n ≤ length bytes → Torn at n bytes (put at piece bytes)
put_torn at n piece bytes is fits =
    let front_size : length (take at bytes) ≡ at = length-take-le at bytes (omega arith) in
    let both : length (take at bytes ++ piece) ≡ at + n = length-append (take at bytes) piece ∙ omega (arith, front_size, is) in
    record {
      before = ap (λ (l : List ℕ). take at l) (append_assoc (take at bytes) piece (drop (at + length piece) bytes)) ∙ take_at (take at bytes) (piece ++ drop (at + length piece) bytes) at front_size;
      after = drop_at (take at bytes ++ piece) (drop (at + length piece) bytes) (at + n) both ∙ ap (λ (k : ℕ). drop (at + k) bytes) is;
      size = length-append (take at bytes ++ piece) (drop (at + length piece) bytes) ∙ omega (arith, both, length-drop (at + length piece) bytes, is);
    }

pub put_behind : (at : ℕ) (piece bytes : List ℕ) → at + length piece ≤ length bytes → drop at (put at piece bytes) ≡ piece ++ drop (at + length piece) bytes
put_behind at piece bytes fits =
    ap (λ (l : List ℕ). drop at l) (append_assoc (take at bytes) piece (drop (at + length piece) bytes)) ∙ drop_at (take at bytes) (piece ++ drop (at + length piece) bytes) at (length-take-le at bytes (omega arith))

-- a byte that is put before a piece stands with it
pub put_before : (at byte : ℕ) (piece bytes : List ℕ) → at + 1 + length piece ≤ length bytes → put at (byte ∷ []) (put (at + 1) piece bytes) ≡ put at (byte ∷ piece) bytes
put_before at byte piece bytes fits =
    let c = put (at + 1) piece bytes in
    let torn = put_torn (at + 1) (length piece) piece bytes refl fits in
    let front : take at c ≡ take at bytes = sym (take-take at (at + 1) c (omega arith)) ∙ ap (λ (l : List ℕ). take at l) torn.before ∙ take-take at (at + 1) bytes (omega arith) in
    let further : at + 1 + length piece ≡ at + suc (length piece) = omega arith in
    ap (λ (l : List ℕ). l ++ (byte ∷ []) ++ drop (at + 1) c) front
    ∙ ap (λ (l : List ℕ). take at bytes ++ (byte ∷ []) ++ l) (put_behind (at + 1) piece bytes fits)
    ∙ append_assoc (take at bytes) (byte ∷ []) (piece ++ drop (at + 1 + length piece) bytes)
    ∙ ap (λ (k : ℕ). take at bytes ++ (byte ∷ (piece ++ drop k bytes))) further
    ∙ sym (append_assoc (take at bytes) (byte ∷ piece) (drop (at + suc (length piece)) bytes))

-- what is put over another piece hides it
pub put_over : (at : ℕ) (first second bytes : List ℕ) → length first ≤ length second → at + length second ≤ length bytes → put at second (put at first bytes) ≡ put at second bytes
put_over at first second bytes shorter fits =
    let c = put at first bytes in
    let torn = put_torn at (length first) first bytes refl (omega arith) in
    let more = length second - length first in
    let all : at + length first + more ≡ at + length second = omega arith in
    let back : drop (at + length second) c ≡ drop (at + length second) bytes =
    ap (λ (k : ℕ). drop k c) (sym all) ∙ sym (drop-drop more (at + length first) c) ∙ ap (λ (l : List ℕ). drop more l) torn.after ∙ drop-drop more (at + length first) bytes ∙ ap (λ (k : ℕ). drop k bytes) all in
    ap (λ (l : List ℕ). l ++ second ++ drop (at + length second) c) torn.before ∙ ap (λ (l : List ℕ). take at bytes ++ second ++ l) back

-- the number of a slot, whatever its gate
abbrev pub number_in : Slot → List ℕ → ℕ
number_in slot bytes = big_number 8 (drop 1 (slot_bytes slot bytes))

by_gate : (x : List ℕ) → 1 ≤ length x → (open_ceiling x ≡ None) ⊎ (open_ceiling x ≡ Some (big_number 8 (drop 1 x)))
by_gate [] some = absurd (omega arith)
by_gate (gate ∷ number) some = go (gate == 1) refl
  where
    go : (open_gate : Bool) → (gate == 1) ≡ open_gate → (open_ceiling (gate ∷ number) ≡ None) ⊎ (open_ceiling (gate ∷ number) ≡ Some (big_number 8 number))
    go true is = inr (rw is refl)
    go false is = inl (rw is refl)

shut : (x y : List ℕ) → take 1 x ≡ take 1 y → open_ceiling y ≡ None → open_ceiling x ≡ None
shut [] y same closed = refl
shut (g ∷ x) [] same closed = absurd (cc)
shut (g ∷ x) (h ∷ y) same closed = go (h == 1) refl closed
  where
    gates : g ≡ h
    gates = cc

    go : (open_gate : Bool) → (h == 1) ≡ open_gate → open_ceiling (h ∷ y) ≡ None → open_ceiling (g ∷ x) ≡ None
    go true is none = let some : open_ceiling (h ∷ y) ≡ Some (big_number 8 y) = rw is refl in absurd (cc (some, none))
    go false is none = rw (gates, is) refl

-- what a change of a slot's gate alone leaves of the other slot and of the number
pub record Gated (slot : Slot) (d c : List ℕ) : Type 0 where
  pub there : ceiling_in (other slot) c ≡ ceiling_in (other slot) d
  pub number : drop 1 (slot_bytes slot c) ≡ drop 1 (slot_bytes slot d)
  pub some : 1 ≤ length (slot_bytes slot c)

pub gated : (slot : Slot) (d c : List ℕ) → length d ≡ 18 → Torn (place_of slot) 1 d c → Gated slot d c
gated First d c whole torn = record {
  there = ap open_ceiling (sym (drop-drop 8 1 c) ∙ ap (λ (l : List ℕ). drop 8 l) torn.after ∙ drop-drop 8 1 d);
  number = drop-take 1 8 c ∙ ap (λ (l : List ℕ). take 8 l) torn.after ∙ sym (drop-take 1 8 d);
  some = omega (arith, length-take-le 9 c (omega (arith, torn.size)));
}
gated Second d c whole torn = record {
  there = ap open_ceiling torn.before;
  number = drop-drop 1 9 c ∙ torn.after ∙ sym (drop-drop 1 9 d);
  some = omega (arith, length-drop 9 c, torn.size);
}

-- a torn gate is closed, or it is open at the number that stands there
pub gate_torn : (slot : Slot) (d c : List ℕ) → length d ≡ 18 → Torn (place_of slot) 1 d c → With slot None d c ⊎ With slot (Some (number_in slot d)) d c
gate_torn slot d c whole torn =
    let got = gated slot d c whole torn in
    elim (by_gate (slot_bytes slot c) got.some) [
      | inl closed ↦ inl (record { here = closed; there = got.there })
      | inr is_open ↦ inr (record { here = is_open ∙ ap (λ (l : List ℕ). Some (big_number 8 l)) got.number; there = got.there })
    ]

-- behind a closed gate a torn number counts for nothing
pub number_torn : (slot : Slot) (d c : List ℕ) → ceiling_in slot d ≡ None → Torn (place_of slot + 1) 8 d c → With slot None d c
number_torn First d c closed torn = record {
  here = shut (take 9 c) (take 9 d) (take-take 1 9 c (omega arith) ∙ torn.before ∙ sym (take-take 1 9 d (omega arith))) closed;
  there = ap open_ceiling torn.after;
}
number_torn Second d c closed torn = record {
  here = shut (drop 9 c) (drop 9 d) (sym (drop-take 9 1 c) ∙ ap (λ (l : List ℕ). drop 9 l) torn.before ∙ drop-take 9 1 d) closed;
  there = ap open_ceiling (sym (take-take 9 10 c (omega arith)) ∙ ap (λ (l : List ℕ). take 9 l) torn.before ∙ take-take 9 10 d (omega arith));
}

-- a gate that is put stands before the number
pub gate_put : (slot : Slot) (gate : ℕ) (d : List ℕ) → length d ≡ 18 → slot_bytes slot (put (place_of slot) (gate ∷ []) d) ≡ gate ∷ drop 1 (slot_bytes slot d)
gate_put First gate d whole = ap (λ (l : List ℕ). gate ∷ l) (sym (drop-take 1 8 d))
gate_put Second gate d whole = put_behind 9 (gate ∷ []) d (omega (arith, whole)) ∙ ap (λ (l : List ℕ). gate ∷ l) (sym (drop-drop 1 9 d))

-- a number that is put stands there
pub number_put : (slot : Slot) (number d : List ℕ) → length number ≡ 8 → length d ≡ 18 → drop 1 (slot_bytes slot (put (place_of slot + 1) number d)) ≡ number
number_put First number d eight whole =
    drop-take 1 8 (put 1 number d)
    ∙ ap (λ (l : List ℕ). take 8 l) (put_behind 1 number d (omega (arith, eight, whole)))
    ∙ take_at number (drop (1 + length number) d) 8 eight
number_put Second number d eight whole =
    drop-drop 1 9 (put 10 number d)
    ∙ put_behind 10 number d (omega (arith, eight, whole))
    ∙ ap (λ (l : List ℕ). number ++ l) (drop_all (10 + length number) d (omega (arith, eight, whole)))
    ∙ append-nil number

-- the gate is written closed
pub closes : (slot : Slot) (d : List ℕ) → length d ≡ 18 → With slot None d (put (place_of slot) (0 ∷ []) d)
closes slot d whole = record {
  here = ap open_ceiling (gate_put slot 0 d whole);
  there = (gated slot d (put (place_of slot) (0 ∷ []) d) whole (gate_fits slot)).there;
}
  where
    gate_fits : (slot : Slot) → Torn (place_of slot) 1 d (put (place_of slot) (0 ∷ []) d)
    gate_fits First = put_torn 0 1 (0 ∷ []) d refl (omega (arith, whole))
    gate_fits Second = put_torn 9 1 (0 ∷ []) d refl (omega (arith, whole))

-- the gate is written open
pub opens : (slot : Slot) (d : List ℕ) → length d ≡ 18 → With slot (Some (number_in slot d)) d (put (place_of slot) (1 ∷ []) d)
opens slot d whole = record {
  here = ap open_ceiling (gate_put slot 1 d whole);
  there = (gated slot d (put (place_of slot) (1 ∷ []) d) whole (gate_fits slot)).there;
}
  where
    gate_fits : (slot : Slot) → Torn (place_of slot) 1 d (put (place_of slot) (1 ∷ []) d)
    gate_fits First = put_torn 0 1 (1 ∷ []) d refl (omega (arith, whole))
    gate_fits Second = put_torn 9 1 (1 ∷ []) d refl (omega (arith, whole))

pub place_fits : (slot : Slot) → place_of slot + 9 ≤ 18
place_fits First = omega arith
place_fits Second = omega arith

-- an open slot of which the gate is torn is closed or as before
pub closing : (slot : Slot) (d c : List ℕ) → length d ≡ 18 → IsSome (ceiling_in slot d) → Torn (place_of slot) 1 d c → With slot None d c ⊎ With slot (ceiling_in slot d) d c
closing slot d c whole is_open torn =
    let same : ceiling_in slot d ≡ Some (number_in slot d) = open_number (by_gate (slot_bytes slot d) (gated slot d d whole (record { before = refl; after = refl; size = refl })).some) in
    elim (gate_torn slot d c whole torn) [
      | inl closed ↦ inl closed
      | inr w ↦ inr (record { here = w.here ∙ sym same; there = w.there })
    ]
  where
    none_is_some : ceiling_in slot d ≡ None → ⊥
    none_is_some none = let some : IsSome {T = ℕ} None = subst (λ (o : Option ℕ). IsSome o) none is_open in cc

    open_number : (ceiling_in slot d ≡ None) ⊎ (ceiling_in slot d ≡ Some (number_in slot d)) → ceiling_in slot d ≡ Some (number_in slot d)
    open_number (inl none) = absurd (none_is_some none)
    open_number (inr some) = some
