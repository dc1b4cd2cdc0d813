-- The first clock of a slot, from any clock on.
use Rattle.std.proofs.Common.{◌≡◌, ℕ, ◌+◌, ◌-◌, ◌*◌, ◌/◌, ◌%◌, ◌<◌, ◌≤◌, ◌⊎◌, inl, inr, arith, ap, sym, ◌∙◌, Bool, true, false, ◌&&◌, nat_le, nat_lt}
use Rattle.std.proofs.Math.Bool.{and-false}
use Rattle.std.proofs.Math.Nat.{add-mul, div-add-mod', mod-lt}
use Rattle.std.proofs.lemmas.Bool.{cases_lt, le-leb, le-ltb, lt-leb, lt-ltb}
use Rattle.std.proofs.lemmas.Nat.{mod-mul-add}
use Rattle.gs_tdma.specs.Slots.{IsFirst, sends_in}

-- ---- a clock in its period

-- d later, in the same period
same_period : (m x d : ℕ) → x % m + d < m → (x + d) % m ≡ x % m + d
same_period m x d h =
    let whole = div-add-mod' x m in
    let e : x + d ≡ x / m * m + (x % m + d) = omega (arith, whole) in
    ap (λ (z : ℕ). z % m) e ∙ mod-mul-add (x / m) m (x % m + d) h

-- r after the end of the period
next_period : (m x r : ℕ) → r < m → (x + (m - x % m) + r) % m ≡ r
next_period m x r h =
    let some : 0 < m = omega (arith, h) in
    let whole = div-add-mod' x m in
    let less = mod-lt x some in
    let one : (x / m + 1) * m ≡ x / m * m + 1 * m = add-mul (x / m) 1 m in
    let e : x + (m - x % m) + r ≡ (x / m + 1) * m + r = omega (arith, whole, less, one) in
    ap (λ (z : ℕ). z % m) e ∙ mod-mul-add (x / m + 1) m r h

-- ---- inside and outside of a slot

is_early : (period slot guard colour clock : ℕ) → clock % period < colour * slot + guard
    → sends_in period slot guard colour clock ≡ false
is_early period slot guard colour clock h =
    ap (λ (b : Bool). b && nat_lt (clock % period + guard) ((colour + 1) * slot)) (lt-leb (colour * slot + guard) (clock % period) h)

is_late : (period slot guard colour clock : ℕ) → (colour + 1) * slot ≤ clock % period + guard
    → sends_in period slot guard colour clock ≡ false
is_late period slot guard colour clock h =
    ap (λ (b : Bool). nat_le (colour * slot + guard) (clock % period) && b) (le-ltb (clock % period + guard) ((colour + 1) * slot) h)
    ∙ and-false (nat_le (colour * slot + guard) (clock % period))

is_inside : (period slot guard colour clock : ℕ) → colour * slot + guard ≤ clock % period → clock % period + guard < (colour + 1) * slot
    → sends_in period slot guard colour clock ≡ true
is_inside period slot guard colour clock low high =
    ap (λ (b : Bool). b && nat_lt (clock % period + guard) ((colour + 1) * slot)) (le-leb (colour * slot + guard) (clock % period) low)
    ∙ lt-ltb (clock % period + guard) ((colour + 1) * slot) high

-- ---- the first clock of a slot

-- where the slot is still to come in this period
pub first_here : (period slot guard colour clock : ℕ) → 2 * guard < slot → (colour + 1) * slot ≤ period
    → clock % period < colour * slot + guard
    → IsFirst (sends_in period slot guard colour) clock (clock + (colour * slot + guard - clock % period))
first_here period slot guard colour clock room fits early =
    let one : (colour + 1) * slot ≡ colour * slot + 1 * slot = add-mul colour 1 slot in
    let opens : ℕ = colour * slot + guard in
    let at : (clock + (opens - clock % period)) % period ≡ opens =
    same_period period clock (opens - clock % period) (omega (arith, one, room, fits, early)) ∙ omega (arith, early) in
    record {
      later = omega arith;
      passes = is_inside period slot guard colour (clock + (opens - clock % period)) (omega (arith, at)) (omega (arith, at, one, room));
      before = λ c low high.
          let d : ℕ = c - clock in
          let e : clock + d ≡ c = omega (arith, low) in
          let here : (clock + d) % period ≡ clock % period + d = same_period period clock d (omega (arith, e, high, early, one, room, fits)) in
          let is : c % period ≡ clock % period + d = ap (λ (z : ℕ). z % period) (sym e) ∙ here in
          is_early period slot guard colour c (omega (arith, is, e, high, early));
    }

-- where it is over in this period
pub first_next : (period slot guard colour clock : ℕ) → 2 * guard < slot → (colour + 1) * slot ≤ period
    → (colour + 1) * slot ≤ clock % period + guard
    → IsFirst (sends_in period slot guard colour) clock (clock + (period - clock % period) + (colour * slot + guard))
first_next period slot guard colour clock room fits over =
    let one : (colour + 1) * slot ≡ colour * slot + 1 * slot = add-mul colour 1 slot in
    let opens : ℕ = colour * slot + guard in
    let some : 0 < period = omega (arith, room, one, fits) in
    let less = mod-lt clock some in
    let at : (clock + (period - clock % period) + opens) % period ≡ opens = next_period period clock opens (omega (arith, one, room, fits)) in
    record {
      later = omega arith;
      passes = is_inside period slot guard colour (clock + (period - clock % period) + opens) (omega (arith, at)) (omega (arith, at, one, room));
      before = λ c low high. elim (cases_lt c (clock + (period - clock % period))) [
        | inl this ↦
            let d : ℕ = c - clock in
            let e : clock + d ≡ c = omega (arith, low) in
            let here : (clock + d) % period ≡ clock % period + d = same_period period clock d (omega (arith, e, this, less)) in
            let is : c % period ≡ clock % period + d = ap (λ (z : ℕ). z % period) (sym e) ∙ here in
            is_late period slot guard colour c (omega (arith, is, over))
        | inr after ↦
            let r : ℕ = c - (clock + (period - clock % period)) in
            let e : clock + (period - clock % period) + r ≡ c = omega (arith, after) in
            let here : (clock + (period - clock % period) + r) % period ≡ r = next_period period clock r (omega (arith, e, high, one, room, fits)) in
            let is : c % period ≡ r = ap (λ (z : ℕ). z % period) (sym e) ∙ here in
            is_early period slot guard colour c (omega (arith, is, e, high))
      ];
    }
