-- The worked network meets its premises.
use Rattle.std.proofs.Common.{◌≡◌, ◌≢◌, ℕ, zero, suc, ◌+◌, ◌≤◌, inl, inr, arith, sym, refl, ◌∙◌, IsTrue}
use Rattle.std.proofs.lemmas.Bool.{cases_eq, eq-eqb, ne_eqb}
use Rattle.gs_topo.specs.Weights.{Weighs}
use Rattle.gs_skew.specs.Rows.{AreSteered}
use Rattle.gs_skew.specs.Worked.{IsWorkedNetwork, one_between, two_apart, two_rows}

at_start : (v : ℕ) → two_rows 0 v ≡ 0
at_start v = refl

-- each clock of the end is 2 or 3
at_end : (t v : ℕ) → 1 ≤ t → (2 ≤ two_rows t v) × (two_rows t v ≤ 3)
at_end t v later = elim (cases_eq v 0) [
  | inl e ↦ rw (ne_eqb t 0 (λ z. omega arith), eq-eqb v 0 e) (omega arith, omega arith)
  | inr other ↦ rw (ne_eqb t 0 (λ z. omega arith), ne_eqb v 0 other) (omega arith, omega arith)
]

weight_of_same : (v : ℕ) → one_between v v ≡ 0
weight_of_same v = rw (eq-eqb v v refl) refl

weight_of_other : (v w : ℕ) → v ≢ w → one_between v w ≡ 1
weight_of_other v w other = rw (ne_eqb v w other) refl

weight_most : (v w : ℕ) → one_between v w ≤ 1
weight_most v w = elim (cases_eq v w) [
  | inl e ↦ rw (eq-eqb v w e) (omega arith)
  | inr other ↦ rw (ne_eqb v w other) (omega arith)
]

apart : (v w : ℕ) → v ≢ w → IsTrue (two_apart v w)
apart v w other = rw (ne_eqb v w other) refl

both_ways : (v w : ℕ) → one_between v w ≡ one_between w v
both_ways v w = elim (cases_eq v w) [
  | inl e ↦ rw (eq-eqb v w e, eq-eqb w v (sym e)) refl
  | inr other ↦ weight_of_other v w other ∙ sym (weight_of_other w v (λ e. other (sym e)))
]

weighs : Weighs 2 (λ a b. IsTrue (two_apart a b)) (λ v w. 1) one_between
weighs = record {
  itself = λ v hv. weight_of_same v;
  same = λ v w hv hw. both_ways v w;
  towards = λ w u hw hu other. (w, hw, apart u w (λ e. other (sym e)), (let a = weight_of_other w u other in let b = weight_of_same w in omega (arith, a, b)));
  near = λ w u y hw hu hy next. let a = weight_most w y in omega (arith, a);
}

-- from 0 each clock added 2 or 3, and no two nodes are 2 apart
steered : AreSteered 2 1 (λ a b. IsTrue (two_apart a b)) (λ v w. 1) two_rows 1 1 1
steered = record {
  grows = λ t u ht hu.
      let e : t ≡ 0 = omega (arith, ht) in
      let a = at_end (suc t) u (omega arith) in
      let z : two_rows t u ≡ 0 = (rw e (at_start u)) in
      omega (arith, a, z);
  fast = λ s t u one ht hu behind.
      let e : t ≡ 0 = omega (arith, ht) in
      let a = at_end (suc t) u (omega arith) in
      let z : two_rows t u ≡ 0 = (rw e (at_start u)) in
      omega (arith, a, z);
  slow = λ s t w one ht hw ahead.
      let some = ahead.some in
      let a = at_end (suc t) w (omega arith) in
      let b = at_end (suc t) some.0 (omega arith) in
      let c = some.3 in
      absurd (omega (arith, a, b, c, one));
}

skews : (t v w : ℕ) → two_rows t w ≤ two_rows t v + 1
skews zero v w = omega arith
skews (suc t) v w =
    let a = at_end (suc t) v (omega arith) in
    let b = at_end (suc t) w (omega arith) in
    omega (arith, a, b)

pub worked : IsWorkedNetwork
worked = record {
  network = record {
    rows = record { equal = λ v w hv hw. refl; steered = steered; skews = λ t v w ht hv hw. skews t v w };
    weights = weighs;
    drift = omega arith;
    strong = omega arith;
  };
  behind = record {
    some = (1, omega arith, refl, omega arith);
    each = λ y hy next. let a = at_end 1 y (omega arith) in omega (arith, a);
  };
}
