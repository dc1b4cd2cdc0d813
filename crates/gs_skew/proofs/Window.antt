-- What a window of many quanta does to leads and lags.
use Rattle.std.proofs.Common.{◌≡◌, ℕ, zero, suc, ◌+◌, ◌-◌, ◌*◌, ◌<◌, ◌≤◌, inl, inr, arith, ap, ◌∙◌}
use Rattle.std.proofs.Math.Nat.{mul-le-mul_left, mul-add}
use Rattle.std.proofs.lemmas.Bool.{cases_lt}
use Rattle.gs_topo.specs.Weights.{Weighs}
use Rattle.gs_skew.specs.Rows.{AreSteered}
use Rattle.gs_skew.proofs.Quantum.{Leads, Reaches, lead_grows, reach_grows}

-- weights many times as great fit edges many times as great
pub scaled : (n : ℕ) (adj : ℕ → ℕ → Type 0) (k weight : ℕ → ℕ → ℕ) (c : ℕ) → Weighs n adj k weight → Weighs n adj (λ a b. c * k a b) (λ a b. c * weight a b)
scaled n adj k weight c w = record {
  itself = λ v hv. let e : c * weight v v ≡ c * 0 = ap (λ (x : ℕ). c * x) (w.itself v hv) in omega (arith, e);
  same = λ v u hv hu. ap (λ (x : ℕ). c * x) (w.same v u hv hu);
  towards = λ v u hv hu other. let t = w.towards v u hv hu other in (t.0, t.1, t.2, ap (λ (x : ℕ). c * x) t.3 ∙ mul-add c (k u t.0) (weight v t.0));
  near = λ v u y hv hu hy next. let le : c * weight v y ≤ c * (weight v u + k u y) = mul-le-mul_left c (w.near v u y hv hu hy next) in
      let e : c * (weight v u + k u y) ≡ c * weight v u + c * k u y = mul-add c (weight v u) (k u y) in omega (arith, le, e);
}

-- over m quanta all come to within y of what w had and lo for each quantum
pub reach_window : (n last : ℕ) (adj : ℕ → ℕ → Type 0) (kappa weight row : ℕ → ℕ → ℕ) (lo r q : ℕ) → AreSteered n last adj kappa row lo r q
    → (s t w c : ℕ) → 1 ≤ s → Weighs n adj (λ a b. (2 * s - 1) * kappa a b) weight → w < n
    → (m y : ℕ) → t + m ≤ last → c ≤ row t w → Reaches n weight (row t) w c (y + q * m)
    → Reaches n weight (row (t + m)) w (c + lo * m) y × (c + lo * m ≤ row (t + m) w)
reach_window n last adj kappa weight row lo r q rows s t w c one weighs hw zero y inside reached reaches =
    let e : t + 0 ≡ t = omega arith in
    let f : y + q * 0 ≡ y = omega arith in
    let g : c + lo * 0 ≡ c = omega arith in
    rw (e, g) (rw f at reaches, reached)
reach_window n last adj kappa weight row lo r q rows s t w c one weighs hw (suc m) y inside reached reaches =
    let e : t + suc m ≡ suc (t + m) = omega arith in
    let f : y + q * suc m ≡ y + q + q * m = omega arith in
    let g : c + lo * suc m ≡ c + lo * m + lo = omega arith in
    let before = reach_window n last adj kappa weight row lo r q rows s t w c one weighs hw m (y + q) (omega arith) reached (rw f at reaches) in
    let now : t + m < last = omega arith in
    let grown = rows.grows (t + m) w now hw in
    rw (e, g) (
      reach_grows n adj (λ a b. (2 * s - 1) * kappa a b) weight (row (t + m)) (row (suc (t + m))) lo q w (c + lo * m) (y + q) y weighs hw
          (λ u hu. rows.grows (t + m) u now hu) (λ u hu h. rows.fast s (t + m) u one now hu h) before.1 before.0 (omega arith),
      omega (arith, before, grown),
    )

-- a lead of at most x is a lead of at most any y above it
leads_more : (n : ℕ) (weight : ℕ → ℕ → ℕ) (clock : ℕ → ℕ) (v x y : ℕ) → x ≤ y → Leads n weight clock v x → Leads n weight clock v y
leads_more n weight clock v x y le leads w hw = let l = leads w hw in omega (arith, l)

-- over m quanta the lead over v grows to at most r for each quantum, or by hi for each less what v has grown
pub lead_window : (n last : ℕ) (adj : ℕ → ℕ → Type 0) (kappa weight row : ℕ → ℕ → ℕ) (lo r q : ℕ) → AreSteered n last adj kappa row lo r q
    → (s t v x : ℕ) → 1 ≤ s → Weighs n adj (λ a b. 2 * s * kappa a b) weight → v < n → Leads n weight (row t) v x
    → (m y : ℕ) → t + m ≤ last → r * m ≤ y → x + (lo + r) * m + row t v ≤ y + row (t + m) v → Leads n weight (row (t + m)) v y
lead_window n last adj kappa weight row lo r q rows s t v x one weighs hv leads zero y inside low room =
    let e : t + 0 ≡ t = omega arith in
    let f : (lo + r) * 0 ≡ 0 = omega arith in
    let g : x + 0 + row t v ≤ y + row t v = rw (e, f) at room in
    rw e (leads_more n weight (row t) v x y (omega (arith, g)) leads)
lead_window n last adj kappa weight row lo r q rows s t v x one weighs hv leads (suc m) y inside low room =
    let e : t + suc m ≡ suc (t + m) = omega arith in
    let now : t + m < last = omega arith in
    let grown = rows.grows (t + m) v now hv in
    let more : r * suc m ≡ r * m + r = omega arith in
    let high : (lo + r) * suc m ≡ (lo + r) * m + (lo + r) = omega arith in
    let here : x + (lo + r) * suc m + row t v ≤ y + row (suc (t + m)) v = rw e at room in
    rw e (elim (cases_lt (r * m + row (t + m) v) (x + (lo + r) * m + row t v)) [
      | inl past ↦
          let z : ℕ = x + (lo + r) * m + row t v - row (t + m) v in
          let z_is : z + row (t + m) v ≡ x + (lo + r) * m + row t v = omega (arith, past) in
          lead_grows n adj (λ a b. 2 * s * kappa a b) weight (row (t + m)) (row (suc (t + m))) (lo + r) v z y weighs hv
          (λ u hu h. rows.slow s (t + m) u one now hu h)
          (lead_window n last adj kappa weight row lo r q rows s t v x one weighs hv leads m z (omega arith) (omega (arith, past)) (omega (arith, z_is)))
          (omega (arith, z_is, high, here))
      | inr fits ↦
          lead_grows n adj (λ a b. 2 * s * kappa a b) weight (row (t + m)) (row (suc (t + m))) (lo + r) v (r * m) y weighs hv
          (λ u hu h. rows.slow s (t + m) u one now hu h)
          (lead_window n last adj kappa weight row lo r q rows s t v x one weighs hv leads m (r * m) (omega arith) (omega arith) fits)
          (omega (arith, grown, more, low))
    ])
