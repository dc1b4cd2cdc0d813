-- One level, from the bound of the level below it.
use Rattle.std.proofs.Common.{◌≡◌, ℕ, zero, suc, ◌+◌, ◌-◌, ◌*◌, ◌<◌, ◌≤◌, inl, inr, arith}
use Rattle.std.proofs.Math.Nat.{mul-le-mul_left, mul-le-mul_right, add-mul}
use Rattle.std.proofs.lemmas.Bool.{cases_lt}
use Rattle.gs_topo.specs.Weights.{Weighs}
use Rattle.gs_skew.specs.Rows.{AreSteered, AreRows}
use Rattle.gs_skew.proofs.Extremes.{greatest_below}
use Rattle.gs_skew.proofs.Quantum.{Leads, Reaches}
use Rattle.gs_skew.proofs.Window.{scaled, reach_window, lead_window}

-- no node is ahead of another by more than their weight and g, in any row
abbrev pub Keeps : (n last : ℕ) → (ℕ → ℕ → ℕ) → (ℕ → ℕ → ℕ) → ℕ → Type 0
Keeps n last weight row g = (t v : ℕ) → t ≤ last → v < n → Leads n weight (row t) v g

-- over m quanta each clock grows by at least lo for each
grown_since : (n last : ℕ) (adj : ℕ → ℕ → Type 0) (kappa row : ℕ → ℕ → ℕ) (lo r q : ℕ) → AreSteered n last adj kappa row lo r q
    → (t u m : ℕ) → t + m ≤ last → u < n → row t u + lo * m ≤ row (t + m) u
grown_since n last adj kappa row lo r q rows t u zero inside hu =
    let e : t + 0 ≡ t = omega arith in
    let f : lo * 0 ≡ 0 = omega arith in
    rw (e, f) (omega arith)
grown_since n last adj kappa row lo r q rows t u (suc m) inside hu =
    let e : t + suc m ≡ suc (t + m) = omega arith in
    let before = grown_since n last adj kappa row lo r q rows t u m (omega arith) hu in
    let step = rows.grows (t + m) u (omega arith) hu in
    let f : lo * suc m ≡ lo * m + lo = omega arith in
    rw (e, f) (omega (arith, before, step))

-- after a window in which a lag of g is caught up with, v has reached what w had and lo for each quantum, but for the weight
follows : (n last : ℕ) (adj : ℕ → ℕ → Type 0) (kappa weight row : ℕ → ℕ → ℕ) (lo r q : ℕ) → AreSteered n last adj kappa row lo r q
    → Weighs n adj kappa weight → (s t v w g m : ℕ) → 1 ≤ s → t + m ≤ last → v < n → w < n → g ≤ q * m
    → ((u : ℕ) → u < n → Leads n (λ a b. 2 * (s - 1) * weight a b) (row t) u g)
    → row t w + lo * m ≤ row (t + m) v + 2 * s * weight v w
follows n last adj kappa weight row lo r q rows weighs s t v w g m one inside hv hw enough below =
    let odd = scaled n adj kappa weight (2 * s - 1) weighs in
    let less : (u : ℕ) → u < n → 2 * (s - 1) * weight u w ≤ (2 * s - 1) * weight w u = λ u hu.
    rw (weighs.same u w hu hw) (mul-le-mul_right (weight w u) (omega arith)) in
    let reaches : Reaches n (λ a b. (2 * s - 1) * weight a b) (row t) w (row t w) (0 + q * m) =
    λ u hu. let b = below u hu w hw in let le = less u hu in omega (arith, b, le, enough) in
    let there = reach_window n last adj kappa (λ a b. (2 * s - 1) * weight a b) row lo r q rows s t w (row t w) one odd hw m 0 inside (omega arith) reaches in
    let at_v = there.0 v hv in
    let twice : (2 * s - 1) * weight w v ≤ 2 * s * weight v w =
    rw (weighs.same v w hv hw) (mul-le-mul_right (weight w v) (omega arith)) in
    omega (arith, at_v, twice)

-- one level, after a window of m quanta from a moment at which the level below kept its bound
pub level_window : (n last : ℕ) (adj : ℕ → ℕ → Type 0) (kappa weight row : ℕ → ℕ → ℕ) (lo r q : ℕ) → AreSteered n last adj kappa row lo r q
    → Weighs n adj kappa weight → (s g m h t0 v : ℕ) → 1 ≤ s → g ≤ q * m → r * m ≤ h → t0 + m ≤ last → v < n
    → ((u : ℕ) → u < n → Leads n (λ a b. 2 * (s - 1) * weight a b) (row t0) u g) → Leads n (λ a b. 2 * s * weight a b) (row (t0 + m)) v h
level_window n last adj kappa weight row lo r q rows weighs s g m h t0 v one enough low inside hv below =
    let even = scaled n adj kappa weight (2 * s) weighs in
    let product : (lo + r) * m ≡ lo * m + r * m = add-mul lo r m in
    let window : (x : ℕ) → Leads n (λ a b. 2 * s * weight a b) (row t0) v x → x + lo * m + row t0 v ≤ row (t0 + m) v → Leads n (λ a b. 2 * s * weight a b) (row (t0 + m)) v h =
    λ x leads grown.
    lead_window n last adj kappa (λ a b. 2 * s * weight a b) row lo r q rows s t0 v x one even hv leads m h inside low (omega (arith, product, grown, low)) in
    let best = greatest_below n (row t0) (λ u. 2 * s * weight v u) (omega arith) in
    let w : ℕ = best.0 in
    let since = grown_since n last adj kappa row lo r q rows t0 v m inside hv in
    elim (cases_lt (row t0 v + 2 * s * weight v w) (row t0 w)) [
      | inl leads ↦
          let x : ℕ = row t0 w - (row t0 v + 2 * s * weight v w) in
          let x_is : x + (row t0 v + 2 * s * weight v w) ≡ row t0 w = omega (arith, leads) in
          let f = follows n last adj kappa weight row lo r q rows weighs s t0 v w g m one inside hv best.1 enough below in
          window x (λ u hu. let b = best.2 u hu in omega (arith, b, x_is)) (omega (arith, f, x_is))
      | inr none ↦ window 0 (λ u hu. let b = best.2 u hu in omega (arith, b, none)) (omega (arith, since))
    ]

-- the same where at most m quanta have passed since equal clocks
level_start : (n last : ℕ) (adj : ℕ → ℕ → Type 0) (kappa weight row : ℕ → ℕ → ℕ) (lo r q skew : ℕ) → AreRows n last adj kappa row lo r q skew
    → Weighs n adj kappa weight → (s m h t v : ℕ) → 1 ≤ s → r * m ≤ h → t ≤ m → t ≤ last → v < n → Leads n (λ a b. 2 * s * weight a b) (row t) v h
level_start n last adj kappa weight row lo r q skew rows weighs s m h t v one low short inside hv =
    let even = scaled n adj kappa weight (2 * s) weighs in
    let e : 0 + t ≡ t = omega arith in
    let le : r * t ≤ r * m = mul-le-mul_left r short in
    let product : (lo + r) * t ≡ lo * t + r * t = add-mul lo r t in
    let since : row 0 v + lo * t ≤ row t v = rw e at (grown_since n last adj kappa row lo r q rows.steered 0 v t (omega (arith, inside)) hv) in
    let room : 0 + (lo + r) * t + row 0 v ≤ h + row (0 + t) v = rw e (omega (arith, product, since, le, low)) in
    rw e at (lead_window n last adj kappa (λ a b. 2 * s * weight a b) row lo r q rows.steered s 0 v 0 one even hv
    (λ u hu. let same = rows.equal u v hu hv in omega (arith, same)) t h (omega (arith, inside)) (omega (arith, le, low)) room)

-- one level at every moment
pub level_step : (n last : ℕ) (adj : ℕ → ℕ → Type 0) (kappa weight row : ℕ → ℕ → ℕ) (lo r q skew : ℕ) → AreRows n last adj kappa row lo r q skew
    → Weighs n adj kappa weight → (s g m h : ℕ) → 1 ≤ s → g ≤ q * m → r * m ≤ h
    → Keeps n last (λ a b. 2 * (s - 1) * weight a b) row g → Keeps n last (λ a b. 2 * s * weight a b) row h
level_step n last adj kappa weight row lo r q skew rows weighs s g m h one enough low below t v ht hv = elim (cases_lt t m) [
  | inl short ↦ level_start n last adj kappa weight row lo r q skew rows weighs s m h t v one low (omega (arith, short)) ht hv
  | inr long ↦
      let e : t - m + m ≡ t = omega (arith, long) in
      rw e at (level_window n last adj kappa weight row lo r q rows.steered weighs s g m h (t - m) v one enough low (omega (arith, e, ht)) hv (λ u hu. below (t - m) u (omega (arith, ht)) hu))
]
