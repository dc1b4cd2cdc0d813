-- The bound of each level, by induction on the level.
use Rattle.std.proofs.Common.{◌≡◌, ℕ, zero, suc, ◌+◌, ◌-◌, ◌*◌, ◌/◌, ◌<◌, ◌≤◌, inl, inr, arith}
use Rattle.std.proofs.Math.Nat.{mul-le-mul_left, mul-le-mul_right, mul_comm, mul-add, mul_assoc, div-mul-le_self, mul-lt-mul_of_pos_left, le-div_iff_mul-le}
use Rattle.std.proofs.lemmas.Bool.{cases_lt}
use Rattle.std.proofs.lemmas.Grind.{div_ceil_times}
use Rattle.std.specs.Int.{div_ceil}
use Rattle.gs_topo.specs.Weights.{Weighs}
use Rattle.gs_units.specs.Rates.{bound_at}
use Rattle.gs_skew.specs.Rows.{AreRows}
use Rattle.gs_skew.proofs.Levels.{Keeps, level_step}

-- a quotient rounded up is enough, and one less is not
pub ceil_is : (a b : ℕ) → 0 < b → (a ≤ b * div_ceil a b) × (b * div_ceil a b < a + b)
ceil_is a b h = rw (mul_comm b (div_ceil a b)) (div_ceil_times a b h)

-- a window that adds more than r has some quantum
some_left : (r m k : ℕ) → k + r < r * m → 1 ≤ m
some_left r zero k h = absurd (omega (arith, h))
some_left r (suc m) k h = omega arith

-- r in each of m quanta, the fewest that catch up with g at q a quantum, is at most k and r
window_adds : (g q r sigma m k : ℕ) → 0 < sigma → sigma * r ≤ q → q * m < g + q → g ≤ sigma * k → r * m ≤ k + r
window_adds g q r sigma m k positive whole upper enough = elim (cases_lt (k + r) (r * m)) [
  | inl past ↦
      let p : ℕ = sigma * r in
      let bigger : sigma * (k + r) < sigma * (r * m) = mul-lt-mul_of_pos_left past positive in
      let left : sigma * (k + r) ≡ sigma * k + p = mul-add sigma k r in
      let right : p * m ≡ sigma * (r * m) = mul_assoc sigma r m in
      let some : 1 ≤ m = some_left r m k past in
      let less : p * (m - 1) ≤ q * (m - 1) = mul-le-mul_right (m - 1) whole in
      let pm : p * (m - 1 + 1) ≡ p * (m - 1) + p * 1 = mul-add p (m - 1) 1 in
      let qm : q * (m - 1 + 1) ≡ q * (m - 1) + q * 1 = mul-add q (m - 1) 1 in
      let e : m - 1 + 1 ≡ m = omega (arith, some) in
      let pe : p * m ≡ p * (m - 1) + p * 1 = rw e at pm in
      let qe : q * m ≡ q * (m - 1) + q * 1 = rw e at qm in
      absurd (omega (arith, bigger, left, right, less, pe, qe, upper, enough))
  | inr within ↦ within
]

-- what the window of one level adds is within the bound of the next
pub next_bound : (g q r : ℕ) → 0 < r → r ≤ q → r * div_ceil g q ≤ div_ceil g (q / r) + r
next_bound g q r drift strong =
    let positive : 0 < q / r = (le-div_iff_mul-le drift).1 (omega (arith, strong)) in
    window_adds g q r (q / r) (div_ceil g q) (div_ceil g (q / r)) positive (div-mul-le_self q r)
    (ceil_is g q (omega (arith, drift, strong))).1 (ceil_is g (q / r) positive).0

-- every level keeps its bound
pub keeps_bound : (n last : ℕ) (adj : ℕ → ℕ → Type 0) (kappa weight row : ℕ → ℕ → ℕ) (lo r q skew : ℕ) → AreRows n last adj kappa row lo r q skew
    → Weighs n adj kappa weight → 0 < r → r ≤ q → (s : ℕ) → Keeps n last (λ a b. 2 * s * weight a b) row (bound_at skew (q / r) r s)
keeps_bound n last adj kappa weight row lo r q skew rows weighs drift strong zero = λ t v ht hv w hw. let s = rows.skews t v w ht hv hw in omega (arith, s)
keeps_bound n last adj kappa weight row lo r q skew rows weighs drift strong (suc s) =
    let g : ℕ = bound_at skew (q / r) r s in
    let e : suc s - 1 ≡ s = omega arith in
    level_step n last adj kappa weight row lo r q skew rows weighs (suc s) g (div_ceil g q) (div_ceil g (q / r) + r) (omega arith)
    (ceil_is g q (omega (arith, strong, drift))).0 (next_bound g q r drift strong)
    (rw e (keeps_bound n last adj kappa weight row lo r q skew rows weighs drift strong s))

-- the ends of an edge weigh at most its kappa
edge_weight : (n : ℕ) (adj : ℕ → ℕ → Type 0) (kappa weight : ℕ → ℕ → ℕ) → Weighs n adj kappa weight → (v w : ℕ) → v < n → w < n → adj v w → weight v w ≤ kappa v w
edge_weight n adj kappa weight weighs v w hv hw next =
    let near = weighs.near v v w hv hv hw next in
    let itself = weighs.itself v hv in
    omega (arith, near, itself)

-- and so keep within the bound of each level, both ways
pub edges_keep_bound : (n last : ℕ) (adj : ℕ → ℕ → Type 0) (kappa weight row : ℕ → ℕ → ℕ) (s g : ℕ) → Weighs n adj kappa weight → Keeps n last (λ a b. 2 * s * weight a b) row g
    → (t v w : ℕ) → t ≤ last → v < n → w < n → adj v w → (row t w ≤ row t v + 2 * s * kappa v w + g) × (row t v ≤ row t w + 2 * s * kappa v w + g)
edges_keep_bound n last adj kappa weight row s g weighs keeps t v w ht hv hw next =
    let near : weight v w ≤ kappa v w = edge_weight n adj kappa weight weighs v w hv hw next in
    let there : 2 * s * weight v w ≤ 2 * s * kappa v w = mul-le-mul_left (2 * s) near in
    let back : 2 * s * weight w v ≤ 2 * s * kappa v w = rw (weighs.same v w hv hw) at there in
    let ahead = keeps t v ht hv w hw in
    let behind = keeps t w ht hw v hv in
    (omega (arith, ahead, there), omega (arith, behind, back))
