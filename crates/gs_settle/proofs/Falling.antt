-- What holds from unequal clocks: every two clocks are within gamma at the start.
use Rattle.std.proofs.Common.{◌≡◌, ℕ, zero, suc, ◌+◌, ◌-◌, ◌*◌, ◌<◌, ◌≤◌, inl, inr, arith, max}
use Rattle.std.specs.Int.{div_ceil}
use Rattle.std.proofs.Math.Nat.{add-mul, mul-le-mul_left, mul-le-mul_right}
use Rattle.gs_units.specs.Rates.{drift_of, q_of, r_of, top_of}
use Rattle.gs_skew.specs.Rows.{AreSteered}
use Rattle.gs_skew.proofs.Bounded.{ceil_is, next_bound}
use Rattle.gs_skew.proofs.Levels.{level_window}
use Rattle.gs_skew.proofs.Quantum.{Leads}
use Rattle.gs_run.specs.Accepted.{AreNumbers}
use Rattle.gs_run.specs.Net.{Net, Adjacent, level_of, skew_of}
use Rattle.gs_run.proofs.History.{IsHistory}
use Rattle.gs_run.proofs.Levels.{ahead_grows, behind_grows, net_weighs}
use Rattle.gs_run.proofs.Rows.{row_since_least, row_since_most}
use Rattle.gs_run.proofs.Steered.{history_grows}
use Rattle.gs_settle.specs.Times.{heard_time, level_time}
use Rattle.gs_settle.proofs.Unequal.{skew_falls}

-- all differences are at most g
abbrev pub RowWithin : Net → (ℕ → ℕ) → ℕ → Type 0
RowWithin net row g = (v w : ℕ) → v < net.nodes → w < net.nodes → row w ≤ row v + g

-- until the triggers are right the skew grows by at most the drift
pub skew_grows : (net : Net) (last : ℕ) (row reading most : ℕ → ℕ → ℕ) → IsHistory net last row reading most → (gamma t : ℕ) → t ≤ last
    → RowWithin net (row 0) gamma → RowWithin net (row t) (gamma + drift_of net.rate * t)
skew_grows net last row reading most h gamma t ht start v w hv hw =
    let grows = history_grows net last row reading most h in
    let e : t - 0 ≡ t = omega arith in
    let least : row 0 v + net.rate.lo * t ≤ row t v = rw e at (row_since_least net last row reading grows v 0 t hv (omega arith) ht) in
    let most_w : row t w ≤ row 0 w + top_of net.rate * t = rw e at (row_since_most net last row reading grows w 0 t hw (omega arith) ht) in
    let top_is : net.rate.lo + drift_of net.rate ≡ top_of net.rate = omega (arith, net.rate.accepted.above) in
    let parts : (net.rate.lo + drift_of net.rate) * t ≡ net.rate.lo * t + drift_of net.rate * t = add-mul net.rate.lo (drift_of net.rate) t in
    let top_parts : top_of net.rate * t ≡ net.rate.lo * t + drift_of net.rate * t = rw top_is at parts in
    let s = start v w hv hw in
    omega (arith, least, most_w, top_parts, s)

-- then it falls by q - r in each quantum, down to its bound
pub skew_after : (net : Net) (last : ℕ) (row reading most : ℕ → ℕ → ℕ) → AreNumbers net → IsHistory net last row reading most → (from a : ℕ)
    → net.diameter * net.age + net.tick ≤ from → net.age + net.tick ≤ from → RowWithin net (row from) a → (k : ℕ) → from + k ≤ last
    → RowWithin net (row (from + k)) (max (skew_of net) (a - (q_of net.rate - r_of net.rate) * k))
skew_after net last row reading most numbers h from a late aged start zero inside v w hv hw =
    let e : from + 0 ≡ from = omega arith in
    let z : (q_of net.rate - r_of net.rate) * 0 ≡ 0 = omega arith in
    let s = start v w hv hw in
    rw (e, z) (omega (arith, s))
skew_after net last row reading most numbers h from a late aged start (suc k) inside v w hv hw =
    let fall : ℕ = q_of net.rate - r_of net.rate in
    let g : ℕ = max (skew_of net) (a - fall * k) in
    let e : from + suc k ≡ suc (from + k) = omega arith in
    let p : fall * suc k ≡ fall * k + fall = omega arith in
    let before = skew_after net last row reading most numbers h from a late aged start k (omega (arith, inside)) in
    rw e (elim (skew_falls net last row reading most numbers h (from + k) g (omega (arith, inside)) (omega (arith, late)) (omega (arith, aged)) before (omega arith) v w hv hw) [
      | inl falls ↦ omega (arith, falls, p)
      | inr there ↦ omega (arith, there)
    ])

-- ---- the levels, from the time on from which the level below holds

steered_from : (net : Net) (last : ℕ) (row reading most : ℕ → ℕ → ℕ) → AreNumbers net → IsHistory net last row reading most → (from : ℕ)
    → net.age + net.tick ≤ from
    → AreSteered net.nodes (last - from) (Adjacent net) net.kappa (λ t. row (from + t)) net.rate.lo (r_of net.rate) (q_of net.rate)
steered_from net last row reading most numbers h from aged =
    let grows = history_grows net last row reading most h in
    let next : (t : ℕ) → from + suc t ≡ suc (from + t) = λ t. omega arith in
    record {
      grows = λ t u ht hu. rw (next t) (grows.row_least u (from + t) hu (omega (arith, ht)));
      fast = λ s t u one ht hu behind. rw (next t) (behind_grows net last row reading most numbers h s (from + t) u one (omega (arith, ht)) hu
          (λ when recent early x hx. absurd (omega (arith, recent, early, aged))) (rw (next t) at behind));
      slow = λ s t w one ht hw ahead. rw (next t) (ahead_grows net last row reading most numbers h s (from + t) w one (omega (arith, ht)) hw
          (λ when recent early x hx. absurd (omega (arith, recent, early, aged))) (rw (next t) at ahead));
    }

-- ---- the times

time_after : (net : Net) (gamma s : ℕ) → heard_time net ≤ level_time net gamma s
time_after net gamma zero = omega arith
time_after net gamma (suc s) = let t = time_after net gamma s in omega (arith, t)

late_enough : (net : Net) → (net.diameter * net.age + net.tick ≤ heard_time net) × (net.age + net.tick ≤ heard_time net)
late_enough net =
    let wide : net.diameter * net.age ≤ max net.diameter 1 * net.age = mul-le-mul_right net.age (omega arith) in
    let one : 1 * net.age ≤ max net.diameter 1 * net.age = mul-le-mul_right net.age (omega arith) in
    (omega (arith, wide), omega (arith, one))

-- the global skew from the time of level 0 on
pub settled_skew : (net : Net) (last : ℕ) (row reading most : ℕ → ℕ → ℕ) → AreNumbers net → IsHistory net last row reading most → (gamma t : ℕ)
    → RowWithin net (row 0) gamma → level_time net gamma 0 ≤ t → t ≤ last → RowWithin net (row t) (skew_of net)
settled_skew net last row reading most numbers h gamma t start ht inside v w hv hw =
    let from : ℕ = heard_time net in
    let fall : ℕ = q_of net.rate - r_of net.rate in
    let a : ℕ = gamma + drift_of net.rate * from in
    let n : ℕ = div_ceil (a - skew_of net) fall in
    let strong = numbers.strong in
    let positive : 0 < fall = let b = net.rate.accepted.above in omega (arith, strong, b) in
    let enough = (ceil_is (a - skew_of net) fall positive).0 in
    let k : ℕ = t - from in
    let end : from + k ≡ t = omega (arith, ht) in
    let more : fall * n ≤ fall * k = mul-le-mul_left fall (omega (arith, ht)) in
    let grown = skew_grows net last row reading most h gamma from (omega (arith, ht, inside)) start in
    let after = skew_after net last row reading most numbers h from a (late_enough net).0 (late_enough net).1 grown k (omega (arith, end, inside)) v w hv hw in
    let found : row t w ≤ row t v + max (skew_of net) (a - fall * k) = rw end at after in
    omega (arith, found, enough, more)

-- what the window of a level adds is within the next level's bound
window_enough : (net : Net) (s : ℕ) → AreNumbers net
    → (level_of net s ≤ q_of net.rate * div_ceil (level_of net s) (q_of net.rate))
    × (r_of net.rate * div_ceil (level_of net s) (q_of net.rate) ≤ level_of net (suc s))
window_enough net s numbers =
    let strong = numbers.strong in
    let above = net.rate.accepted.above in
    ((ceil_is (level_of net s) (q_of net.rate) (omega (arith, strong, above))).0, next_bound (level_of net s) (q_of net.rate) (r_of net.rate) (omega (arith, above)) (omega (arith, strong)))

-- Each level holds from its time on.
pub settled_levels : (net : Net) (last : ℕ) (row reading most : ℕ → ℕ → ℕ) → AreNumbers net → IsHistory net last row reading most → (gamma : ℕ)
    → RowWithin net (row 0) gamma
    → (s t v w : ℕ) → level_time net gamma s ≤ t → t ≤ last → v < net.nodes → w < net.nodes → row t w ≤ row t v + 2 * s * net.weight v w + level_of net s
settled_levels net last row reading most numbers h gamma start zero t v w ht inside hv hw =
    let b = settled_skew net last row reading most numbers h gamma t start ht inside v w hv hw in omega (arith, b)
settled_levels net last row reading most numbers h gamma start (suc s) t v w ht inside hv hw =
    let from : ℕ = heard_time net in
    let m : ℕ = div_ceil (level_of net s) (q_of net.rate) in
    let after = time_after net gamma s in
    let k : ℕ = t - m - from in
    let begin : from + k ≡ t - m = omega (arith, ht, after) in
    let end : from + (k + m) ≡ t = omega (arith, ht, after) in
    let down : suc s - 1 ≡ s = omega arith in
    let enough = window_enough net s numbers in
    let below : (u : ℕ) → u < net.nodes → Leads net.nodes (λ a b. 2 * (suc s - 1) * net.weight a b) (row (from + k)) u (level_of net s) =
    rw (begin, down) (λ u hu x hx. settled_levels net last row reading most numbers h gamma start s (t - m) u x (omega (arith, ht)) (omega (arith, inside)) hu hx) in
    let leads = level_window net.nodes (last - from) (Adjacent net) net.kappa net.weight (λ z. row (from + z)) net.rate.lo (r_of net.rate) (q_of net.rate)
    (steered_from net last row reading most numbers h from (late_enough net).1) (net_weighs net numbers) (suc s) (level_of net s) m (level_of net (suc s)) k v (omega arith) enough.0 enough.1
    (omega (arith, end, inside, after, ht)) hv below in
    let found = leads w hw in
    rw end at found
