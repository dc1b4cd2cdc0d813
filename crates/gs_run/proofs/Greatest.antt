-- The greatest clock grows by at most hi in a quantum, a maximum lags behind it by at most lambda, and all clocks stay
-- within the bound of level 0, from equal clocks.
use Rattle.std.proofs.Common.{◌≡◌, ℕ, zero, suc, ◌+◌, ◌-◌, ◌*◌, ◌<◌, ◌≤◌, inl, inr, arith, ◌∙◌, List, [], ◌∷◌, length, subst}
use Rattle.std.proofs.Math.Nat.{mul-le-mul_left, mul-le-mul_right}
use Rattle.std.proofs.lemmas.Bool.{cases_lt}
use Rattle.gs_units.specs.Rates.{drift_of, r_of, g_of}
use Rattle.gs_units.specs.declared.rate.Mode.TheVariants.{Slow, Fast}
use Rattle.gs_topo.specs.Walks.{IsWalk}
use Rattle.gs_estimate.proofs.Closeness.{growth-splits}
use Rattle.gs_maximum.specs.Lag.{Tells}
use Rattle.gs_maximum.proofs.Telling.{hops_tell, earlier_is_told, lag_per_hop}
use Rattle.gs_steer.proofs.Deciding.{slow_near_maximum, fast_far_behind}
use Rattle.gs_skew.proofs.Extremes.{greatest_below}
use Rattle.gs_run.specs.Net.{Net, Adjacent, iota_of, lambda_of, skew_of, spread_of}
use Rattle.gs_run.specs.Accepted.{AreNumbers}
use Rattle.gs_run.proofs.History.{IsHistory, IsEqual, Steers, Hears}
use Rattle.gs_run.proofs.Rows.{Grows, row_since_least, row_since_most}
use Rattle.gs_run.proofs.Steered.{history_grows, steered}
use Rattle.gs_run.proofs.Conditions.{decision_is_seen, greatest_not_fast, least_not_slow}

-- ---- the greatest clock grows by at most hi in a quantum

-- a decision of the node that is greatest later was near the maximum that it knew
pub near_maximum : (net : Net) (last : ℕ) (row reading most : ℕ → ℕ → ℕ) → Grows net last row reading → (t v : ℕ) → t < last → v < net.nodes
    → ((x : ℕ) → x < net.nodes → row (suc t) x ≤ row (suc t) v) → (s : Steers net row reading most t v) → s.m - row s.when v < iota_of net
near_maximum net last row reading most grows t v ht hv greatest s =
    let k : ℕ = suc t - s.when in
    let le : s.when ≤ suc t = omega (arith, s.before) in
    let x : ℕ = s.reached.0 in
    let hx : x < net.nodes = s.reached.1 in
    let x_least = row_since_least net last row reading grows x s.when (suc t) hx le ht in
    let v_most = row_since_most net last row reading grows v s.when (suc t) hv le ht in
    let splits = growth-splits net.rate k in
    let gap : drift_of net.rate * k ≤ drift_of net.rate * net.tick = mul-le-mul_left (drift_of net.rate) (omega (arith, s.recent)) in
    let g = greatest x hx in
    omega (arith, x_least, v_most, splits.clock, gap, g, s.reached.2)

-- so it was slow
pub greatest_is_slow : (net : Net) (last : ℕ) (row reading most : ℕ → ℕ → ℕ) → AreNumbers net → IsHistory net last row reading most → IsEqual net row
    → (t v : ℕ) → t < last → v < net.nodes
    → ((x : ℕ) → x < net.nodes → row (suc t) x ≤ row (suc t) v) → row (suc t) v ≤ row t v + net.rate.hi
greatest_is_slow net last row reading most numbers h equal t v ht hv greatest =
    let grows = history_grows net last row reading most h in
    let s = h.steers t v ht hv in
    let seen = decision_is_seen net last row reading most grows t v ht hv equal s in
    let near = near_maximum net last row reading most grows t v ht hv greatest s in
    let slow : s.mode ≡ Slow = s.decided ∙ slow_near_maximum (iota_of net) s.m (row s.when v) s.sights
    (λ level one. greatest_not_fast net (row (suc t)) v (row s.when v) level s.sights numbers seen greatest one) near in
    (steered net last row reading most h t v ht hv s).slow slow

-- no clock is above g
abbrev pub AreBelow : ℕ → (ℕ → ℕ) → ℕ → Type 0
AreBelow n row g = (u : ℕ) → u < n → row u ≤ g

-- a bound of all clocks grows by at most hi in one quantum
pub top_grows : (net : Net) (last : ℕ) (row reading most : ℕ → ℕ → ℕ) → AreNumbers net → IsHistory net last row reading most → IsEqual net row
    → (t g : ℕ) → t < last
    → AreBelow net.nodes (row t) g → AreBelow net.nodes (row (suc t)) (g + net.rate.hi)
top_grows net last row reading most numbers h equal t g ht below u hu =
    let best = greatest_below net.nodes (row (suc t)) (λ z. 0) numbers.some in
    let greatest : (x : ℕ) → x < net.nodes → row (suc t) x ≤ row (suc t) best.0 = λ x hx. let b = best.2 x hx in omega (arith, b) in
    let grown = greatest_is_slow net last row reading most numbers h equal t best.0 ht best.1 greatest in
    let before = below best.0 best.1 in
    let now = greatest u hu in
    omega (arith, grown, before, now)

-- and in many
pub top_since : (net : Net) (last : ℕ) (row reading most : ℕ → ℕ → ℕ) → AreNumbers net → IsHistory net last row reading most → IsEqual net row
    → (t g k : ℕ) → t + k ≤ last
    → AreBelow net.nodes (row t) g → AreBelow net.nodes (row (t + k)) (g + net.rate.hi * k)
top_since net last row reading most numbers h equal t g zero inside below u hu =
    let b = below u hu in
    let e : t + 0 ≡ t = omega arith in
    rw e (omega (arith, b))
top_since net last row reading most numbers h equal t g (suc k) inside below u hu =
    let e : t + suc k ≡ suc (t + k) = omega arith in
    let p : net.rate.hi * suc k ≡ net.rate.hi * k + net.rate.hi = omega arith in
    let before = top_since net last row reading most numbers h equal t g k (omega arith) below in
    let now = top_grows net last row reading most numbers h equal (t + k) (g + net.rate.hi * k) (omega arith) before u hu in
    rw e (omega (arith, now, p))

-- ---- the lag of a maximum

-- at t the maximum of v tells of the clock of w as it was some time ago, over so many hops
pub record TellsOf (net : Net) (row most : ℕ → ℕ → ℕ) (hops t v w : ℕ) : Type 0 where
  pub from : ℕ
  pub before : from ≤ t
  pub tells : Tells net.rate (hops * net.age) (hops * net.widest) (row from w) (t - from) (most t v)

-- one hop more
pub told_step : (net : Net) (row most : ℕ → ℕ → ℕ) (t v x w hops : ℕ) → spread_of net v x ≤ net.widest → (one : Hears net most t v x)
    → TellsOf net row most hops one.sent x w → TellsOf net row most (suc hops) t v w
told_step net row most t v x w hops widest one rest =
    let since : one.sent - rest.from + (t - one.sent) ≡ t - rest.from = omega (arith, one.before, rest.before) in
    let ages : hops * net.age + net.age ≡ suc hops * net.age = omega arith in
    let slacks : hops * net.widest + net.widest ≡ suc hops * net.widest = omega arith in
    record {
      from = rest.from;
      before = omega (arith, one.before, rest.before);
      tells = rw (← since, ← ages, ← slacks) (hops_tell net.rate (hops * net.age) (hops * net.widest) net.age net.widest
          (row rest.from w) (one.sent - rest.from) (most one.sent x) (t - one.sent) (most t v)
          rest.tells (record { recent = omega (arith, one.recent); crept = omega (arith, one.value, widest) }));
    }

-- from equal clocks each neighbour's maximum is told of, by a beacon or by the start
pub equal_hears : (net : Net) (last : ℕ) (row reading most : ℕ → ℕ → ℕ) → IsHistory net last row reading most → IsEqual net row → (t v x : ℕ)
    → t ≤ last → v < net.nodes → x < net.nodes → Adjacent net v x → Hears net most t v x
equal_hears net last row reading most h equal t v x ht hv hx next = elim (h.hears t v x ht hv hx next) [
  | inl told ↦ told
  | inr early ↦
      let first = h.first x hx in
      let same = equal v x hv hx in
      let since = h.since t v ht hv in
      let e : t - 0 ≡ t = omega arith in
      record { sent = 0; before = omega arith; recent = omega (arith, early); value = rw e (omega (arith, first, same, since)) }
]

-- so the maximum tells of the clock at the end of each walk
pub told_by_walk : (net : Net) (last : ℕ) (row reading most : ℕ → ℕ → ℕ) → AreNumbers net → IsHistory net last row reading most → IsEqual net row
    → (t v w : ℕ) (xs : List ℕ) → t ≤ last → v < net.nodes
    → IsWalk (Adjacent net) net.nodes v xs w → TellsOf net row most (length xs) t v w
told_by_walk net last row reading most numbers h equal t v w [] ht hv walk =
    let own = h.above t v ht hv in
    let none : g_of net.rate * (t - t) ≡ 0 = let e : t - t ≡ 0 = omega arith in rw e (omega arith) in
    let tells : TellsOf net row most 0 t v v = record { from = t; before = omega arith; tells = record { recent = omega arith; crept = omega (arith, own, none) } } in
    subst (λ (z : ℕ). TellsOf net row most 0 t v z) walk tells
told_by_walk net last row reading most numbers h equal t v w (x ∷ xs) ht hv walk =
    let one = equal_hears net last row reading most h equal t v x ht hv walk.1 walk.0 in
    told_step net row most t v x w (length xs) (numbers.widest v x walk.0) one
    (told_by_walk net last row reading most numbers h equal one.sent x w xs (omega (arith, one.before, ht)) walk.1 walk.2)

-- A maximum lags behind each clock by at most lambda.
pub lag : (net : Net) (last : ℕ) (row reading most : ℕ → ℕ → ℕ) → AreNumbers net → IsHistory net last row reading most → IsEqual net row → (t v w : ℕ)
    → t ≤ last → v < net.nodes → w < net.nodes
    → row t w ≤ most t v + lambda_of net
lag net last row reading most numbers h equal t v w ht hv hw =
    let grows = history_grows net last row reading most h in
    let span : ℕ = net.diameter * net.age in
    let start : ℕ = t - span in
    let best = greatest_below net.nodes (row start) (λ z. 0) numbers.some in
    let u : ℕ = best.0 in
    let below : AreBelow net.nodes (row start) (row start u) = λ x hx. let b = best.2 x hx in omega (arith, b) in
    let walk = numbers.diameter v u hv best.1 in
    let told = told_by_walk net last row reading most numbers h equal t v u walk.0 ht hv walk.1 in
    let ages : length walk.0 * net.age ≤ span = mul-le-mul_right net.age walk.2 in
    let slacks : length walk.0 * net.widest ≤ net.diameter * net.widest = mul-le-mul_right net.widest walk.2 in
    let late : start ≤ told.from = omega (arith, told.tells.recent, ages, told.before) in
    let since = row_since_least net last row reading grows u start told.from best.1 late (omega (arith, told.before, ht)) in
    let later : Tells net.rate span (net.diameter * net.widest) (row told.from u) (t - told.from) (most t v) =
    record { recent = omega (arith, told.tells.recent, ages); crept = omega (arith, told.tells.crept, slacks) } in
    let split : t - told.from + (told.from - start) ≡ t - start = omega (arith, late, told.before) in
    let earlier = rw split at (earlier_is_told net.rate span (net.diameter * net.widest) (row told.from u) (t - told.from) (most t v)
    (row start u) (told.from - start) later since (omega (arith, split))) in
    let e : start + (t - start) ≡ t = omega arith in
    let grown : row t w ≤ row start u + net.rate.hi * (t - start) =
    rw e at (top_since net last row reading most numbers h equal start (row start u) (t - start) (omega (arith, ht)) below w hw) in
    let behind = lag_per_hop net.rate net.diameter net.age net.widest (row start u) (t - start) (most t v)
    (row start u) 0 (row t w - row start u) earlier (omega arith) (omega (arith, grown)) in
    omega (arith, behind)

-- ---- the global skew

-- the least clock does not fall back further, or was near the greatest when it decided
least_keeps : (net : Net) (last : ℕ) (row reading most : ℕ → ℕ → ℕ) → AreNumbers net → IsHistory net last row reading most → IsEqual net row
    → (t u w : ℕ) → t < last → u < net.nodes → w < net.nodes
    → ((x : ℕ) → x < net.nodes → row (suc t) u ≤ row (suc t) x) → AreBelow net.nodes (row t) (row t u + skew_of net)
    → row (suc t) w ≤ row (suc t) u + skew_of net
least_keeps net last row reading most numbers h equal t u w ht hu hw least below =
    let grows = history_grows net last row reading most h in
    let s = h.steers t u ht hu in
    let seen = decision_is_seen net last row reading most grows t u ht hu equal s in
    elim (cases_lt (s.m - row s.when u) (iota_of net)) [
      | inl near ↦
          let k : ℕ = suc t - s.when in
          let le : s.when ≤ suc t = omega (arith, s.before) in
          let lags : AreBelow net.nodes (row s.when) (s.m + lambda_of net) =
          λ x hx. let l = lag net last row reading most numbers h equal s.when u x (omega (arith, s.before, ht)) hu hx in omega (arith, l, s.told) in
          let e : s.when + k ≡ suc t = omega (arith, le) in
          let top : row (suc t) w ≤ s.m + lambda_of net + net.rate.hi * k =
          rw e at (top_since net last row reading most numbers h equal s.when (s.m + lambda_of net) k (omega (arith, e, ht)) lags w hw) in
          let own = row_since_least net last row reading grows u s.when (suc t) hu le ht in
          let splits = growth-splits net.rate k in
          let gap : r_of net.rate * k ≤ r_of net.rate * net.tick = mul-le-mul_left (r_of net.rate) (omega (arith, s.recent)) in
          omega (arith, top, own, splits.reading, gap, near)
      | inr far ↦
          let fast : s.mode ≡ Fast = s.decided ∙ fast_far_behind (iota_of net) s.m (row s.when u) s.sights
          (λ level one. least_not_slow net (row (suc t)) u (row s.when u) level s.sights numbers seen least one) far in
          let grown = (steered net last row reading most h t u ht hu s).fast fast in
          let top = top_grows net last row reading most numbers h equal t (row t u + skew_of net) ht below w hw in
          let strong = numbers.strong in
          omega (arith, grown, top, strong, net.rate.accepted.above)
    ]

-- All clocks stay within the bound of level 0, at the end of each quantum.
pub global_skew : (net : Net) (last : ℕ) (row reading most : ℕ → ℕ → ℕ) → AreNumbers net → IsHistory net last row reading most → IsEqual net row
    → (t v w : ℕ) → t ≤ last → v < net.nodes → w < net.nodes
    → row t w ≤ row t v + skew_of net
global_skew net last row reading most numbers h equal zero v w ht hv hw = let e = equal w v hw hv in omega (arith, e)
global_skew net last row reading most numbers h equal (suc t) v w ht hv hw =
    let best = greatest_below net.nodes (λ z. 0) (row (suc t)) numbers.some in
    let u : ℕ = best.0 in
    let least : (x : ℕ) → x < net.nodes → row (suc t) u ≤ row (suc t) x = λ x hx. let b = best.2 x hx in omega (arith, b) in
    let now = least_keeps net last row reading most numbers h equal t u w ht best.1 hw least
    (λ x hx. global_skew net last row reading most numbers h equal t u x (omega (arith, ht)) best.1 hx) in
    let l = least v hv in
    omega (arith, now, l)
