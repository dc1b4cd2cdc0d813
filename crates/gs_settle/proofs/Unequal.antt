-- The laws that hold from whatever clocks the nodes started.
use Rattle.std.proofs.Common.{◌≡◌, ℕ, zero, suc, ◌+◌, ◌-◌, ◌*◌, ◌<◌, ◌≤◌, ◌⊎◌, inl, inr, arith, ap, sym, ◌∙◌, pos, ◌≤ℤ◌, ◌-ℤ◌, List, [], ◌∷◌, length, slice_index_or, subst}
use Rattle.std.proofs.Math.Nat.{mul-le-mul_left, mul-le-mul_right}
use Rattle.std.proofs.lemmas.Bool.{cases_lt}
use Rattle.gs_units.specs.Rates.{steer_of, g_of, q_of, r_of}
use Rattle.gs_units.specs.declared.rate.Mode.{Mode}
use Rattle.gs_units.specs.declared.rate.Mode.TheVariants.{Slow, Fast}
use Rattle.gs_units.specs.declared.rate.Rate.{Rate}
use Rattle.gs_units.proofs.Growing.{scaled-least}
use Rattle.gs_topo.specs.Walks.{IsWalk}
use Rattle.gs_estimate.proofs.Closeness.{growth-splits}
use Rattle.gs_maximum.specs.Lag.{Tells}
use Rattle.gs_maximum.proofs.Telling.{earlier_is_told, lag_per_hop}
use Rattle.gs_trigger.specs.Triggers.{Sight, FastAt}
use Rattle.gs_trigger.proofs.Apart.{not_fast_in_front}
use Rattle.gs_steer.proofs.Deciding.{fast_far_behind, slow_near_maximum}
use Rattle.gs_skew.proofs.Extremes.{greatest_below}
use Rattle.gs_run.specs.Accepted.{AreNumbers}
use Rattle.gs_run.specs.Net.{Net, Adjacent, neighbours, neighbour, link_of, delta_of, iota_of, lambda_of, skew_of}
use Rattle.gs_run.proofs.Conditions.{least_not_slow, sights_are_seen, not_ahead}
use Rattle.gs_run.proofs.Estimates.{beacon_is_close, within_budget}
use Rattle.gs_run.proofs.Greatest.{AreBelow, TellsOf, near_maximum, told_step}
use Rattle.gs_run.proofs.History.{Estimates, IsHistory, Steers}
use Rattle.gs_run.proofs.Places.{neighbour_is_next, neighbour_is_node}
use Rattle.gs_run.proofs.Rows.{row_since_least}
use Rattle.gs_run.proofs.Steered.{history_grows, reading_since, steered}

-- ---- an entry of the start gives no offset above 0

-- a clock grows at least as far as its hardware clock
steer_covers : (rate : Rate) (mode : Mode) (x h : ℕ) → steer_of rate mode x + h ≤ steer_of rate mode (x + h)
steer_covers rate Slow x h = omega arith
steer_covers rate Fast x h =
    let least = scaled-least x h 0 rate.mu 1000000 (omega arith) (omega arith) in
    omega (arith, least)

covers_one : (net : Net) (last : ℕ) (row reading most : ℕ → ℕ → ℕ) → IsHistory net last row reading most → (t v : ℕ) → t < last → v < net.nodes
    → row t v + reading (suc t) v ≤ row (suc t) v + reading t v
covers_one net last row reading most h t v ht hv =
    let s = h.steers t v ht hv in
    let r = h.readings t v ht hv in
    let at = reading_since net last row reading most h v s.when t hv s.before (omega arith) in
    let e : reading (suc t) v - reading s.when v ≡ reading t v - reading s.when v + r.0 = let a = r.2 in omega (arith, a, at) in
    let more : steer_of net.rate s.mode (reading t v - reading s.when v) + r.0 ≤ steer_of net.rate s.mode (reading (suc t) v - reading s.when v) =
    rw e (steer_covers net.rate s.mode (reading t v - reading s.when v) r.0) in
    let from = s.from in
    let to = s.to in
    let next = r.2 in
    omega (arith, more, from, to, next)

pub covers : (net : Net) (last : ℕ) (row reading most : ℕ → ℕ → ℕ) → IsHistory net last row reading most → (t v : ℕ) → t ≤ last → v < net.nodes
    → row 0 v + reading t v ≤ row t v + reading 0 v
covers net last row reading most h zero v ht hv = omega arith
covers net last row reading most h (suc t) v ht hv =
    let before = covers net last row reading most h t v (omega (arith, ht)) hv in
    let now = covers_one net last row reading most h t v ht hv in
    omega (arith, before, now)

-- what the greatest node of later saw of a neighbour was not far ahead
seen_low : (net : Net) (last : ℕ) (row reading most : ℕ → ℕ → ℕ) → IsHistory net last row reading most → (t v x estimate : ℕ)
    → t < last → v < net.nodes → x < net.nodes
    → row (suc t) x ≤ row (suc t) v → (s : Steers net row reading most t v) → Estimates net row reading v x s.when estimate
    → estimate ≤ row s.when v + delta_of net v x
seen_low net last row reading most h t v x estimate ht hv hx greatest s e = elim e.from [
  | inl beacon ↦
      let grows = history_grows net last row reading most h in
      let close = beacon_is_close net last row reading v x s.when estimate grows hv hx (omega (arith, s.before, ht)) e beacon in
      let within = (within_budget net last row reading v x s.when t estimate grows hv hx ht s.before s.recent close).most in
      omega (arith, within, greatest)
  | inr start ↦
      let c = covers net last row reading most h s.when v (omega (arith, s.before, ht)) hv in
      let is = e.is in
      let zero_reading : reading e.heard v ≡ reading 0 v = ap (λ (z : ℕ). reading z v) start.2 in
      let order = reading_since net last row reading most h v 0 s.when hv (omega arith) (omega (arith, s.before, ht)) in
      let value = start.0 in
      omega (arith, c, is, value, zero_reading, order)
]

-- this estimate of each neighbour was seen, and is not far ahead
abbrev AreLow : Net → ℕ → ℕ → List Sight → Type 0
AreLow net v l sights = (i : ℕ) (d : Sight) → i < length (neighbours net v) → (e : ℕ)
    × (slice_index_or sights i d ≡ (link_of net v (neighbour net v i), pos e -ℤ pos l))
    × (e ≤ l + delta_of net v (neighbour net v i))

low_not_fast : (net : Net) (v l s : ℕ) (sights : List Sight) → AreNumbers net → length sights ≡ length (neighbours net v)
    → AreLow net v l sights → 1 ≤ s → ¬ FastAt sights s
low_not_fast net v l s sights numbers count each one =
    let P : Sight → Type 0 = λ x. 2 * x.0.delta < x.0.kappa in
    let Q : Sight → Type 0 = λ y. y.1 ≤ℤ pos y.0.delta in
    not_fast_in_front sights s
    (λ i d hi.
    let place : i < length (neighbours net v) = rw count at hi in
    let seen = each i d place in
    subst P (sym seen.1) (numbers.margin v (neighbour net v i) (neighbour_is_next net v i place)))
    one
    (λ i d hi.
    let place : i < length (neighbours net v) = rw count at hi in
    let seen = each i d place in
    subst Q (sym seen.1) (not_ahead (delta_of net v (neighbour net v i)) seen.0 l seen.2))

-- ---- the greatest clock grows by at most hi, from any start

pub greatest_is_slow_each : (net : Net) (last : ℕ) (row reading most : ℕ → ℕ → ℕ) → AreNumbers net → IsHistory net last row reading most
    → (t v : ℕ) → t < last → v < net.nodes
    → ((x : ℕ) → x < net.nodes → row (suc t) x ≤ row (suc t) v) → row (suc t) v ≤ row t v + net.rate.hi
greatest_is_slow_each net last row reading most numbers h t v ht hv greatest =
    let grows = history_grows net last row reading most h in
    let s = h.steers t v ht hv in
    let near = near_maximum net last row reading most grows t v ht hv greatest s in
    let low : AreLow net v (row s.when v) s.sights = λ i d hi.
    let sees = s.sees i d hi in
    let x : ℕ = neighbour net v i in
    let hx = neighbour_is_node net v i hi in
    (sees.estimate, sees.is, seen_low net last row reading most h t v x sees.estimate ht hv hx (greatest x hx) s sees.told) in
    let slow : s.mode ≡ Slow = s.decided ∙ slow_near_maximum (iota_of net) s.m (row s.when v) s.sights
    (λ level one. low_not_fast net v (row s.when v) level s.sights numbers s.count low one) near in
    (steered net last row reading most h t v ht hv s).slow slow

pub top_grows_each : (net : Net) (last : ℕ) (row reading most : ℕ → ℕ → ℕ) → AreNumbers net → IsHistory net last row reading most → (t g : ℕ) → t < last
    → AreBelow net.nodes (row t) g → AreBelow net.nodes (row (suc t)) (g + net.rate.hi)
top_grows_each net last row reading most numbers h t g ht below u hu =
    let best = greatest_below net.nodes (row (suc t)) (λ z. 0) numbers.some in
    let greatest : (x : ℕ) → x < net.nodes → row (suc t) x ≤ row (suc t) best.0 = λ x hx. let b = best.2 x hx in omega (arith, b) in
    let grown = greatest_is_slow_each net last row reading most numbers h t best.0 ht best.1 greatest in
    let before = below best.0 best.1 in
    let now = greatest u hu in
    omega (arith, grown, before, now)

pub top_since_each : (net : Net) (last : ℕ) (row reading most : ℕ → ℕ → ℕ) → AreNumbers net → IsHistory net last row reading most → (t g k : ℕ)
    → t + k ≤ last → AreBelow net.nodes (row t) g → AreBelow net.nodes (row (t + k)) (g + net.rate.hi * k)
top_since_each net last row reading most numbers h t g zero inside below u hu =
    let b = below u hu in
    let e : t + 0 ≡ t = omega arith in
    rw e (omega (arith, b))
top_since_each net last row reading most numbers h t g (suc k) inside below u hu =
    let e : t + suc k ≡ suc (t + k) = omega arith in
    let p : net.rate.hi * suc k ≡ net.rate.hi * k + net.rate.hi = omega arith in
    let before = top_since_each net last row reading most numbers h t g k (omega arith) below in
    let now = top_grows_each net last row reading most numbers h (t + k) (g + net.rate.hi * k) (omega arith) before u hu in
    rw e (omega (arith, now, p))

-- ---- the lag, once every walk stays inside the run

told_late : (net : Net) (last : ℕ) (row reading most : ℕ → ℕ → ℕ) → AreNumbers net → IsHistory net last row reading most
    → (t v w : ℕ) (xs : List ℕ) → t ≤ last → v < net.nodes
    → length xs * net.age < t ⊎ (xs ≡ []) → IsWalk (Adjacent net) net.nodes v xs w → TellsOf net row most (length xs) t v w
told_late net last row reading most numbers h t v w [] ht hv late walk =
    let own = h.above t v ht hv in
    let none : g_of net.rate * (t - t) ≡ 0 = let e : t - t ≡ 0 = omega arith in rw e (omega arith) in
    let tells : TellsOf net row most 0 t v v = record { from = t; before = omega arith; tells = record { recent = omega arith; crept = omega (arith, own, none) } } in
    subst (λ (z : ℕ). TellsOf net row most 0 t v z) walk tells
told_late net last row reading most numbers h t v w (x ∷ xs) ht hv late walk =
    let more : length (x ∷ xs) * net.age ≡ net.age + length xs * net.age = omega arith in
    let past : net.age + length xs * net.age < t = elim late [
      | inl far ↦ omega (arith, far, more)
      | inr none ↦ absurd (cc)
    ] in
    elim (h.hears t v x ht hv walk.1 walk.0) [
      | inl one ↦
          told_step net row most t v x w (length xs) (numbers.widest v x walk.0) one
          (told_late net last row reading most numbers h one.sent x w xs (omega (arith, one.before, ht)) walk.1 (inl (let r = one.recent in omega (arith, r, past))) walk.2)
      | inr early ↦ absurd (omega (arith, early, past))
    ]

-- After D*A quanta a maximum lags by at most lambda, from any start.
pub lag_late : (net : Net) (last : ℕ) (row reading most : ℕ → ℕ → ℕ) → AreNumbers net → IsHistory net last row reading most → (t v w : ℕ)
    → t ≤ last → net.diameter * net.age < t → v < net.nodes → w < net.nodes → row t w ≤ most t v + lambda_of net
lag_late net last row reading most numbers h t v w ht past hv hw =
    let grows = history_grows net last row reading most h in
    let span : ℕ = net.diameter * net.age in
    let start : ℕ = t - span in
    let best = greatest_below net.nodes (row start) (λ z. 0) numbers.some in
    let u : ℕ = best.0 in
    let below : AreBelow net.nodes (row start) (row start u) = λ x hx. let b = best.2 x hx in omega (arith, b) in
    let walk = numbers.diameter v u hv best.1 in
    let ages : length walk.0 * net.age ≤ span = mul-le-mul_right net.age walk.2 in
    let slacks : length walk.0 * net.widest ≤ net.diameter * net.widest = mul-le-mul_right net.widest walk.2 in
    let told = told_late net last row reading most numbers h t v u walk.0 ht hv (inl (omega (arith, ages, past))) walk.1 in
    let late : start ≤ told.from = omega (arith, told.tells.recent, ages, told.before) in
    let since = row_since_least net last row reading grows u start told.from best.1 late (omega (arith, told.before, ht)) in
    let later : Tells net.rate span (net.diameter * net.widest) (row told.from u) (t - told.from) (most t v) =
    record { recent = omega (arith, told.tells.recent, ages); crept = omega (arith, told.tells.crept, slacks) } in
    let split : t - told.from + (told.from - start) ≡ t - start = omega (arith, late, told.before) in
    let earlier = rw split at (earlier_is_told net.rate span (net.diameter * net.widest) (row told.from u) (t - told.from) (most t v)
    (row start u) (told.from - start) later since (omega (arith, split))) in
    let e : start + (t - start) ≡ t = omega arith in
    let grown : row t w ≤ row start u + net.rate.hi * (t - start) =
    rw e at (top_since_each net last row reading most numbers h start (row start u) (t - start) (omega (arith, ht)) below w hw) in
    let behind = lag_per_hop net.rate net.diameter net.age net.widest (row start u) (t - start) (most t v)
    (row start u) 0 (row t w - row start u) earlier (omega arith) (omega (arith, grown)) in
    omega (arith, behind)

-- ---- the skew falls

-- Once decisions are late enough, the least clock gains q - r on the greatest in a quantum, or the skew is within its bound.
pub skew_falls : (net : Net) (last : ℕ) (row reading most : ℕ → ℕ → ℕ) → AreNumbers net → IsHistory net last row reading most → (t g : ℕ)
    → t < last → net.diameter * net.age + net.tick ≤ t → net.age + net.tick ≤ t
    → ((v w : ℕ) → v < net.nodes → w < net.nodes → row t w ≤ row t v + g) → skew_of net ≤ g
    → (v w : ℕ) → v < net.nodes → w < net.nodes
    → (row (suc t) w + (q_of net.rate - r_of net.rate) ≤ row (suc t) v + g) ⊎ (row (suc t) w ≤ row (suc t) v + skew_of net)
skew_falls net last row reading most numbers h t g ht late aged within high v w hv hw =
    let grows = history_grows net last row reading most h in
    let best = greatest_below net.nodes (λ z. 0) (row (suc t)) numbers.some in
    let u : ℕ = best.0 in
    let hu : u < net.nodes = best.1 in
    let least : (x : ℕ) → x < net.nodes → row (suc t) u ≤ row (suc t) x = λ x hx. let b = best.2 x hx in omega (arith, b) in
    let s = h.steers t u ht hu in
    let recent = s.recent in
    let own = least v hv in
    let seen = sights_are_seen net last row reading grows t u s.when s.sights ht hu (λ early x hx. absurd (omega (arith, early, aged, recent))) s.before s.recent s.count s.sees in
    elim (cases_lt (s.m - row s.when u) (iota_of net)) [
      | inr far ↦
          let fast : s.mode ≡ Fast = s.decided ∙ fast_far_behind (iota_of net) s.m (row s.when u) s.sights
          (λ level one. least_not_slow net (row (suc t)) u (row s.when u) level s.sights numbers seen least one) far in
          let grown = (steered net last row reading most h t u ht hu s).fast fast in
          let top = top_grows_each net last row reading most numbers h t (row t u + g) ht (λ x hx. within u x hu hx) w hw in
          let strong = numbers.strong in
          inl (omega (arith, grown, top, strong, net.rate.accepted.above, own))
      | inl near ↦
          let k : ℕ = suc t - s.when in
          let le : s.when ≤ suc t = omega (arith, s.before) in
          let lags : AreBelow net.nodes (row s.when) (s.m + lambda_of net) =
          λ x hx. let l = lag_late net last row reading most numbers h s.when u x (omega (arith, s.before, ht)) (omega (arith, late, recent)) hu hx in omega (arith, l, s.told) in
          let e : s.when + k ≡ suc t = omega (arith, le) in
          let top : row (suc t) w ≤ s.m + lambda_of net + net.rate.hi * k =
          rw e at (top_since_each net last row reading most numbers h s.when (s.m + lambda_of net) k (omega (arith, e, ht)) lags w hw) in
          let own_grown = row_since_least net last row reading grows u s.when (suc t) hu le ht in
          let splits = growth-splits net.rate k in
          let gap : r_of net.rate * k ≤ r_of net.rate * net.tick = mul-le-mul_left (r_of net.rate) (omega (arith, recent)) in
          inr (omega (arith, top, own_grown, splits.reading, gap, near, own))
    ]
