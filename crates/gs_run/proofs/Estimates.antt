-- How close an estimate is to the true clock, when it is made and while a decision goes by it.
use Rattle.std.proofs.Common.{◌≡◌, ℕ, suc, ◌+◌, ◌-◌, ◌*◌, ◌<◌, ◌≤◌, inl, inr, arith, ap, sym}
use Rattle.gs_units.specs.Rates.{drift_of}
use Rattle.gs_estimate.specs.EdgeError.{IsClose}
use Rattle.gs_estimate.proofs.Closeness as closeness
use Rattle.gs_run.specs.Net.{Net, spread_of, comp_of, delta_of}
use Rattle.gs_run.proofs.History.{Estimates}
use Rattle.gs_run.proofs.Rows.{Grows, reading_growth, row_growth, row_reached}

-- an estimate that v has of x is as close to this clock as the drift over the greatest age and the spread of their edge allow
abbrev pub IsCloseOver : Net → ℕ → ℕ → ℕ → ℕ → Type 0
IsCloseOver net v x estimate clock = IsClose (drift_of net.rate * net.age) (spread_of net v x) estimate clock

-- an estimate that a beacon gave
pub beacon_is_close : (net : Net) (last : ℕ) (row reading : ℕ → ℕ → ℕ) (v x t estimate : ℕ) → Grows net last row reading
    → v < net.nodes → x < net.nodes → t ≤ last → (e : Estimates net row reading v x t estimate)
    → (e.value ≡ row e.sent x + comp_of net v x) × (e.sent + net.delay_min v x ≤ e.heard) × (e.heard ≤ e.sent + net.delay_max v x)
    → IsCloseOver net v x estimate (row t x)
beacon_is_close net last row reading v x t estimate grows hv hx inside e beacon =
    let way : ℕ = e.heard - e.sent in
    let kept : ℕ = t - e.heard in
    let from_sent : e.sent ≤ t = omega (arith, e.before, e.until) in
    let total : way + kept ≡ t - e.sent = omega (arith, e.before, e.until) in
    let read = reading_growth net last row reading grows v e.heard t hv e.until inside in
    let grown = row_growth net last row reading grows x e.sent t hx from_sent inside in
    let since : row e.sent x + (row t x - row e.sent x) ≡ row t x = omega (arith, row_reached net last row reading grows x e.sent t hx from_sent inside) in
    rw (e.is, ← since) (closeness.beacon_is_close net.rate (net.delay_min v x) (net.delay_max v x) way kept net.age (row e.sent x) (row t x - row e.sent x)
    (record { seq = 0; value = e.value; at = reading e.heard v }) (reading t v)
    (omega (arith, beacon.1), omega (arith, beacon.2)) (omega (arith, total, e.recent)) beacon.0 read (rw total grown))

-- one that the start gave, where the clocks were equal
start_is_close : (net : Net) (last : ℕ) (row reading : ℕ → ℕ → ℕ) (v x t estimate : ℕ) → Grows net last row reading
    → v < net.nodes → x < net.nodes → t ≤ last → (t ≤ net.age → row 0 v ≡ row 0 x) → (e : Estimates net row reading v x t estimate)
    → (e.value ≡ row 0 v) × (e.sent ≡ 0) × (e.heard ≡ 0) → IsCloseOver net v x estimate (row t x)
start_is_close net last row reading v x t estimate grows hv hx inside fair e start =
    let kept : ℕ = t - e.heard in
    let from_sent : e.sent ≤ t = omega (arith, e.before, e.until) in
    let total : kept ≡ t - e.sent = omega (arith, start.1, start.2) in
    let early : t ≤ net.age = let r = e.recent in omega (arith, r, start.1) in
    let first : row 0 x ≡ row e.sent x = ap (λ (z : ℕ). row z x) (sym start.1) in
    let value : e.value ≡ row e.sent x = let a = start.0 in let b = fair early in omega (arith, a, b, first) in
    let read = reading_growth net last row reading grows v e.heard t hv e.until inside in
    let grown = row_growth net last row reading grows x e.sent t hx from_sent inside in
    let since : row e.sent x + (row t x - row e.sent x) ≡ row t x = omega (arith, row_reached net last row reading grows x e.sent t hx from_sent inside) in
    rw (e.is, ← since) (closeness.start_is_close net.rate (spread_of net v x) kept net.age (row e.sent x) (row t x - row e.sent x)
    (record { seq = 0; value = e.value; at = reading e.heard v }) (reading t v)
    (omega (arith, total, e.recent)) value read (rw total grown))

-- An estimate against the clock at the same time. An entry of the start is good for equal clocks.
pub estimate_is_close : (net : Net) (last : ℕ) (row reading : ℕ → ℕ → ℕ) (v x t estimate : ℕ) → Grows net last row reading
    → v < net.nodes → x < net.nodes → t ≤ last → (t ≤ net.age → row 0 v ≡ row 0 x) → Estimates net row reading v x t estimate
    → IsCloseOver net v x estimate (row t x)
estimate_is_close net last row reading v x t estimate grows hv hx inside fair e = elim e.from [
  | inl beacon ↦ beacon_is_close net last row reading v x t estimate grows hv hx inside e beacon
  | inr start ↦ start_is_close net last row reading v x t estimate grows hv hx inside fair e start
]

-- the difference of an estimate and the own clock l then is within delta of that of the two clocks now
pub record IsWithin (delta l estimate own other : ℕ) : Type 0 where
  pub most : estimate + own ≤ l + other + delta
  pub least : other + l ≤ estimate + own + delta

-- what v decided by at a time less than the greatest gap of ticks ago, against the clocks of now
pub within_budget : (net : Net) (last : ℕ) (row reading : ℕ → ℕ → ℕ) (v x when t estimate : ℕ) → Grows net last row reading
    → v < net.nodes → x < net.nodes → t < last → when ≤ t → t < when + net.tick → IsCloseOver net v x estimate (row when x)
    → IsWithin (delta_of net v x) (row when v) estimate (row (suc t) v) (row (suc t) x)
within_budget net last row reading v x when t estimate grows hv hx inside before recent close =
    let le : when ≤ suc t = omega arith in
    let own = row_growth net last row reading grows v when (suc t) hv le inside in
    let other = row_growth net last row reading grows x when (suc t) hx le inside in
    let own_reached = row_reached net last row reading grows v when (suc t) hv le inside in
    let other_reached = row_reached net last row reading grows x when (suc t) hx le inside in
    let stays = closeness.offset_stays_close net.rate (spread_of net v x) net.age net.tick (suc t - when) estimate (row when x)
    (row (suc t) v - row when v) (row (suc t) x - row when x) close (omega (arith, recent)) own other in
    record {
      most = omega (arith, stays.most, own_reached, other_reached);
      least = omega (arith, stays.least, own_reached, other_reached);
    }
