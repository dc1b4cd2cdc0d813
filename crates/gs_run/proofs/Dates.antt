-- Where everything that a member holds dates from.
use Rattle.std.proofs.Common.{◌≡◌, ℕ, ◌+◌, ◌-◌, ◌*◌, ◌<◌, ◌≤◌, ◌⊎◌, inl, inr, arith, List, length, slice_index, slice_index_or, All}
use Rattle.std.proofs.lemmas.Bool.{cases_lt}
use Rattle.gs_units.specs.Rates.{g_of}
use Rattle.gs_estimate.specs.Entries.{entry_at}
use Rattle.gs_maximum.specs.Maximum.{heard_of}
use Rattle.gs_maximum.specs.declared.maximum.Max.{Max}
use Rattle.gs_maximum.proofs.Creeping.{creep_stays_behind}
use Rattle.gs_trigger.specs.Triggers.{Sight}
use Rattle.gs_steer.specs.Modes.{mode_of}
use Rattle.gs_core.specs.Node.{Decision, clock_of, maximum_of}
use Rattle.gs_run.specs.Net.{Net, neighbour, neighbours, iota_of, spread_of}
use Rattle.gs_run.specs.World.{World, Member, Sent}
use Rattle.gs_run.proofs.History.{IsReached, IsFrom, Sees}
use Rattle.gs_run.proofs.Rows.{Grows, reading_since_most, row_since_least}
use Rattle.gs_run.proofs.Current.{row_of, reading_of, most_of, IsCurrent}

-- ---- what each part of a member dates from

-- the entry of the neighbour at place i: when its beacon was sent and heard, or that it is the start's
pub record IsEntry (net : Net) (total : List World) (t v i : ℕ) (m : Member) : Type 0 where
  pub heard : ℕ
  pub before : slice_index m.heard i ≤ heard
  pub until : heard ≤ t
  pub recent : t ≤ slice_index m.heard i + net.age
  pub from : IsFrom net (row_of net total) v (neighbour net v i) (slice_index m.heard i) heard (entry_at m.node.entries i).value
  pub at : (entry_at m.node.entries i).at ≡ reading_of total heard v

-- a beacon that was sent: the clock and a maximum of its quantum
pub record IsSent (net : Net) (total : List World) (t v : ℕ) (s : Sent) : Type 0 where
  pub cluster : s.beacon.cluster ≡ net.cluster
  pub sender : s.beacon.sender ≡ v
  pub before : s.quantum ≤ t
  pub l : s.beacon.l ≡ row_of net total s.quantum v
  pub most : most_of net total s.quantum v ≤ s.beacon.m
  pub reached : IsReached net.nodes (row_of net total) s.quantum s.beacon.m

-- the beacons that were sent are numbered from 1 on, and the own sequence is the last number
pub record AreNumbered (seq : ℕ) (sent : List Sent) : Type 0 where
  pub count : seq ≡ length sent
  pub each : (k : ℕ) (d : Sent) → k < length sent → (slice_index_or sent k d).beacon.seq ≡ k + 1

-- the maximum base: some clock had reached it when it was set
pub record IsBase (net : Net) (total : List World) (t v : ℕ) (max : Max) : Type 0 where
  pub set : ℕ
  pub before : set ≤ t
  pub at : max.at ≡ reading_of total set v
  pub reached : IsReached net.nodes (row_of net total) set max.base

-- the last decision: what v saw at its last tick, and the mode that it took
pub record IsDecided (net : Net) (total : List World) (t v : ℕ) (m : Member) (d : Decision) : Type 0 where
  pub before : m.ticked_at ≤ t
  pub l : m.node.l ≡ row_of net total m.ticked_at v
  pub at : m.node.at ≡ reading_of total m.ticked_at v
  pub mode : m.node.mode ≡ mode_of (iota_of net) d.sights d.m m.node.l
  pub count : length d.sights ≡ length (neighbours net v)
  pub sees : (i : ℕ) (z : Sight) → i < length (neighbours net v)
      → Sees net (row_of net total) (reading_of total) v (neighbour net v i) m.ticked_at (slice_index_or d.sights i z)
  pub told : most_of net total m.ticked_at v ≤ d.m
  pub own : row_of net total m.ticked_at v ≤ d.m
  pub reached : IsReached net.nodes (row_of net total) m.ticked_at d.m

-- what v has heard tells of the maximum that x had when its newest beacon was sent, unless that is the start's
abbrev pub IsToldOf : Net → List World → ℕ → ℕ → ℕ → ℕ → ℕ → Type 0
IsToldOf net total t v x sent heard =
    (most_of net total sent x + g_of net.rate * (t - sent) ≤ heard + spread_of net v x) ⊎ (sent ≡ 0)

-- Where everything that a member holds dates from.
pub record IsDated (net : Net) (total : List World) (t v : ℕ) (m : Member) (d : Decision) : Type 0 where
  pub current : IsCurrent net total t v m
  pub last : m.node.last ≤ m.reading
  pub decided : IsDecided net total t v m d
  pub entries : length m.node.entries ≡ length (neighbours net v)
  pub heard : length m.heard ≡ length (neighbours net v)
  pub entry : (i : ℕ) → i < length (neighbours net v) → IsEntry net total t v i m
  pub base : IsBase net total t v m.node.max
  pub since : row_of net total 0 v + g_of net.rate * t ≤ heard_of net.rate m.node.max m.reading
  pub hears : (i : ℕ) → i < length (neighbours net v)
      → IsToldOf net total t v (neighbour net v i) (slice_index m.heard i) (heard_of net.rate m.node.max m.reading)
  pub sent : All (IsSent net total t v) m.sent
  pub numbered : AreNumbered m.node.seq m.sent

-- ---- never ahead: some clock has reached what a node knows of the greatest

pub base_reached : (net : Net) (total : List World) (last : ℕ) → Grows net last (row_of net total) (reading_of total)
    → (t v : ℕ) (m : Member) → t ≤ last → v < net.nodes
    → IsCurrent net total t v m → IsBase net total t v m.node.max
    → IsReached net.nodes (row_of net total) t (heard_of net.rate m.node.max m.reading)
base_reached net total last grows t v m ht hv c b =
    let x : ℕ = b.reached.0 in
    let hx : x < net.nodes = b.reached.1 in
    let clock = row_since_least net last (row_of net total) (reading_of total) grows x b.set t hx b.before ht in
    let grown = reading_since_most net last (row_of net total) (reading_of total) grows v b.set t hv b.before ht in
    let reading = c.reading in
    let at = b.at in
    let passed : m.reading ≤ m.node.max.at + net.rate.hi * (t - b.set) = omega (arith, reading, at, grown) in
    let behind = creep_stays_behind net.rate m.node.max m.reading (t - b.set) (row_of net total b.set x)
    (net.rate.lo * (t - b.set)) b.reached.2 passed (omega arith) in
    (x, hx, omega (arith, behind, clock))

pub maximum_reached : (net : Net) (total : List World) (last : ℕ)
    → Grows net last (row_of net total) (reading_of total) → (t v : ℕ) (m : Member) → t ≤ last → v < net.nodes
    → IsCurrent net total t v m → IsBase net total t v m.node.max
    → IsReached net.nodes (row_of net total) t (maximum_of net.rate m.node m.reading)
maximum_reached net total last grows t v m ht hv c b =
    let heard = base_reached net total last grows t v m ht hv c b in
    let h : ℕ = heard_of net.rate m.node.max m.reading in
    let k : ℕ = clock_of net.rate m.node m.reading in
    elim (cases_lt k h) [
      | inr own ↦ (v, hv, let e = c.clock in omega (arith, own, e))
      | inl more ↦ (heard.0, heard.1, let l = heard.2 in omega (arith, more, l))
    ]
