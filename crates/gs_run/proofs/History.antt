-- What a run leaves behind: for the start and the end of each quantum the clock (row), the hardware reading and the maximum
-- (most) of each node. The laws of the clocks see no more of a run. In these files t is the number of quanta taken.
use Rattle.std.proofs.Common.{◌≡◌, ℕ, suc, ◌+◌, ◌-◌, ◌*◌, ◌<◌, ◌≤◌, ◌⊎◌, pos, ◌-ℤ◌, List, length, slice_index_or}
use Rattle.gs_units.specs.Rates.{steer_of, g_of}
use Rattle.gs_units.specs.Growth.{IsIncrement}
use Rattle.gs_units.specs.declared.rate.Mode.{Mode}
use Rattle.gs_trigger.specs.Triggers.{Sight}
use Rattle.gs_steer.specs.Modes.{mode_of}
use Rattle.gs_run.specs.Net.{Net, Adjacent, neighbours, neighbour, link_of, comp_of, spread_of, iota_of}

-- some clock at t has reached m
abbrev pub IsReached : ℕ → (ℕ → ℕ → ℕ) → ℕ → ℕ → Type 0
IsReached n row t m = (x : ℕ) × (x < n) × (m ≤ row t x)

-- an entry of v for x: what a beacon told, or what v put in at the start
abbrev pub IsFrom : Net → (ℕ → ℕ → ℕ) → ℕ → ℕ → ℕ → ℕ → ℕ → Type 0
IsFrom net row v x sent heard value =
    ((value ≡ row sent x + comp_of net v x) × (sent + net.delay_min v x ≤ heard) × (heard ≤ sent + net.delay_max v x))
    ⊎ ((value ≡ row 0 v) × (sent ≡ 0) × (heard ≡ 0))

-- an estimate that v has of x at t
pub record Estimates (net : Net) (row reading : ℕ → ℕ → ℕ) (v x t estimate : ℕ) : Type 0 where
  pub sent : ℕ
  pub heard : ℕ
  pub value : ℕ
  pub before : sent ≤ heard
  pub until : heard ≤ t
  pub recent : t ≤ sent + net.age
  pub from : IsFrom net row v x sent heard value
  pub is : estimate ≡ value + (reading t v - reading heard v)

-- what v saw of x when it decided at t
pub record Sees (net : Net) (row reading : ℕ → ℕ → ℕ) (v x t : ℕ) (sight : Sight) : Type 0 where
  pub estimate : ℕ
  pub is : sight ≡ (link_of net v x, pos estimate -ℤ pos (row t v))
  pub told : Estimates net row reading v x t estimate

-- the quantum after t uses a decision that v made with this mode, at an earlier time
pub record Steers (net : Net) (row reading most : ℕ → ℕ → ℕ) (t v : ℕ) : Type 0 where
  pub when : ℕ
  pub mode : Mode
  pub sights : List Sight
  pub m : ℕ
  pub before : when ≤ t
  pub recent : t < when + net.tick
  pub decided : mode ≡ mode_of (iota_of net) sights m (row when v)
  pub count : length sights ≡ length (neighbours net v)
  pub sees : (i : ℕ) (d : Sight) → i < length (neighbours net v) → Sees net row reading v (neighbour net v i) when (slice_index_or sights i d)
  pub told : most when v ≤ m
  pub own : row when v ≤ m
  pub reached : IsReached net.nodes row when m
  pub from : row t v ≡ row when v + steer_of net.rate mode (reading t v - reading when v)
  pub to : row (suc t) v ≡ row when v + steer_of net.rate mode (reading (suc t) v - reading when v)

-- the maximum of v at t tells of that of x as it was at most the greatest age ago
pub record Hears (net : Net) (most : ℕ → ℕ → ℕ) (t v x : ℕ) : Type 0 where
  pub sent : ℕ
  pub before : sent ≤ t
  pub recent : t ≤ sent + net.age
  pub value : most sent x + g_of net.rate * (t - sent) ≤ most t v + spread_of net v x

-- What every allowed run leaves behind, from whatever clocks it started.
pub record IsHistory (net : Net) (last : ℕ) (row reading most : ℕ → ℕ → ℕ) : Type 0 where
  pub readings : (t v : ℕ) → t < last → v < net.nodes → (h : ℕ) × IsIncrement net.rate h × (reading (suc t) v ≡ reading t v + h)
  pub steers : (t v : ℕ) → t < last → v < net.nodes → Steers net row reading most t v
  pub first : (v : ℕ) → v < net.nodes → most 0 v ≡ row 0 v
  pub above : (t v : ℕ) → t ≤ last → v < net.nodes → row t v ≤ most t v
  pub since : (t v : ℕ) → t ≤ last → v < net.nodes → row 0 v + g_of net.rate * t ≤ most t v
  pub hears : (t v x : ℕ) → t ≤ last → v < net.nodes → x < net.nodes → Adjacent net v x → Hears net most t v x ⊎ (t ≤ net.age)

-- the clocks were equal at the start
abbrev pub IsEqual : Net → (ℕ → ℕ → ℕ) → Type 0
IsEqual net row = (v w : ℕ) → v < net.nodes → w < net.nodes → row 0 v ≡ row 0 w
