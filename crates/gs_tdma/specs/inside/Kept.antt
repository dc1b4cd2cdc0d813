-- How a slot plan is kept: for its private functions alone.
use Rattle.std.specs.Prelude.{◌≡◌, ℕ, ◌+◌, ◌*◌, ◌^◌, ◌<◌, ◌≤◌, ◌≢◌, List, length, slice_index, if◌then◌else◌}
use Rattle.gs_topo.specs.Graph.{Graph}
use Rattle.gs_topo.specs.Walks.{distance_of}
use Rattle.gs_rows.specs.Row.{Row}
use Rattle.gs_tdma.specs.Slots.{Slots, count_of, sends, sent_upto}

-- all products of a clock's slot fit
pub record AreKept (slot guard count : ℕ) (colours : List ℕ) : Type 0 where
  pub room : 2 * guard < slot
  pub short : slot < 2 ^ 48
  pub number : count ≡ count_of colours
  pub few : count ≤ 2 ^ 10

-- no colour is above the number of its node
abbrev pub AreLow : List ℕ → Type 0
AreLow colours = (v : ℕ) → v < length colours → slice_index colours v ≤ v

-- a node below v within reach has this colour
abbrev pub IsTaken : Graph → ℕ → List ℕ → ℕ → ℕ → Type 0
IsTaken g reach colours v colour =
    (u : ℕ) × (u < v) × (distance_of g u v ≤ reach) × (slice_index colours u ≡ colour)

-- none has
abbrev pub IsFree : Graph → ℕ → List ℕ → ℕ → ℕ → Type 0
IsFree g reach colours v colour = (u : ℕ) → u < v → distance_of g u v ≤ reach → slice_index colours u ≢ colour

-- a quantum that ends with this clock of node v counts where v may send then
abbrev pub with_clock : Slots → ℕ → ℕ → ℕ → ℕ
with_clock s v clock sent = sent + (if sends s v clock then 1 else 0)

-- a quantum more, that ends with these clocks
abbrev pub AreCounted : Slots → List ℕ → List ℕ → List ℕ → Type 0
AreCounted s clocks old new =
    (v : ℕ) → v < length old → slice_index new v ≡ with_clock s v (slice_index clocks v) (slice_index old v)

-- what is counted for the first n nodes by the end of quantum t
pub record AreSent (s : Slots) (rows : List Row) (n t : ℕ) (sent : List ℕ) : Type 0 where
  pub count : length sent ≡ n
  pub each : (v : ℕ) → v < n → slice_index sent v ≡ sent_upto s rows v t
