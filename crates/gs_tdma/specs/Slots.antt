-- Slot plans: which node may send at which clock.
use Rattle.std.specs.Prelude.{◌≡◌, ◌≢◌, ℕ, zero, suc, ◌+◌, ◌*◌, ◌%◌, ◌<◌, ◌≤◌, ◌&&◌, Bool, true, false, List, map, max, fold, length, nat_le, nat_lt, slice_index, if◌then◌else◌}
use Rattle.std.specs.List.{range_with_len}
use Rattle.gs_topo.specs.Graph.{Graph}
use Rattle.gs_topo.specs.Walks.{distance_of}
use Rattle.gs_plan.specs.Plans.{graph_of}
use Rattle.gs_plan.specs.declared.plan.Plan.{Plan}
use Rattle.gs_script.specs.Script.{Said}
use Rattle.gs_run.specs.Nets.{net_of}
use Rattle.gs_rows.specs.Row.{Row, clock_at, rows_of_script, zeros_of}
use Rattle.gs_tdma.specs.Near.{guard_in}

-- what contracts see of a slot plan: its reach in steps, a slot and the guard at each end of it in clock units, and the
-- colour of each node
pub record Slots : Type 0 where
  pub reach : ℕ
  pub slot : ℕ
  pub guard : ℕ
  pub colours : List ℕ

-- the number of colours: the greatest and 1
abbrev pub count_of : List ℕ → ℕ
count_of colours = fold max 0 colours + 1

abbrev pub colour_of : Slots → ℕ → ℕ
colour_of s v = slice_index s.colours v

-- a period has a slot for each colour
abbrev pub period_of : Slots → ℕ
period_of s = count_of s.colours * s.slot

-- this clock is in the slot of this colour, and in no guard of it
abbrev pub sends_in : ℕ → ℕ → ℕ → ℕ → ℕ → Bool
sends_in period slot guard colour clock =
    nat_le (colour * slot + guard) (clock % period)
    && nat_lt (clock % period + guard) ((colour + 1) * slot)

-- v may send at this clock
abbrev pub sends : Slots → ℕ → ℕ → Bool
sends s v clock = sends_in (period_of s) s.slot s.guard (colour_of s v) clock

-- at is the first clock from `clock` on that passes the test
pub record IsFirst (test : ℕ → Bool) (clock at : ℕ) : Type 0 where
  pub later : clock ≤ at
  pub passes : test at ≡ true
  pub before : (c : ℕ) → clock ≤ c → c < at → test c ≡ false

-- The colours of the first n nodes: the colour of each is the least number that no node below it within reach has.
pub record AreColours (g : Graph) (reach : ℕ) (colours : List ℕ) (n : ℕ) : Type 0 where
  pub count : length colours ≡ n
  pub other : (u v : ℕ) → u < v → v < n → distance_of g u v ≤ reach → slice_index colours u ≢ slice_index colours v
  pub least : (v c : ℕ) → v < n → c < slice_index colours v
      → (u : ℕ) × (u < v) × (distance_of g u v ≤ reach) × (slice_index colours u ≡ c)

-- A slot plan of a plan.
pub record AreSlots (p : Plan) (s : Slots) : Type 0 where
  pub guard : s.guard ≡ guard_in p s.reach
  pub room : 2 * s.guard < s.slot
  pub colours : AreColours (graph_of p) s.reach s.colours (graph_of p).nodes

-- in how many of the quanta 1 to t a node may send at the end
abbrev pub sent_upto : Slots → List Row → ℕ → ℕ → ℕ
sent_upto s rows v zero = 0
sent_upto s rows v (suc t) = sent_upto s rows v t + (if sends s v (clock_at rows (suc t) v) then 1 else 0)

-- for each node, in how many quanta of a script it may send at the end
abbrev pub sent_of : Plan → Said → Slots → List ℕ
sent_of p said s =
    map (λ v. sent_upto s (rows_of_script p said (zeros_of (net_of p))) v said.quanta) (range_with_len 0 (graph_of p).nodes)
