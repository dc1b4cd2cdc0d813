-- What the code keeps of a node, for private functions and the view of a world alone. A member is one of the model,
-- `World.Member`; the code's `Member` is a seat here and in proofs, and imported as `Seat`.
use Rattle.std.specs.Prelude.{◌≡◌, ℕ, ◌+◌, ◌<◌, ◌≤◌, ◌^◌, Bool, false, if◌then◌else◌, List, length, map, slice_index, slice_index_or}
use Rattle.std.specs.List.{zip}
use Rattle.gs_core.specs.Node.{clock_of}
use Rattle.gs_world.specs.inside.Delays.{delay_of}
use Rattle.gs_run.specs.Fast.{is_fast}
use Rattle.gs_run.specs.Net.{Net, params_of, neighbours}
use Rattle.gs_run.specs.World.{Member}
use Rattle.gs_world.specs.declared.member.Member.{Member as Seat}

-- the member that a seat stands for
abbrev pub member_of : Seat → Member
member_of s = record {
  reading = s.reading;
  node = s.core.node;
  ticked_at = s.ticked_at;
  sent = s.sent.items;
  heard = s.heard.items;
}

-- a seat is told what the net says of node v
pub record IsMember (net : Net) (v : ℕ) (s : Seat) : Type 0 where
  pub told : s.core.params ≡ params_of net v
  pub delays : s.delays.items ≡ map (delay_of net v) (neighbours net v)

-- a seat is told what another is told
pub record IsToldAs (old new : Seat) : Type 0 where
  pub told : new.core.params ≡ old.core.params
  pub delays : new.delays.items ≡ old.delays.items

-- one quantum of a seat whose hardware clock adds h, and of all seats
abbrev pub advanced_seat : Seat → ℕ → Seat
advanced_seat s h = record s { reading = s.reading + h }

abbrev pub advance_members : List Seat → List ℕ → List Seat
advance_members seats incs = map (λ p. advanced_seat p.0 p.1) (zip seats incs)

-- each number with its increment
abbrev pub sums : List ℕ → List ℕ → List ℕ
sums xs incs = map (λ p. p.0 + p.1) (zip xs incs)

-- the clock at a seat
abbrev pub clock_at : Seat → ℕ
clock_at s = clock_of s.core.params.rate s.core.node s.reading

-- the node was given no later reading, and it is far from the end
abbrev pub IsReadable : Seat → Type 0
IsReadable s = (s.core.node.last ≤ s.reading) × (s.reading < 2 ^ 62)

-- these are clocks, each at the place of its node, and right for all nodes in the slow mode
pub record AreSlowClocks (seats : List Seat) (clocks : List ℕ) : Type 0 where
  pub places : length clocks ≡ length seats
  pub slow : (k : ℕ) (d : Seat) → k < length seats → is_fast (slice_index_or seats k d).core.node.mode ≡ false
      → slice_index clocks k ≡ clock_at (slice_index_or seats k d)

-- 1 for a fast node, 0 for a slow one
abbrev pub fast_one : Bool → ℕ
fast_one b = if b then 1 else 0
