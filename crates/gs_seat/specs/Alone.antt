-- One node's part of a world, alone: what it keeps, and what a quantum does to it.
use Rattle.std.specs.Prelude.{◌≡◌, ◌<◌, ◌≤◌, ◌^◌, ℕ, Bool, List, [], ◌∷◌, Some, None, length, if◌then◌else◌}
use Rattle.std.specs.List.{AllByRecursion}
use Rattle.gs_units.specs.declared.params.NodeParams.{NodeParams}
use Rattle.gs_core.specs.Node.{ticked, link_place}
use Rattle.gs_core.specs.Steps.{deliver_fault, tick_fault}
use Rattle.gs_run.specs.Net.{Net, place_of}
use Rattle.gs_run.specs.World.{World, Member, advanced, heard_member, sent_by}
use Rattle.gs_seat.specs.Letters.{Letter}

-- A node's part of a world without the list of all that it sent, at which none of its rules looks.
abbrev pub alone : Member → Member
alone m = record m { sent = [] }

-- after some beacons, in turn
abbrev pub hears : NodeParams → List Letter → Member → Member
hears p [] m = m
hears p (b ∷ bs) m = hears p bs (heard_member p b.place b.sent m)

-- after a tick in quantum t, if one comes
abbrev pub ticks_alone : NodeParams → ℕ → Bool → Member → Member
ticks_alone p t ticking m = if ticking then record m { node = ticked p m.node m.reading; ticked_at = t } else m

-- after quantum t, in which the hardware clock adds inc and these beacons come
abbrev pub quantum_alone : NodeParams → ℕ → ℕ → Bool → List Letter → Member → Member
quantum_alone p t inc ticking bs m = ticks_alone p t ticking (hears p bs (advanced m inc))

-- a letter to v is what the world finds by its sender and its sequence
pub record Carries (net : Net) (w : World) (v : ℕ) (b : Letter) : Type 0 where
  pub place : place_of net v b.sent.beacon.sender ≡ Some b.place
  pub sent : sent_by w b.sent.beacon.sender b.sent.beacon.seq ≡ Some b.sent

-- so is each of these
abbrev pub AreCarried : Net → World → ℕ → List Letter → Type 0
AreCarried net w v bs = AllByRecursion (Carries net w v) bs

-- the node has no fault as it hears this letter
pub record IsHearable (p : NodeParams) (b : Letter) (m : Member) : Type 0 where
  pub link : link_place p b.sent.beacon.sender ≡ Some b.place
  pub fault : deliver_fault p m.node b.sent.beacon m.reading ≡ None
  pub heard : b.place < length m.heard

-- nor as it hears these in turn
abbrev pub CanHear : NodeParams → List Letter → Member → Type 0
CanHear p [] m = Unit {0}
CanHear p (b ∷ bs) m = IsHearable p b m × CanHear p bs (heard_member p b.place b.sent m)

-- nor as it ticks
abbrev pub CanTick : NodeParams → Member → Type 0
CanTick p m = tick_fault p m.node m.reading ≡ None

-- its clock can be read
pub record CanRead (m : Member) : Type 0 where
  pub last : m.node.last ≤ m.reading
  pub few : m.reading < 2 ^ 62
