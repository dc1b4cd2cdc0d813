-- What ticks and hearing do to a member: ticks alone count and number beacons, hearing alone changes what was heard.
use Rattle.std.proofs.Common.{◌≡◌, ◌≢◌, ℕ, ◌+◌, ◌<◌, ap, refl, ◌∙◌, List, [], ◌∷◌, length, map, Option, Some, None, Bool, true, false, slice_index, slice_set, if◌then◌else◌, length-set, get_or-set_same, get_or-set_other, not}
use Rattle.gs_units.specs.declared.params.NodeParams.{NodeParams}
use Rattle.gs_beacon.specs.declared.beacon.Beacon.{Beacon}
use Rattle.gs_estimate.specs.Entries.{entry_at, is_fresh}
use Rattle.gs_estimate.specs.declared.slots.Entry.{Entry}
use Rattle.gs_core.specs.Node.{Node, delivered_at, freshened, link_at, link_place}
use Rattle.gs_run.specs.World.{Member, Sent, heard_member, is_newer}
use Rattle.gs_calendar.specs.Calendar.{Newest, newer}

-- ---- hearing

-- what hearing leaves as it is
pub record IsQuiet (m n : Member) : Type 0 where
  pub reading : n.reading ≡ m.reading
  pub last : n.ticked_at ≡ m.ticked_at
  pub sent : n.sent ≡ m.sent
  pub count : n.node.ticks ≡ m.node.ticks
  pub seq : n.node.seq ≡ m.node.seq
  pub places : length n.heard ≡ length m.heard
  pub entries : length n.node.entries ≡ length m.node.entries

pub same_is_quiet : (m : Member) → IsQuiet m m
same_is_quiet m = record { reading = refl; last = refl; sent = refl; count = refl; seq = refl; places = refl; entries = refl }

pub quiet_then : (a b c : Member) → IsQuiet a b → IsQuiet b c → IsQuiet a c
quiet_then a b c h k = record {
  reading = k.reading ∙ h.reading;
  last = k.last ∙ h.last;
  sent = k.sent ∙ h.sent;
  count = k.count ∙ h.count;
  seq = k.seq ∙ h.seq;
  places = k.places ∙ h.places;
  entries = k.entries ∙ h.entries;
}

-- a node that hears
record KeepsTurn (a b : Node) : Type 0 where
  count : b.ticks ≡ a.ticks
  seq : b.seq ≡ a.seq
  entries : length b.entries ≡ length a.entries

delivered_keeps : (p : NodeParams) (n : Node) (b : Beacon) (now : ℕ) (o : Option ℕ) → KeepsTurn n (delivered_at p n b now o)
delivered_keeps p n b now None = record { count = refl; seq = refl; entries = refl }
delivered_keeps p n b now (Some i) = pick (is_fresh (entry_at n.entries i) b.seq) where
  pick : (fresh : Bool) → KeepsTurn n (if fresh then freshened p.rate (link_at p i) n i b now else record n { last = now })
  pick true = record { count = refl; seq = refl; entries = length-set n.entries i _ }
  pick false = record { count = refl; seq = refl; entries = refl }

heard_length : (b : Bool) (heard : List ℕ) (i q : ℕ) → length (if b then slice_set heard i q else heard) ≡ length heard
heard_length true heard i q = length-set heard i q
heard_length false heard i q = refl

pub hear_is_quiet : (p : NodeParams) (i : ℕ) (s : Sent) (m : Member) → IsQuiet m (heard_member p i s m)
hear_is_quiet p i s m =
    let k = delivered_keeps p m.node s.beacon m.reading (link_place p s.beacon.sender) in
    record {
      reading = refl;
      last = refl;
      sent = refl;
      count = k.count;
      seq = k.seq;
      places = heard_length (is_newer m i s) m.heard i s.quantum;
      entries = k.entries;
    }

-- ---- what was heard over the link at a place

abbrev pub newest_in : Member → ℕ → Newest
newest_in m i = record { quantum = slice_index m.heard i; seq = (entry_at m.node.entries i).seq }

-- a member that has heard over the link at a place, where the beacon's sender has that place
heard_by : (p : NodeParams) (i : ℕ) (s : Sent) (m : Member) → Bool → Member
heard_by p i s m fresh = record m {
  node = if fresh then freshened p.rate (link_at p i) m.node i s.beacon m.reading else record m.node { last = m.reading };
  heard = if fresh then slice_set m.heard i s.quantum else m.heard;
}

heard_is : (p : NodeParams) (i : ℕ) (s : Sent) (m : Member) → link_place p s.beacon.sender ≡ Some i → heard_member p i s m ≡ heard_by p i s m (is_newer m i s)
unfolding heard_by
heard_is p i s m place = rw place refl

pub same_newest : (a b : Newest) → a.quantum ≡ b.quantum → a.seq ≡ b.seq → a ≡ b
same_newest a b quantum seq = λ i. record { quantum = quantum i; seq = seq i }

own_by : (p : NodeParams) (i : ℕ) (s : Sent) (m : Member) (fresh : Bool) → i < length m.heard → i < length m.node.entries
    → newest_in (heard_by p i s m fresh) i ≡ (if fresh then record { quantum = s.quantum; seq = s.beacon.seq } else newest_in m i)
unfolding heard_by
own_by p i s m false place entry = refl
own_by p i s m true place entry =
    let new : Entry = record { seq = s.beacon.seq; value = s.beacon.l + (link_at p i).comp; at = m.reading } in
    same_newest _ _ (get_or-set_same m.heard i s.quantum 0 place) (ap (λ (e : Entry). e.seq) (get_or-set_same m.node.entries i new (record { seq = 0; value = 0; at = 0 }) entry))

-- over the beacon's own link the newest is kept
pub hears_newer : (p : NodeParams) (i : ℕ) (s : Sent) (m : Member) → link_place p s.beacon.sender ≡ Some i → i < length m.heard → i < length m.node.entries
    → newest_in (heard_member p i s m) i ≡ newer (newest_in m i) s.quantum s.beacon.seq
hears_newer p i s m place inside entry = ap (λ (n : Member). newest_in n i) (heard_is p i s m place) ∙ own_by p i s m (is_newer m i s) inside entry

other_by : (p : NodeParams) (i j : ℕ) (s : Sent) (m : Member) (fresh : Bool) → j ≢ i → newest_in (heard_by p i s m fresh) j ≡ newest_in m j
unfolding heard_by
other_by p i j s m false other = refl
other_by p i j s m true other =
    let new : Entry = record { seq = s.beacon.seq; value = s.beacon.l + (link_at p i).comp; at = m.reading } in
    same_newest _ _ (get_or-set_other m.heard i j s.quantum 0 other) (ap (λ (e : Entry). e.seq) (get_or-set_other m.node.entries i j new (record { seq = 0; value = 0; at = 0 }) other))

-- and over no other link does anything change
pub hears_elsewhere : (p : NodeParams) (i j : ℕ) (s : Sent) (m : Member) → link_place p s.beacon.sender ≡ Some i → j ≢ i → newest_in (heard_member p i s m) j ≡ newest_in m j
hears_elsewhere p i j s m place other = ap (λ (n : Member). newest_in n j) (heard_is p i s m place) ∙ other_by p i j s m (is_newer m i s) other
