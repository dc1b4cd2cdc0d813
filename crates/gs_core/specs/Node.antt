-- The rules of a node, over plain data: what it keeps, what that says of clocks, and how an event changes it.
use Rattle.std.specs.Prelude.{ℕ, ◌+◌, ◌-◌, Bool, nat_eq, nat_le, if◌then◌else◌, Option, Some, None, List, map, slice_index_or, slice_set}
use Rattle.std.specs.List.{zip, position}
use Rattle.gs_units.specs.Rates.{steer_of}
use Rattle.gs_units.specs.declared.params.Link.{Link}
use Rattle.gs_units.specs.declared.params.NodeParams.{NodeParams}
use Rattle.gs_units.specs.declared.rate.Mode.{Mode}
use Rattle.gs_units.specs.declared.rate.Mode.TheVariants.{Slow}
use Rattle.gs_units.specs.declared.rate.Rate.{Rate}
use Rattle.gs_beacon.specs.declared.beacon.Beacon.{Beacon}
use Rattle.gs_estimate.specs.Entries.{entry_at, is_fresh, offset_of}
use Rattle.gs_estimate.specs.declared.slots.Entry.{Entry}
use Rattle.gs_maximum.specs.Maximum.{raised_to, maximum_of as value_of}
use Rattle.gs_maximum.specs.declared.maximum.Max.{Max}
use Rattle.gs_steer.specs.Modes.{mode_of}
use Rattle.gs_trigger.specs.Triggers.{Sight}

-- What a node keeps: the base of its clock, which is the clock `l` at the reading `at` in this mode; what it has heard
-- of the greatest clock; an entry for each neighbour; the sequence of its last beacon and the ticks since then; and the
-- greatest reading that it was given.
pub record Node : Type 0 where
  pub l : ℕ
  pub at : ℕ
  pub mode : Mode
  pub max : Max
  pub entries : List Entry
  pub seq : ℕ
  pub ticks : ℕ
  pub last : ℕ

-- rule 3: a node that starts with the clock l0 at the reading hw, and takes all others to start with this clock
abbrev pub started : NodeParams → ℕ → ℕ → Node
started p hw l0 = record {
  l = l0;
  at = hw;
  mode = Slow;
  max = record { base = l0; at = hw };
  entries = map (λ link. record { seq = 0; value = l0; at = hw }) p.links;
  seq = 0;
  ticks = 0;
  last = hw;
}

-- rule 2: the logical clock at a reading
abbrev pub clock_of : Rate → Node → ℕ → ℕ
clock_of rate n now = n.l + steer_of rate n.mode (now - n.at)

-- rule 2: the estimate of the greatest clock at a reading
abbrev pub maximum_of : Rate → Node → ℕ → ℕ
maximum_of rate n now = value_of rate n.max now (clock_of rate n now)

-- what a tick decides by: each link with the offset of its neighbour, and the maximum
pub record Decision : Type 0 where
  pub sights : List Sight
  pub m : ℕ

abbrev pub decision_of : NodeParams → Node → ℕ → Decision
decision_of p n now = record {
  sights = zip p.links (map (offset_of (clock_of p.rate n now) now) n.entries);
  m = maximum_of p.rate n now;
}

-- the mode from a tick on
abbrev pub decided_mode : NodeParams → Node → ℕ → Mode
decided_mode p n now = mode_of p.iota (decision_of p n now).sights (decision_of p n now).m (clock_of p.rate n now)

-- whether the next tick gives a beacon
abbrev pub is_due : NodeParams → Node → Bool
is_due p n = nat_le p.every (n.ticks + 1)

-- the beacon of a tick
abbrev pub beacon_of : NodeParams → Node → ℕ → Option Beacon
beacon_of p n now =
    if is_due p n
    then Some (record {
      cluster = p.cluster;
      sender = p.node;
      seq = n.seq + 1;
      l = clock_of p.rate n now;
      m = maximum_of p.rate n now;
    })
    else None

-- rule 7: the node after a tick, which leaves what was heard of the greatest clock as it is
abbrev pub ticked : NodeParams → Node → ℕ → Node
ticked p n now = record n {
  l = clock_of p.rate n now;
  at = now;
  mode = decided_mode p n now;
  seq = if is_due p n then n.seq + 1 else n.seq;
  ticks = if is_due p n then 0 else n.ticks + 1;
  last = now;
}

-- rule 8: the node after a fresh beacon came over the link at place i
abbrev pub freshened : Rate → Link → Node → ℕ → Beacon → ℕ → Node
freshened rate link n i b now = record n {
  max = raised_to rate n.max (b.m + link.jump) now;
  entries = slice_set n.entries i (record { seq = b.seq; value = b.l + link.comp; at = now });
  last = now;
}

-- rule 8: the node after a beacon came over the link at place i
abbrev pub heard : Rate → Link → Node → ℕ → Beacon → ℕ → Node
heard rate link n i b now =
    if is_fresh (entry_at n.entries i) b.seq then freshened rate link n i b now else record n { last = now }

-- the place of the link to a node, and the link at a place
abbrev pub link_place : NodeParams → ℕ → Option ℕ
link_place p x = position (λ link. nat_eq link.node x) p.links

abbrev pub link_at : NodeParams → ℕ → Link
link_at p i = slice_index_or p.links i (record { node = 0; comp = 0; jump = 0; kappa = 0; delta = 0 })

-- the node after a beacon came over the link at a place, if there is one
abbrev pub delivered_at : NodeParams → Node → Beacon → ℕ → Option ℕ → Node
delivered_at p n b now None = n
delivered_at p n b now (Some i) = heard p.rate (link_at p i) n i b now

-- the node after a beacon came from its sender
abbrev pub delivered : NodeParams → Node → Beacon → ℕ → Node
delivered p n b now = delivered_at p n b now (link_place p b.sender)
