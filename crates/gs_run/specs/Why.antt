-- Why an event is not allowed: the first refusal, in the order of the public call.
use Rattle.std.specs.Prelude.{ℕ, ◌+◌, ◌^◌, List, [], ◌∷◌, length, Bool, ◌==◌, ◌||◌, ◌&&◌, not, Option, Some, None, is_some, nat_lt, nat_le, position, slice_index}
use Rattle.std.specs.Bool.{then_some}
use Rattle.gs_units.specs.FirstFault.{first_some}
use Rattle.gs_core.specs.declared.event.Event.{Event}
use Rattle.gs_core.specs.declared.event.Event.TheVariants.{Quantum, Tick, Deliver}
use Rattle.gs_run.specs.Net.{Net, place_of, neighbours}
use Rattle.gs_run.specs.World.{World, Member, Sent, member, sent_by, is_newer}
use Rattle.gs_run.specs.declared.refused.Refused.{Refused}
use Rattle.gs_run.specs.declared.refused.Refused.TheVariants.{Shape, End, Drift, TickDue, Stale, Unknown, Early, Late}

-- the least node at which something is wrong
abbrev pub at_node : (ℕ → Refused) → Option ℕ → Option Refused
at_node what None = None
at_node what (Some v) = Some (what v)

-- an increment is out of its bounds
abbrev pub drifts : Net → ℕ → Bool
drifts net h = nat_lt h net.rate.lo || nat_lt net.rate.hi h

-- a node's last tick is as old as it may get
abbrev pub is_due_at : Net → ℕ → Member → Bool
is_due_at net quanta m = nat_le (m.ticked_at + net.tick) quanta

-- what was heard last over a link is as old as it may get
abbrev pub is_stale : Net → ℕ → ℕ → Bool
is_stale net quanta sent = nat_le (sent + net.age) quanta

-- the first place whose beacon is too old
abbrev pub stale_place : Net → ℕ → Member → Option ℕ
stale_place net quanta m = position (is_stale net quanta) m.heard

-- the neighbour at that place
abbrev pub stale_at : Net → ℕ → Option ℕ → Option Refused
stale_at net v None = None
stale_at net v (Some i) = Some (Stale (slice_index (neighbours net v) i) v)

-- the same at the receiver, if there is one
abbrev pub stale_of : Net → World → Option ℕ → Option Refused
stale_of net w None = None
stale_of net w (Some v) = stale_at net v (stale_place net w.quanta (member w v))

-- rule 10
abbrev pub why_quantum : Net → World → List ℕ → Option Refused
why_quantum net w incs = first_some (
    then_some (not (length incs == net.nodes)) Shape
    ∷ then_some (nat_le (2 ^ 24) w.quanta) End
    ∷ at_node Drift (position (drifts net) incs)
    ∷ at_node TickDue (position (is_due_at net w.quanta) w.members)
    ∷ stale_of net w (position (λ m. is_some (stale_place net w.quanta m)) w.members)
    ∷ [])

-- rule 12: a beacon that is newer than what was heard has to be of the right age
abbrev pub why_sent : Net → World → ℕ → ℕ → ℕ → Option Sent → Option Refused
why_sent net w from to i None = Some Unknown
why_sent net w from to i (Some s) = first_some (
    then_some (is_newer (member w to) i s && nat_lt w.quanta (s.quantum + net.delay_min to from)) Early
    ∷ then_some (is_newer (member w to) i s && nat_lt (s.quantum + net.delay_max to from) w.quanta) Late
    ∷ [])

abbrev pub why_deliver : Net → World → ℕ → ℕ → ℕ → Option ℕ → Option Refused
why_deliver net w from to seq None = Some Shape
why_deliver net w from to seq (Some i) = why_sent net w from to i (sent_by w from seq)

-- The first thing that does not allow an event, running out of memory aside.
abbrev pub why : Net → World → Event → Option Refused
why net w (Quantum incs) = why_quantum net w incs
why net w (Tick v) = then_some (nat_le net.nodes v) Shape
why net w (Deliver from to seq) =
    first_some (then_some (nat_le net.nodes to) Shape ∷ why_deliver net w from to seq (place_of net to from) ∷ [])
