-- The entries of a journal, and whose they are.
use Rattle.std.specs.Prelude.{ℕ, ◌+◌, ◌==◌, Bool, true, false, List, [], ◌∷◌, map, filter, Contains, Option, Some, None, ⊤}
use Rattle.std.specs.List.{list_any}
use Rattle.gs_units.specs.declared.params.NodeParams.{NodeParams}
use Rattle.gs_core.specs.declared.reply.Reply.{Reply}
use Rattle.gs_core.specs.Steps.{Replayed, Whole, Stopped}
use Rattle.gs_core.specs.declared.event.NodeEvent.{NodeEvent}
use Rattle.gs_core.specs.declared.event.NodeEvent.TheVariants.{Tick, Deliver}
use Rattle.gs_core.specs.declared.reply.Reply.TheVariants as reply
use Rattle.gs_core.specs.declared.reply.Ticked.{Ticked}
use Rattle.gs_board.specs.declared.told.Told.{Told}
use Rattle.gs_board.specs.Ledger.{Ledger, replay_of}

-- a tick is an event of the timer's seat, and a delivery one of its sender's
abbrev pub is_of : Option ℕ → NodeEvent → Bool
is_of None (Tick now) = true
is_of None (Deliver now b) = false
is_of (Some x) (Tick now) = false
is_of (Some x) (Deliver now b) = b.sender == x

-- the whole reply of a tick, and none of a delivery
abbrev pub ticked_in : Reply → Option Ticked
ticked_in (reply.Ticked t) = Some t
ticked_in (reply.Heard how) = None

-- events with their places and their replies, where i events went before
abbrev pub told_from : ℕ → List NodeEvent → List Reply → List Told
told_from i [] replies = []
told_from i (e ∷ es) [] = []
told_from i (e ∷ es) (r ∷ rs) = record { place = i; event = e; ticked = ticked_in r } ∷ told_from (i + 1) es rs

-- the replies of a replay
abbrev pub replies_in : Replayed → List Reply
replies_in (Whole n replies) = replies
replies_in (Stopped place fault) = []

-- the entries of a seat: its events of the journal with their places and their replies in the replay, in order
abbrev pub entries_of : Ledger → Option ℕ → List Told
entries_of t whose = filter (λ k. is_of whose k.event) (told_from 0 t.journal (replies_in (replay_of t)))

-- the neighbours of a node
abbrev pub neighbours_of : NodeParams → List ℕ
neighbours_of p = map (λ link. link.node) p.links

-- whether a node has a link to this one
abbrev pub is_neighbour : NodeParams → ℕ → Bool
is_neighbour p x = list_any (λ link. link.node == x) p.links

-- an event is the timer's, or of a neighbour's seat
abbrev pub IsOwned : NodeParams → NodeEvent → Type 0
IsOwned p (Tick now) = ⊤
IsOwned p (Deliver now b) = Contains (neighbours_of p) b.sender
