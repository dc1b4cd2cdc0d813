-- What the timer of a node publishes.
use Rattle.std.specs.Prelude.{ℕ, List, ◌∷◌, Option, Some, None}
use Rattle.std.specs.List.{filter_map}
use Rattle.gs_units.specs.declared.rate.Mode.TheVariants.{Slow}
use Rattle.gs_core.specs.declared.reply.Ticked.{Ticked}
use Rattle.gs_trace.specs.declared.start.NodeStart.{NodeStart}
use Rattle.gs_board.specs.Faults.{reading_of}
use Rattle.gs_board.specs.declared.told.Told.{Told}
use Rattle.gs_view.specs.declared.snaps.Snap.{Snap}

-- the snap of a board's start
abbrev pub first_snap : NodeStart → Snap
first_snap begun = record { place = 0; l = begun.l0; at = begun.hw; mode = Slow }

-- the snap of a tick with this place, reading and reply
abbrev pub snap_by : ℕ → ℕ → Ticked → Snap
snap_by place hw reply = record { place = place; l = reply.l; at = hw; mode = reply.mode }

abbrev pub snap_where : ℕ → ℕ → Option Ticked → Option Snap
snap_where place hw None = None
snap_where place hw (Some reply) = Some (snap_by place hw reply)

-- the snap of an entry, where it is a tick
abbrev pub snap_of : Told → Option Snap
snap_of k = snap_where k.place (reading_of k.event) k.ticked

-- all snaps: the start's, and then that of each tick
abbrev pub snaps_of : NodeStart → List Told → List Snap
snaps_of begun entries = first_snap begun ∷ filter_map snap_of entries
