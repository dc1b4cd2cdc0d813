-- What is told of a list of snaps.
use Rattle.std.specs.Prelude.{◌≡◌, ◌<◌, List, length, Option, Some, None}
use Rattle.gs_view.specs.Lists.{last_in}
use Rattle.gs_view.specs.declared.snaps.Snap.{Snap}
use Rattle.gs_view.specs.declared.shown.Shown.{Shown}

-- how many the snaps are, and which is the last
abbrev pub Shows : Shown → List Snap → Type 0
Shows shown snaps = (length snaps ≡ shown.count) × (last_in snaps ≡ shown.last)

-- a note, if there is one, has fewer snaps
abbrev pub IsBelow : Option (List Snap) → List Snap → Type 0
IsBelow None known = Unit {0}
IsBelow (Some note) known = length note < length known
