-- The rule of the view.
use Rattle.std.specs.Prelude.{◌≡◌, ℕ, List, if◌then◌else◌, nat_lt, length}
use mathlib.Core.Option.{some}
use lib.ListN.{get_elem?}
use Rattle.gs_view.specs.Lists.{StartsWith, Rises}
use Rattle.gs_view.specs.Telling.{Shows}
use Rattle.gs_view.specs.declared.snaps.Snap.{Snap}
use Rattle.gs_view.specs.declared.shown.Shown.{Shown}

-- there is one list of snaps that were published, whose places never fall: what is shown is of it, and what the
-- publisher, a reader or a note knows is a beginning of it
pub record Keeps (shown : Shown) (known : List (List Snap)) : Type 0 where
  pub snaps : List Snap
  pub shows : Shows shown snaps
  pub rises : Rises 0 snaps
  pub begins : (seat : ℕ) (xs : List Snap) → get_elem? known seat ≡ some xs → StartsWith snaps xs

-- what is known after a step begins with what was known before, and what is then shown is of it
abbrev pub Sees : List Snap → Shown → Shown → List Snap → Type 0
Sees before old new after = StartsWith after before × Shows new after

-- the longer of the two lists
abbrev pub longer : List Snap → List Snap → List Snap
longer known note = if nat_lt (length known) (length note) then note else known
