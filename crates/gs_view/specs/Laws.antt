-- What is known after a note, where one of the two lists begins with the other.
use Rattle.std.specs.Prelude.{◌≡◌, List}
use Rattle.gs_view.specs.Lists.{StartsWith, joined}
use Rattle.gs_view.specs.declared.snaps.Snap.{Snap}

-- a note of which all was known changes nothing
abbrev pub NoteIsOfWhatIsKnown : Type 0
NoteIsOfWhatIsKnown = (note known : List Snap) → StartsWith known note → joined note known ≡ known

-- after a note with all that was known, it is the note's
abbrev pub KnownIsOfTheNote : Type 0
KnownIsOfTheNote = (note known : List Snap) → StartsWith note known → joined note known ≡ note
