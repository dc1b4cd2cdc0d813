-- What an object of the outside holds, where it tells it.
use Rattle.std.specs.Prelude.{◌≡◌, ℕ, ◌+◌, List, [], ◌∷◌, ◌++◌, take, Option, Some, None, ⊤, if◌then◌else◌}
use Rattle.std.specs.List.{count_by}
use Rattle.std.specs.Str.{bytes_eq}
use Rattle.gs_io.specs.Causes.{counted, is_to_fail}

-- what is held, where it is told, has this at its end
abbrev pub Appends : Option (List ℕ) → Option (List ℕ) → List ℕ → Type 0
Appends None new added = ⊤
Appends (Some held) new added = new ≡ Some (held ++ added)

-- what is held, where it is told, has some front of this at its end
abbrev pub AppendsFront : Option (List ℕ) → Option (List ℕ) → List ℕ → Type 0
AppendsFront old new added = (n : ℕ) × Appends old new (take n added)

-- what the first file of this name holds, of files that are names with bytes
abbrev pub first_named : List (List ℕ × List ℕ) → List ℕ → Option (List ℕ)
first_named [] name = None
first_named (file ∷ files) name = if bytes_eq file.0 name then Some file.1 else first_named files name

-- files in memory: names with bytes, the numbers of the reads that are to fail, how many there were, the names of those
-- that failed, and how many of these found no memory for their name
pub record Shelf : Type 0 where
  pub files : List (List ℕ × List ℕ)
  pub fails : List ℕ
  pub calls : ℕ
  pub failed : List (List ℕ)
  pub unrecorded : ℕ

-- how often the reading of this name has failed; a failure without a name counts for every name
abbrev pub failures : Shelf → List ℕ → ℕ
failures shelf name = count_by (bytes_eq name) shelf.failed + shelf.unrecorded

-- what the read of this number finds under this name
abbrev pub found : Shelf → ℕ → List ℕ → Option (List ℕ)
found shelf call name = if is_to_fail shelf.fails call then None else first_named shelf.files name

-- after a read that did not fail
abbrev pub after_read : Shelf → Shelf
after_read shelf = record shelf { calls = counted shelf.calls }

-- with one more failure of this name
abbrev pub with_failure : Shelf → List ℕ → Shelf
with_failure shelf name = record shelf { failed = shelf.failed ++ name ∷ [] }

-- with one more failure whose name found no memory
abbrev pub with_unrecorded : Shelf → Shelf
with_unrecorded shelf = record shelf { unrecorded = counted shelf.unrecorded }

-- after a read of this name that failed
abbrev pub after_failed_read : Shelf → List ℕ → Shelf
after_failed_read shelf name = with_failure (after_read shelf) name

-- after a read that failed and whose name found no memory
abbrev pub after_unrecorded_read : Shelf → Shelf
after_unrecorded_read shelf = with_unrecorded (after_read shelf)

-- a sink in memory: what it holds, the numbers of the writes that are to fail, how many there were, and how many failed
pub record Written : Type 0 where
  pub bytes : List ℕ
  pub fails : List ℕ
  pub calls : ℕ
  pub faults : ℕ

-- after a write that kept its piece
abbrev pub after_write : Written → List ℕ → Written
after_write sink piece = record sink { bytes = sink.bytes ++ piece; calls = counted sink.calls }

-- after a write that failed, of which nothing is kept
abbrev pub after_failed_write : Written → Written
after_failed_write sink = record sink { calls = counted sink.calls; faults = counted sink.faults }
