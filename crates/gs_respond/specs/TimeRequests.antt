-- What a time request is, and what its answer is.
use Rattle.std.specs.Prelude.{◌≡◌, ℕ, codes, ◌++◌, ◌==◌, ◌≤◌, not, List, length, Option, Some, None, if◌then◌else◌}
use Rattle.byteorder.specs.Endian.{big_bytes, big_number}
use Rattle.gs_beacon.specs.Numbers.{number_at}
use Rattle.gs_view.specs.Answers.{answer_at}
use Rattle.gs_view.specs.Lists.{StartsWith}
use Rattle.gs_view.specs.Passes.{Pass}

-- the number that "GCSQ" spells
abbrev pub request_magic : ℕ
request_magic = big_number 4 (codes "GCSQ")

-- the number that "GCSA" spells
abbrev pub answer_magic : ℕ
answer_magic = big_number 4 (codes "GCSA")

-- the 16 bytes of a request with a number of the asker's choice
unfoldable pub request_bytes : ℕ → List ℕ
request_bytes id = big_bytes 4 request_magic ++ (big_bytes 4 0 ++ big_bytes 8 id)

-- the 24 bytes of an answer: the node, the asker's number and the node's clock
unfoldable pub answer_bytes : ℕ → ℕ → ℕ → List ℕ
answer_bytes node id clock = big_bytes 4 answer_magic ++ (big_bytes 4 node ++ (big_bytes 8 id ++ big_bytes 8 clock))

-- the number that a request asks with, where the bytes are one
abbrev pub asked_of : List ℕ → Option ℕ
asked_of bytes =
    if not (length bytes == 16) then None
    else if not (number_at 0 4 bytes == request_magic) then None
    else if not (number_at 4 4 bytes == 0) then None
    else Some (number_at 8 8 bytes)

-- The fields of an answer's 24 bytes: bytes 4 to 7, the node;
abbrev pub node_in : List ℕ → ℕ
node_in bytes = number_at 4 4 bytes

-- bytes 8 to 15, the asker's number;
abbrev pub asked_in : List ℕ → ℕ
asked_in bytes = number_at 8 8 bytes

-- bytes 16 to 23, the clock.
abbrev pub clock_in : List ℕ → ℕ
clock_in bytes = number_at 16 8 bytes

-- an answer's bytes tell these three
pub record Tells (node id clock : ℕ) (bytes : List ℕ) : Type 0 where
  pub node_is : node_in bytes ≡ node
  pub asked_is : asked_in bytes ≡ id
  pub clock_is : clock_in bytes ≡ clock

-- the reader was asked at a reading: it knows at least what it knew, and has answered by that
pub record WasAsked (old : Pass) (hw : ℕ) (new : Pass) : Type 0 where
  pub snaps : StartsWith new.snaps old.snaps
  pub answer : new.answer ≡ answer_at old.rate new.snaps old.answer hw
  pub never_falls : old.answer ≤ new.answer
  pub rate : new.rate ≡ old.rate
