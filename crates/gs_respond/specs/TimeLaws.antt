-- Time requests and their answers have one spelling, and an answer tells all that it was made of.
use Rattle.std.specs.Prelude.{◌≡◌, ℕ, ◌^◌, ◌<◌, List, Some}
use Rattle.gs_beacon.specs.Numbers.{AreBytes}
use Rattle.gs_respond.specs.TimeRequests.{Tells, request_bytes, answer_bytes, asked_of}

-- the bytes of a request ask with its number
abbrev pub RequestsAsk : Type 0
RequestsAsk = (id : ℕ) → id < 2 ^ 64 → asked_of (request_bytes id) ≡ Some id

-- and no other bytes do
abbrev pub RequestsHaveOneSpelling : Type 0
RequestsHaveOneSpelling = (id : ℕ) (bytes : List ℕ) → AreBytes bytes → asked_of bytes ≡ Some id → bytes ≡ request_bytes id

-- a node, an asker's number and a clock fit their fields
abbrev pub FitFields : ℕ → ℕ → ℕ → Type 0
FitFields node id clock = (node < 2 ^ 32) × (id < 2 ^ 64) × (clock < 2 ^ 64)

-- the bytes of an answer tell the three
abbrev pub AnswersTell : Type 0
AnswersTell = (node id clock : ℕ) → FitFields node id clock → Tells node id clock (answer_bytes node id clock)

-- so no two answers have the same bytes
abbrev pub AnswersDiffer : Type 0
AnswersDiffer = (node id clock node2 id2 clock2 : ℕ) → FitFields node id clock → FitFields node2 id2 clock2
    → answer_bytes node id clock ≡ answer_bytes node2 id2 clock2 → (node ≡ node2) × (id ≡ id2) × (clock ≡ clock2)
