-- Beacons on their way to a node.
use Rattle.std.specs.Prelude.{◌≡◌, ◌<◌, ◌≤◌, ℕ, min, nat_le, if◌then◌else◌, true, false, List, [], ◌∷◌, map, length, slice_index_or}
use Rattle.std.specs.Ordering.{is_gt}
use Rattle.gs_run.specs.World.{Sent}
use Rattle.gs_calendar.specs.Due.{Key, key_cmp}

-- a beacon that is due in a quantum, over the link at a place
pub record Letter : Type 0 where
  pub due : ℕ
  pub place : ℕ
  pub sent : Sent

-- its key, by which letters stand in order
abbrev pub key_of : Letter → Key
key_of b = record { due = b.due; from = b.sent.beacon.sender; seq = b.sent.beacon.seq }

abbrev pub keys : List Letter → List Key
keys bs = map key_of bs

-- those at the front that are due by quantum t, and the rest
abbrev pub letters_by : ℕ → List Letter → List Letter
letters_by t [] = []
letters_by t (b ∷ bs) = if nat_le b.due t then b ∷ letters_by t bs else []

abbrev pub letters_after : ℕ → List Letter → List Letter
letters_after t [] = []
letters_after t (b ∷ bs) = if nat_le b.due t then letters_after t bs else b ∷ bs

-- the quantum that the first is due in, and no later than `most`
abbrev pub first_due : ℕ → List Letter → ℕ
first_due most [] = most
first_due most (b ∷ bs) = min most b.due

-- one more, behind those of lesser keys
abbrev pub put_letter : Letter → List Letter → List Letter
put_letter b [] = b ∷ []
put_letter b (x ∷ xs) = if is_gt (key_cmp (key_of b) (key_of x)) then x ∷ put_letter b xs else b ∷ x ∷ xs

-- what is due at the front: nothing, the first letter, or the first of which the others are left
pub record IsNoneDue (t : ℕ) (bs : List Letter) : Type 0 where
  pub by : letters_by t bs ≡ []
  pub after : letters_after t bs ≡ bs

pub record IsFirstDue (t : ℕ) (bs : List Letter) : Type 0 where
  pub first : Letter
  pub rest : List Letter
  pub is : bs ≡ first ∷ rest
  pub due : first.due ≤ t

pub record TakesFirst (t : ℕ) (bs : List Letter) (b : Letter) (rest : List Letter) : Type 0 where
  pub is : bs ≡ b ∷ rest
  pub by : letters_by t bs ≡ b ∷ letters_by t rest
  pub after : letters_after t bs ≡ letters_after t rest

-- the place of a letter behind those of lesser keys
pub record IsGap (b : Letter) (bs : List Letter) (at : ℕ) : Type 0 where
  pub inside : at ≤ length bs
  pub lesser : (i : ℕ) (d : Letter) → i < at → is_gt (key_cmp (key_of b) (key_of (slice_index_or bs i d))) ≡ true
  pub rest : (d : Letter) → at < length bs → is_gt (key_cmp (key_of b) (key_of (slice_index_or bs at d))) ≡ false
