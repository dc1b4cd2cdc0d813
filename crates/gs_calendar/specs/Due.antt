-- The keys of beacons in transit to one node, in order: what of them is due.
use Rattle.std.specs.Prelude.{ℕ, Bool, false, nat_le, if◌then◌else◌, List, [], ◌∷◌}
use Rattle.std.specs.Ordering.{nat_cmp, ordering_then}
use Rattle.std.specs.declared.cmp.Ordering.{Ordering}

-- a beacon in transit: the quantum that it is due in, its sender and its sequence
pub record Key : Type 0 where
  pub due : ℕ
  pub from : ℕ
  pub seq : ℕ

-- keys stand by due quantum, then by sender, then by sequence
abbrev pub key_cmp : Key → Key → Ordering
key_cmp x y = ordering_then (nat_cmp x.due y.due) (ordering_then (nat_cmp x.from y.from) (nat_cmp x.seq y.seq))

-- those at the front that are due by quantum t
abbrev pub due_by : ℕ → List Key → List Key
due_by t [] = []
due_by t (k ∷ ks) = if nat_le k.due t then k ∷ due_by t ks else []

-- the rest
abbrev pub due_after : ℕ → List Key → List Key
due_after t [] = []
due_after t (k ∷ ks) = if nat_le k.due t then due_after t ks else k ∷ ks

-- the first is due
abbrev pub is_first_due : ℕ → List Key → Bool
is_first_due t [] = false
is_first_due t (k ∷ ks) = nat_le k.due t
