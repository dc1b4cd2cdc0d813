-- Rules 4 and 5: when a trigger holds at a level, and its least level.
use Rattle.std.specs.Prelude.{ℕ, ℤ, pos, neg_ℤ, nat_abs, ◌≤ℤ◌, ◌-ℤ◌, ◌<◌, ◌+◌, ◌-◌, ◌*◌, ◌/◌}
use Rattle.std.specs.Prelude.{List, Bool, ◌&&◌, Option, sum_by, All, Any}
use Rattle.std.specs.Int.Signed.{le_z}
use Rattle.std.specs.List.{find, list_any, list_all, range_with_len}
use Rattle.gs_units.specs.declared.params.Link.{Link}

-- a link and the offset of its neighbour
abbrev pub Sight : Type 0
Sight = Link × ℤ

-- each link's kappa is more than twice its delta
abbrev pub HaveMargins : List Sight → Type 0
HaveMargins = All (λ x. 2 * x.0.delta < x.0.kappa)

-- the distance that level s of the fast trigger asks for on a link of this kappa
abbrev pub odd_level : ℕ → ℕ → ℕ
odd_level k s = (2 * s - 1) * k

-- the distance that level s of the slow trigger asks for
abbrev pub even_level : ℕ → ℕ → ℕ
even_level k s = 2 * s * k

-- the neighbour is ahead by at least the distance of the fast trigger, less the link's delta
abbrev pub IsFarAhead : ℕ → Sight → Type 0
IsFarAhead s x = (pos (odd_level x.0.kappa s) -ℤ pos x.0.delta) ≤ℤ x.1

-- the neighbour is behind by at most the distance of the fast trigger and delta
abbrev pub IsNotTooFarBehind : ℕ → Sight → Type 0
IsNotTooFarBehind s x = neg_ℤ (pos (odd_level x.0.kappa s + x.0.delta)) ≤ℤ x.1

-- the neighbour is behind by at least the distance of the slow trigger, less delta
abbrev pub IsFarBehind : ℕ → Sight → Type 0
IsFarBehind s x = x.1 ≤ℤ (pos x.0.delta -ℤ pos (even_level x.0.kappa s))

-- the neighbour is ahead by at most the distance of the slow trigger and delta
abbrev pub IsNotTooFarAhead : ℕ → Sight → Type 0
IsNotTooFarAhead s x = x.1 ≤ℤ pos (even_level x.0.kappa s + x.0.delta)

-- rule 4 at level s: some neighbour is far ahead, and none is too far behind
abbrev pub FastAt : List Sight → ℕ → Type 0
FastAt sights s = Any (IsFarAhead s) sights × All (IsNotTooFarBehind s) sights

-- rule 5 at level s: some neighbour is far behind, and none is too far ahead
abbrev pub SlowAt : List Sight → ℕ → Type 0
SlowAt sights s = Any (IsFarBehind s) sights × All (IsNotTooFarAhead s) sights

-- ---- the same as tests

abbrev pub is_far_ahead : ℕ → Sight → Bool
is_far_ahead s x = le_z (pos (odd_level x.0.kappa s) -ℤ pos x.0.delta) x.1

abbrev pub is_not_too_far_behind : ℕ → Sight → Bool
is_not_too_far_behind s x = le_z (neg_ℤ (pos (odd_level x.0.kappa s + x.0.delta))) x.1

abbrev pub is_far_behind : ℕ → Sight → Bool
is_far_behind s x = le_z x.1 (pos x.0.delta -ℤ pos (even_level x.0.kappa s))

abbrev pub is_not_too_far_ahead : ℕ → Sight → Bool
is_not_too_far_ahead s x = le_z x.1 (pos (even_level x.0.kappa s + x.0.delta))

abbrev pub fast_at : List Sight → ℕ → Bool
fast_at sights s = list_any (is_far_ahead s) sights && list_all (is_not_too_far_behind s) sights

abbrev pub slow_at : List Sight → ℕ → Bool
slow_at sights s = list_any (is_far_behind s) sights && list_all (is_not_too_far_ahead s) sights

-- ---- the least level of each

-- a level above which no offset is far enough ahead or behind for either trigger
abbrev pub highest : List Sight → ℕ
highest sights = sum_by (λ x. nat_abs x.1 / x.0.kappa + 1) sights

-- the least level of the fast trigger
unfoldable pub fast_level : List Sight → Option ℕ
fast_level sights = find (fast_at sights) (range_with_len 1 (highest sights))

-- the least level of the slow trigger
unfoldable pub slow_level : List Sight → Option ℕ
slow_level sights = find (slow_at sights) (range_with_len 1 (highest sights))
