-- Both triggers as one, by its side. These facts are for private functions and proofs.
use Rattle.std.specs.Prelude.{ℕ, ℤ, neg_ℤ, ◌≤◌, List, Bool, ◌&&◌, Option, All, Any}
use Rattle.std.specs.List.{find, list_any, list_all, range_with_len}
use Rattle.gs_trigger.specs.Triggers.{Sight, odd_level, even_level, highest}
use Rattle.gs_trigger.specs.Triggers.{IsFarAhead, IsNotTooFarBehind, IsFarBehind, IsNotTooFarAhead}
use Rattle.gs_trigger.specs.Triggers.{is_far_ahead, is_not_too_far_behind, is_far_behind, is_not_too_far_ahead}
use Rattle.gs_trigger.specs.declared.trigger.Trigger.{Trigger}
use Rattle.gs_trigger.specs.declared.trigger.Trigger.TheVariants.{Fast, Slow}

-- the distance that a level asks for
abbrev pub distance_of : Trigger → ℕ → ℕ → ℕ
distance_of Fast k s = odd_level k s
distance_of Slow k s = even_level k s

-- how far the neighbour is on the trigger's side
abbrev pub lead_of : Trigger → ℤ → ℤ
lead_of Fast x = x
lead_of Slow x = neg_ℤ x

-- the neighbour is as far on the trigger's side as level s asks
abbrev pub Reaches : Trigger → ℕ → Sight → Type 0
Reaches Fast s x = IsFarAhead s x
Reaches Slow s x = IsFarBehind s x

-- the neighbour is no further on the other side than level s allows
abbrev pub Allows : Trigger → ℕ → Sight → Type 0
Allows Fast s x = IsNotTooFarBehind s x
Allows Slow s x = IsNotTooFarAhead s x

-- the trigger holds at level s: `FastAt` or `SlowAt`
abbrev pub TriggerAt : Trigger → List Sight → ℕ → Type 0
TriggerAt trigger sights s = Any (Reaches trigger s) sights × All (Allows trigger s) sights

-- the same as tests
abbrev pub reaches : Trigger → ℕ → Sight → Bool
reaches Fast s x = is_far_ahead s x
reaches Slow s x = is_far_behind s x

abbrev pub allows : Trigger → ℕ → Sight → Bool
allows Fast s x = is_not_too_far_behind s x
allows Slow s x = is_not_too_far_ahead s x

abbrev pub trigger_at : Trigger → List Sight → ℕ → Bool
trigger_at trigger sights s = list_any (reaches trigger s) sights && list_all (allows trigger s) sights

-- the least level of the trigger: `fast_level` or `slow_level`
unfoldable pub trigger_level : Trigger → List Sight → Option ℕ
trigger_level trigger sights = find (trigger_at trigger sights) (range_with_len 1 (highest sights))

-- s is the least level at which every neighbour allows the trigger
pub record IsLowestAllowed (trigger : Trigger) (sights : List Sight) (s : ℕ) : Type 0 where
  pub first : 1 ≤ s
  pub allowed : All (Allows trigger s) sights
  pub least : (t : ℕ) → 1 ≤ t → All (Allows trigger t) sights → s ≤ t
