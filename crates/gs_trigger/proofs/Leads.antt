-- What a neighbour allows, by how far it leads on the side of the trigger.
use Rattle.std.proofs.Common.{ℕ, ℤ, pos, neg_ℤ, ◌≤ℤ◌, ◌+◌, arith}
use Rattle.std.proofs.lemmas.Int.{ints}
use Rattle.gs_units.specs.declared.params.Link.{Link}
use Rattle.gs_trigger.specs.inside.Sides.{distance_of, lead_of, Allows}
use Rattle.gs_trigger.specs.declared.trigger.Trigger.{Trigger}
use Rattle.gs_trigger.specs.declared.trigger.Trigger.TheVariants.{Fast, Slow}

neg-swap : (x : ℤ) (n : ℕ) → neg_ℤ (pos n) ≤ℤ neg_ℤ x → x ≤ℤ pos n
neg-swap x n h = omega (arith, ints, h)

swap-neg : (x : ℤ) (n : ℕ) → x ≤ℤ pos n → neg_ℤ (pos n) ≤ℤ neg_ℤ x
swap-neg x n h = omega (arith, ints, h)

-- a neighbour allows a level where its lead is not below the level's distance
pub Allows-from_lead : (trigger : Trigger) (s : ℕ) (link : Link) (x : ℤ) → neg_ℤ (pos (distance_of trigger link.kappa s + link.delta)) ≤ℤ lead_of trigger x → Allows trigger s (link, x)
Allows-from_lead Fast s link x h = h
Allows-from_lead Slow s link x h = neg-swap x _ h

pub lead-from_Allows : (trigger : Trigger) (s : ℕ) (link : Link) (x : ℤ) → Allows trigger s (link, x) → neg_ℤ (pos (distance_of trigger link.kappa s + link.delta)) ≤ℤ lead_of trigger x
lead-from_Allows Fast s link x h = h
lead-from_Allows Slow s link x h = swap-neg x _ h
