-- What inlets, doors and outlets tell.
use Rattle.std.specs.Prelude.{◌≡◌, ℕ, List, [], ◌∷◌, ◌++◌, length, map, min, take, Option, Some, None, ⊤}
use Rattle.gs_net.specs.declared.items.Item.{Item}
use Rattle.gs_net.specs.declared.items.Item.TheVariants as item
use Rattle.gs_net.specs.declared.items.Got.{Got}
use Rattle.gs_net.specs.declared.items.Got.TheVariants.{Datagram, Quiet, Ended}

-- the items of an inlet: those that it has given, in order, and those that are left
pub record Tale : Type 0 where
  pub given : List Item
  pub left : List Item

-- the first item that was left is now the last that was given
pub record Gives (item : Item) (old new : Tale) : Type 0 where
  pub given : new.given ≡ old.given ++ item ∷ []
  pub left : old.left ≡ item ∷ new.left

-- a datagram of which the first n bytes stand in front, 64 at most
pub record GivesDatagram (n : ℕ) (into : List ℕ) (old new : Tale) : Type 0 where
  pub bytes : List ℕ
  pub count : n ≡ min 64 (length bytes)
  pub front : take n into ≡ take n bytes
  pub moved : Gives (item.Datagram bytes) old new

-- what an answer says of the items
abbrev pub moves : Got → List ℕ → Tale → Tale → Type 0
moves (Datagram n) into old new = GivesDatagram n into old new
moves Quiet into old new = Gives item.Quiet old new
moves Ended into old new = (new ≡ old) × (old.left ≡ [])

-- the same where the items are told; they go on to be told, or go on not to be
abbrev pub Moves : Got → List ℕ → Option Tale → Option Tale → Type 0
Moves got into None new = new ≡ None
Moves got into (Some old) new = (tale : Tale) × (new ≡ Some tale) × moves got into old tale

-- where it is told, it has become this
abbrev pub OnTold : {A : Type 0} → Option A → (A → A) → Option A
OnTold None f = None
OnTold (Some a) f = Some (f a)

-- where it is told, a list with one more at its end
abbrev pub added : {A : Type 0} → Option (List A) → A → Option (List A)
added told a = OnTold told (λ all. all ++ a ∷ [])

-- where it is told, nothing was given yet
abbrev pub IsFresh : Option Tale → Type 0
IsFresh None = ⊤
IsFresh (Some tale) = tale.given ≡ []

-- where it is told, a list of nothing
abbrev pub IsUnused : {A : Type 0} → Option (List A) → Type 0
IsUnused None = ⊤
IsUnused (Some all) = all ≡ []

-- the items given and left together, where they are told
abbrev pub whole : Option Tale → Option (List Item)
whole None = None
whole (Some tale) = Some (tale.given ++ tale.left)

-- those of each inlet
abbrev pub wholes : {A : Type 0} → (A → Option Tale) → List A → List (Option (List Item))
wholes tale inlets = map (λ inlet. whole (tale inlet)) inlets
