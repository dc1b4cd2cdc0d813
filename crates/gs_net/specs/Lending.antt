-- What ports tell of what they lend.
use Rattle.std.specs.Prelude.{◌≡◌, ℕ, List, [], ◌∷◌, Option, Some, None, ⊤}
use Rattle.gs_net.specs.declared.items.Item.{Item}
use Rattle.gs_net.specs.Tales.{Tale}

-- what came back to ports: one of their inlets, outlets or doors
pub data Returned (In Out Asked : Type 0) : Type 0 where
  returned_inlet : In → Returned In Out Asked
  returned_outlet : Out → Returned In Out Asked
  returned_door : Asked → Returned In Out Asked

-- where the ports tell what they hold, an inlet of this port has just that left, and has given nothing
abbrev pub Holds : Option (ℕ → List Item) → ℕ → Option Tale → Type 0
Holds None port tale = ⊤
Holds (Some held) port tale = tale ≡ Some (record { given = []; left = held port })

-- the inlets among what came back, in order
abbrev pub inlets_in : {In Out Asked : Type 0} → List (Returned In Out Asked) → List In
inlets_in [] = []
inlets_in (returned_inlet inlet ∷ rest) = inlet ∷ inlets_in rest
inlets_in (returned_outlet outlet ∷ rest) = inlets_in rest
inlets_in (returned_door door ∷ rest) = inlets_in rest

-- the outlets among what came back, in order
abbrev pub outlets_in : {In Out Asked : Type 0} → List (Returned In Out Asked) → List Out
outlets_in [] = []
outlets_in (returned_inlet inlet ∷ rest) = outlets_in rest
outlets_in (returned_outlet outlet ∷ rest) = outlet ∷ outlets_in rest
outlets_in (returned_door door ∷ rest) = outlets_in rest

-- the doors among what came back, in order
abbrev pub doors_in : {In Out Asked : Type 0} → List (Returned In Out Asked) → List Asked
doors_in [] = []
doors_in (returned_inlet inlet ∷ rest) = doors_in rest
doors_in (returned_outlet outlet ∷ rest) = doors_in rest
doors_in (returned_door door ∷ rest) = door ∷ doors_in rest
