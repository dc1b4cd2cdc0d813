-- What a run of a node gets from its ports, and what comes back to them.
use Rattle.std.specs.Prelude.{◌≡◌, ⊤, List, [], ◌∷◌, ◌++◌, map, Option, Some, None}
use Rattle.std.specs.List.{AllZip}
use Rattle.gs_net.specs.Lending.{Returned, returned_door, returned_inlet, returned_outlet}
use Rattle.gs_net.specs.Tales.{OnTold}
use Rattle.gs_net.specs.declared.lending.Ask.{Ask}
use Rattle.gs_net.specs.declared.lending.Ask.TheVariants as ask

-- what was asked for and what came back are of one kind
abbrev pub SameKind : {In Out Asked : Type 0} → Ask → Returned In Out Asked → Type 0
SameKind (ask.Inlet port) (returned_inlet inlet) = ⊤
SameKind (ask.Outlet routes) (returned_outlet outlet) = ⊤
SameKind (ask.Door port) (returned_door door) = ⊤
SameKind _ _ = ⊥

-- the outlet and the door, where they were got
abbrev pub outlet_if : {In Out Asked : Type 0} → Option Out → List (Returned In Out Asked)
outlet_if None = []
outlet_if (Some outlet) = returned_outlet outlet ∷ []

abbrev pub door_if : {In Out Asked : Type 0} → Option Asked → List (Returned In Out Asked)
door_if None = []
door_if (Some door) = returned_door door ∷ []

-- inlets, an outlet and a door in the order in which they are got and given back
abbrev pub in_order : {In Out Asked : Type 0} → List In → Option Out → Option Asked → List (Returned In Out Asked)
in_order inlets outlet door = map (λ inlet. returned_inlet inlet) inlets ++ (outlet_if outlet ++ door_if door)

-- Of all that is asked for, the first were lent, and just these came back, in that order; where the ports tell it.
pub record Borrowed {In Out Asked : Type 0} (all : List Ask) (asked later : Option (List Ask)) (back after : Option (List (Returned In Out Asked))) : Type 0 where
  pub lent : List Ask
  pub returned : List (Returned In Out Asked)
  pub rest : List Ask
  pub front : all ≡ lent ++ rest
  pub kinds : AllZip SameKind lent returned
  pub asked_go : later ≡ OnTold asked (λ before. before ++ lent)
  pub back_go : after ≡ OnTold back (λ before. before ++ returned)
