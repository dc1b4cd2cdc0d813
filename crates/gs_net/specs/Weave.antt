-- What came back, over all kinds, in one order.
use Rattle.std.specs.Prelude.{ℕ, ◌+◌, List, [], ◌∷◌}
use Rattle.gs_net.specs.declared.returns.Kind.{Kind}
use Rattle.gs_net.specs.declared.returns.Kind.TheVariants as kind
use Rattle.gs_net.specs.Lending.{Returned, returned_door, returned_inlet, returned_outlet}

-- the objects of each kind in order, put in the order of these kinds
abbrev pub weave : {In Out Asked : Type 0} → List Kind → List In → List Out → List Asked → List (Returned In Out Asked)
weave [] inlets outlets doors = []
weave (kind.Inlet ∷ kinds) [] outlets doors = weave kinds [] outlets doors
weave (kind.Inlet ∷ kinds) (inlet ∷ inlets) outlets doors = returned_inlet inlet ∷ weave kinds inlets outlets doors
weave (kind.Outlet ∷ kinds) inlets [] doors = weave kinds inlets [] doors
weave (kind.Outlet ∷ kinds) inlets (outlet ∷ outlets) doors = returned_outlet outlet ∷ weave kinds inlets outlets doors
weave (kind.Door ∷ kinds) inlets outlets [] = weave kinds inlets outlets []
weave (kind.Door ∷ kinds) inlets outlets (door ∷ doors) = returned_door door ∷ weave kinds inlets outlets doors

-- how many of these are inlets, outlets, doors
abbrev pub inlets_among : List Kind → ℕ
inlets_among [] = 0
inlets_among (kind.Inlet ∷ kinds) = inlets_among kinds + 1
inlets_among (kind.Outlet ∷ kinds) = inlets_among kinds
inlets_among (kind.Door ∷ kinds) = inlets_among kinds

abbrev pub outlets_among : List Kind → ℕ
outlets_among [] = 0
outlets_among (kind.Inlet ∷ kinds) = outlets_among kinds
outlets_among (kind.Outlet ∷ kinds) = outlets_among kinds + 1
outlets_among (kind.Door ∷ kinds) = outlets_among kinds

abbrev pub doors_among : List Kind → ℕ
doors_among [] = 0
doors_among (kind.Inlet ∷ kinds) = doors_among kinds
doors_among (kind.Outlet ∷ kinds) = doors_among kinds
doors_among (kind.Door ∷ kinds) = doors_among kinds + 1
