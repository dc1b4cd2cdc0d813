-- What came back last stands last.
use Rattle.std.proofs.Common.{◌≡◌, ◌+◌, List, [], ◌∷◌, ◌++◌, length, refl, ap, arith}
use Rattle.gs_net.specs.declared.returns.Kind.{Kind}
use Rattle.gs_net.specs.declared.returns.Kind.TheVariants as kind
use Rattle.gs_net.specs.Lending.{doors_in, inlets_in, outlets_in, returned_door, returned_inlet, returned_outlet}
use Rattle.gs_net.specs.Weave.{doors_among, inlets_among, outlets_among, weave}

pub inlet_is_last : {In Out Asked : Type 0} (kinds : List Kind) (inlets : List In) (outlets : List Out) (doors : List Asked) (inlet : In) → length inlets ≡ inlets_among kinds
    → weave (kinds ++ kind.Inlet ∷ []) (inlets ++ inlet ∷ []) outlets doors ≡ weave kinds inlets outlets doors ++ returned_inlet inlet ∷ []
inlet_is_last [] [] outlets doors inlet even = refl
inlet_is_last [] (x ∷ inlets) outlets doors inlet even = absurd (omega (arith, even))
inlet_is_last (kind.Inlet ∷ kinds) [] outlets doors inlet even = absurd (omega (arith, even))
inlet_is_last (kind.Inlet ∷ kinds) (x ∷ inlets) outlets doors inlet even = ap (λ back. returned_inlet x ∷ back) (inlet_is_last kinds inlets outlets doors inlet (omega (arith, even)))
inlet_is_last (kind.Outlet ∷ kinds) inlets [] doors inlet even = inlet_is_last kinds inlets [] doors inlet even
inlet_is_last (kind.Outlet ∷ kinds) inlets (x ∷ outlets) doors inlet even = ap (λ back. returned_outlet x ∷ back) (inlet_is_last kinds inlets outlets doors inlet even)
inlet_is_last (kind.Door ∷ kinds) inlets outlets [] inlet even = inlet_is_last kinds inlets outlets [] inlet even
inlet_is_last (kind.Door ∷ kinds) inlets outlets (x ∷ doors) inlet even = ap (λ back. returned_door x ∷ back) (inlet_is_last kinds inlets outlets doors inlet even)

pub outlet_is_last : {In Out Asked : Type 0} (kinds : List Kind) (inlets : List In) (outlets : List Out) (doors : List Asked) (outlet : Out) → length outlets ≡ outlets_among kinds
    → weave (kinds ++ kind.Outlet ∷ []) inlets (outlets ++ outlet ∷ []) doors ≡ weave kinds inlets outlets doors ++ returned_outlet outlet ∷ []
outlet_is_last [] inlets [] doors outlet even = refl
outlet_is_last [] inlets (x ∷ outlets) doors outlet even = absurd (omega (arith, even))
outlet_is_last (kind.Outlet ∷ kinds) inlets [] doors outlet even = absurd (omega (arith, even))
outlet_is_last (kind.Outlet ∷ kinds) inlets (x ∷ outlets) doors outlet even = ap (λ back. returned_outlet x ∷ back) (outlet_is_last kinds inlets outlets doors outlet (omega (arith, even)))
outlet_is_last (kind.Inlet ∷ kinds) [] outlets doors outlet even = outlet_is_last kinds [] outlets doors outlet even
outlet_is_last (kind.Inlet ∷ kinds) (x ∷ inlets) outlets doors outlet even = ap (λ back. returned_inlet x ∷ back) (outlet_is_last kinds inlets outlets doors outlet even)
outlet_is_last (kind.Door ∷ kinds) inlets outlets [] outlet even = outlet_is_last kinds inlets outlets [] outlet even
outlet_is_last (kind.Door ∷ kinds) inlets outlets (x ∷ doors) outlet even = ap (λ back. returned_door x ∷ back) (outlet_is_last kinds inlets outlets doors outlet even)

pub door_is_last : {In Out Asked : Type 0} (kinds : List Kind) (inlets : List In) (outlets : List Out) (doors : List Asked) (door : Asked) → length doors ≡ doors_among kinds
    → weave (kinds ++ kind.Door ∷ []) inlets outlets (doors ++ door ∷ []) ≡ weave kinds inlets outlets doors ++ returned_door door ∷ []
door_is_last [] inlets outlets [] door even = refl
door_is_last [] inlets outlets (x ∷ doors) door even = absurd (omega (arith, even))
door_is_last (kind.Door ∷ kinds) inlets outlets [] door even = absurd (omega (arith, even))
door_is_last (kind.Door ∷ kinds) inlets outlets (x ∷ doors) door even = ap (λ back. returned_door x ∷ back) (door_is_last kinds inlets outlets doors door (omega (arith, even)))
door_is_last (kind.Inlet ∷ kinds) [] outlets doors door even = door_is_last kinds [] outlets doors door even
door_is_last (kind.Inlet ∷ kinds) (x ∷ inlets) outlets doors door even = ap (λ back. returned_inlet x ∷ back) (door_is_last kinds inlets outlets doors door even)
door_is_last (kind.Outlet ∷ kinds) inlets [] doors door even = door_is_last kinds inlets [] doors door even
door_is_last (kind.Outlet ∷ kinds) inlets (x ∷ outlets) doors door even = ap (λ back. returned_outlet x ∷ back) (door_is_last kinds inlets outlets doors door even)

-- each count of one more
pub inlets_more : (kinds : List Kind) (k : Kind) → inlets_among (kinds ++ k ∷ []) ≡ inlets_among kinds + inlets_among (k ∷ [])
inlets_more [] k = omega arith
inlets_more (kind.Inlet ∷ kinds) k = omega (arith, inlets_more kinds k)
inlets_more (kind.Outlet ∷ kinds) k = inlets_more kinds k
inlets_more (kind.Door ∷ kinds) k = inlets_more kinds k

pub outlets_more : (kinds : List Kind) (k : Kind) → outlets_among (kinds ++ k ∷ []) ≡ outlets_among kinds + outlets_among (k ∷ [])
outlets_more [] k = omega arith
outlets_more (kind.Inlet ∷ kinds) k = outlets_more kinds k
outlets_more (kind.Outlet ∷ kinds) k = omega (arith, outlets_more kinds k)
outlets_more (kind.Door ∷ kinds) k = outlets_more kinds k

pub doors_more : (kinds : List Kind) (k : Kind) → doors_among (kinds ++ k ∷ []) ≡ doors_among kinds + doors_among (k ∷ [])
doors_more [] k = omega arith
doors_more (kind.Inlet ∷ kinds) k = doors_more kinds k
doors_more (kind.Outlet ∷ kinds) k = doors_more kinds k
doors_more (kind.Door ∷ kinds) k = omega (arith, doors_more kinds k)

-- the inlets are found again
pub inlets_found : {In Out Asked : Type 0} (kinds : List Kind) (inlets : List In) (outlets : List Out) (doors : List Asked) → length inlets ≡ inlets_among kinds
    → inlets_in (weave kinds inlets outlets doors) ≡ inlets
inlets_found [] [] outlets doors even = refl
inlets_found [] (x ∷ inlets) outlets doors even = absurd (omega (arith, even))
inlets_found (kind.Inlet ∷ kinds) [] outlets doors even = absurd (omega (arith, even))
inlets_found (kind.Inlet ∷ kinds) (x ∷ inlets) outlets doors even = ap (λ found. x ∷ found) (inlets_found kinds inlets outlets doors (omega (arith, even)))
inlets_found (kind.Outlet ∷ kinds) inlets [] doors even = inlets_found kinds inlets [] doors even
inlets_found (kind.Outlet ∷ kinds) inlets (x ∷ outlets) doors even = inlets_found kinds inlets outlets doors even
inlets_found (kind.Door ∷ kinds) inlets outlets [] even = inlets_found kinds inlets outlets [] even
inlets_found (kind.Door ∷ kinds) inlets outlets (x ∷ doors) even = inlets_found kinds inlets outlets doors even

-- the outlets are found again
pub outlets_found : {In Out Asked : Type 0} (kinds : List Kind) (inlets : List In) (outlets : List Out) (doors : List Asked) → length outlets ≡ outlets_among kinds
    → outlets_in (weave kinds inlets outlets doors) ≡ outlets
outlets_found [] inlets [] doors even = refl
outlets_found [] inlets (x ∷ outlets) doors even = absurd (omega (arith, even))
outlets_found (kind.Inlet ∷ kinds) [] outlets doors even = outlets_found kinds [] outlets doors even
outlets_found (kind.Inlet ∷ kinds) (x ∷ inlets) outlets doors even = outlets_found kinds inlets outlets doors even
outlets_found (kind.Outlet ∷ kinds) inlets [] doors even = absurd (omega (arith, even))
outlets_found (kind.Outlet ∷ kinds) inlets (x ∷ outlets) doors even = ap (λ found. x ∷ found) (outlets_found kinds inlets outlets doors (omega (arith, even)))
outlets_found (kind.Door ∷ kinds) inlets outlets [] even = outlets_found kinds inlets outlets [] even
outlets_found (kind.Door ∷ kinds) inlets outlets (x ∷ doors) even = outlets_found kinds inlets outlets doors even

-- the doors are found again
pub doors_found : {In Out Asked : Type 0} (kinds : List Kind) (inlets : List In) (outlets : List Out) (doors : List Asked) → length doors ≡ doors_among kinds
    → doors_in (weave kinds inlets outlets doors) ≡ doors
doors_found [] inlets outlets [] even = refl
doors_found [] inlets outlets (x ∷ doors) even = absurd (omega (arith, even))
doors_found (kind.Inlet ∷ kinds) [] outlets doors even = doors_found kinds [] outlets doors even
doors_found (kind.Inlet ∷ kinds) (x ∷ inlets) outlets doors even = doors_found kinds inlets outlets doors even
doors_found (kind.Outlet ∷ kinds) inlets [] doors even = doors_found kinds inlets [] doors even
doors_found (kind.Outlet ∷ kinds) inlets (x ∷ outlets) doors even = doors_found kinds inlets outlets doors even
doors_found (kind.Door ∷ kinds) inlets outlets [] even = absurd (omega (arith, even))
doors_found (kind.Door ∷ kinds) inlets outlets (x ∷ doors) even = ap (λ found. x ∷ found) (doors_found kinds inlets outlets doors (omega (arith, even)))

pub ruleset woven = (inlet_is_last, outlet_is_last, door_is_last)

pub ruleset found = (inlets_found, outlets_found, doors_found)
