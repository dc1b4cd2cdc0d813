-- The rows of clocks and the count of fast nodes, one quantum more.
use Rattle.std.proofs.Common.{◌≡◌, ℕ, suc, ◌+◌, arith, ap, refl, ◌∙◌, List, [], ◌∷◌, ◌++◌, map}
use Rattle.std.specs.List.{AllByRecursion}
use Rattle.std.proofs.lemmas.List.{map-append}
use Rattle.gs_core.specs.declared.event.Event.{Event}
use Rattle.gs_core.specs.declared.event.Event.TheVariants.{Quantum, Tick, Deliver}
use Rattle.gs_core.specs.inside.Events.{IsNoQuantum}
use Rattle.gs_run.specs.Fast.{fast_in}
use Rattle.gs_run.specs.Net.{Net}
use Rattle.gs_run.specs.World.{World, clocks_in, effect}
use Rattle.gs_run.specs.Run.{run, later_ends}
use Rattle.gs_calendar.specs.Course.{Course}
use Rattle.gs_calendar.specs.Events.{incs_at, ticks_at, quantum_at, events_upto}
use Rattle.gs_calendar.specs.Scripts.{start_of}
use Rattle.gs_run.specs.RunRows.{rows_of, fast_of}
use Rattle.gs_calendar.proofs.NoQuanta.{rest_is_no_quantum}
use Rattle.gs_calendar.proofs.OneSeat.{all_deliveries, begun, begins}
use Rattle.gs_seat.specs.Worlds.{world_of}
use Rattle.gs_seat.proofs.Clocks.{next_clocks}
use Rattle.gs_seat.proofs.Turning.{world_agrees}

-- ---- some events after others

ends_more : (net : Net) (w : World) (xs ys : List Event) → later_ends net w (xs ++ ys) ≡ later_ends net w xs ++ later_ends net (run net w xs) ys
ends_more net w [] ys = refl
ends_more net w (Quantum incs ∷ xs) ys = ap (λ (zs : List World). effect net w (Quantum incs) ∷ zs) (ends_more net (effect net w (Quantum incs)) xs ys)
ends_more net w (Tick v ∷ xs) ys = ends_more net (effect net w (Tick v)) xs ys
ends_more net w (Deliver from to seq ∷ xs) ys = ends_more net (effect net w (Deliver from to seq)) xs ys

fast_more : (net : Net) (w : World) (xs ys : List Event) → fast_of net w (xs ++ ys) ≡ fast_of net w xs + fast_of net (run net w xs) ys
fast_more net w [] ys = omega arith
fast_more net w (Quantum incs ∷ xs) ys = let rest = fast_more net (effect net w (Quantum incs)) xs ys in omega (arith, rest)
fast_more net w (Tick v ∷ xs) ys = fast_more net (effect net w (Tick v)) xs ys
fast_more net w (Deliver from to seq ∷ xs) ys = fast_more net (effect net w (Deliver from to seq)) xs ys

-- ---- events other than quanta

no_ends : (net : Net) (w : World) (es : List Event) → AllByRecursion IsNoQuantum es → later_ends net w es ≡ []
no_ends net w [] h = refl
no_ends net w (Quantum incs ∷ es) h = absurd h.0
no_ends net w (Tick v ∷ es) h = no_ends net (effect net w (Tick v)) es h.1
no_ends net w (Deliver from to seq ∷ es) h = no_ends net (effect net w (Deliver from to seq)) es h.1

no_fast : (net : Net) (w : World) (es : List Event) → AllByRecursion IsNoQuantum es → fast_of net w es ≡ 0
no_fast net w [] h = refl
no_fast net w (Quantum incs ∷ es) h = absurd h.0
no_fast net w (Tick v ∷ es) h = no_fast net (effect net w (Tick v)) es h.1
no_fast net w (Deliver from to seq ∷ es) h = no_fast net (effect net w (Deliver from to seq)) es h.1

-- ---- one quantum more

-- one row more
pub rows_next : (net : Net) (c : Course) (t : ℕ) → rows_of net (start_of net) (events_upto net c (suc t)) ≡ rows_of net (start_of net) (events_upto net c t) ++ clocks_in net (world_of net c (suc t)) ∷ []
rows_next net c t =
    let z : World = world_of net c t in
    let y : World = effect net z (Quantum (incs_at net c (suc t))) in
    let rest : List Event = all_deliveries net c (suc t) ++ ticks_at net c (suc t) in
    let before : List World = later_ends net (start_of net) (events_upto net c t) in
    ap (λ (ws : List World). map (clocks_in net) (start_of net ∷ ws)) (ends_more net (start_of net) (events_upto net c t) (quantum_at net c (suc t)))
    ∙ ap (λ (ws : List World). map (clocks_in net) (start_of net ∷ (before ++ y ∷ ws))) (no_ends net y rest (rest_is_no_quantum net c (suc t)))
    ∙ ap (λ (x : World). map (clocks_in net) (start_of net ∷ (before ++ x ∷ []))) (begins net c (suc t) z (world_agrees net c t).count)
    ∙ map-append (clocks_in net) (start_of net ∷ before) (begun net c (suc t) z ∷ [])
    ∙ ap (λ (row : List ℕ). rows_of net (start_of net) (events_upto net c t) ++ row ∷ []) (next_clocks net c t)

-- a node takes a quantum in the mode that it had before
pub fast_next : (net : Net) (c : Course) (t : ℕ) → fast_of net (start_of net) (events_upto net c (suc t)) ≡ fast_of net (start_of net) (events_upto net c t) + fast_in (world_of net c t)
fast_next net c t =
    let z : World = world_of net c t in
    let y : World = effect net z (Quantum (incs_at net c (suc t))) in
    let rest : List Event = all_deliveries net c (suc t) ++ ticks_at net c (suc t) in
    let none = no_fast net y rest (rest_is_no_quantum net c (suc t)) in
    fast_more net (start_of net) (events_upto net c t) (quantum_at net c (suc t)) ∙ omega (arith, none)
