-- What nodes decide by is within the budget, in every allowed run from equal clocks.
use Rattle.std.proofs.Common.{ℕ, ◌<◌, arith, refl, List, [], ◌∷◌, ◌++◌, length, slice_index, slice_index_or, subst}
use Rattle.std.proofs.lemmas.Int.{ints}
use Rattle.gs_trigger.specs.Triggers.{Sight}
use Rattle.gs_core.specs.declared.event.Event.{Event}
use Rattle.gs_core.specs.declared.event.Event.TheVariants.{Quantum, Tick, Deliver}
use Rattle.gs_run.specs.Net.{Net, neighbour}
use Rattle.gs_run.specs.World.{World, member, effect, clock_in, world_from, world_at_start}
use Rattle.gs_run.specs.Run.{Allowed}
use Rattle.gs_run.specs.Budget.{Watched, decision, watch, watched_at_start, IsNear, AreNear, Budget}
use Rattle.gs_run.specs.Accepted.{AreNumbers}
use Rattle.gs_run.proofs.History.{IsEqual}
use Rattle.gs_run.proofs.Rows.{Grows}
use Rattle.gs_run.proofs.Conditions.{IsSeen, AreSeen, sights_are_seen}
use Rattle.gs_run.proofs.Keeping.{Holds, IsNext, IsUnderWay, quantum_is_next, quantum_goes_on, tick_goes_on, deliver_goes_on}
use Rattle.gs_run.proofs.Current.{row_of, reading_of}
use Rattle.gs_run.proofs.Moments.{start, run_grows, Dated, dated_keeps, dated_start, whole_run}
use Rattle.gs_run.proofs.Joined.{run_is_equal}

near_from_seen : (net : Net) (x : Watched) (v i l : ℕ) (sight : Sight)
    → IsSeen net (clock_in net x.world) v (neighbour net v i) l sight → IsNear net x v i sight
near_from_seen net x v i l sight seen =
    let most = seen.within.most in
    let least = seen.within.least in
    rw seen.is (record { most = omega (arith, ints, most); least = omega (arith, ints, least) })

-- at the end of a quantum
quantum_near : {net : Net} {total : List World} {last : ℕ} → Grows net last (row_of net total) (reading_of total)
    → IsEqual net (row_of net total) → (x : Watched) (incs : List ℕ) → IsNext net total last x.world incs
    → Holds net (Dated net total) x → AreNear net (watch net x (Quantum incs))
quantum_near {net} {total} {last} grows equal x incs next h v i z hv hi =
    let t : ℕ = x.world.quanta in
    let hm : v < length x.world.members = rw h.members hv in
    let e = (h.each v hv).decided in
    let sights : List Sight = (decision x v).sights in
    let seen = sights_are_seen net last (row_of net total) (reading_of total) grows t v (member x.world v).ticked_at sights
    next.inside hv (λ early y hy. equal v y hv hy) e.before (next.may.ticks v hm) e.count e.sees in
    let l : ℕ = row_of net total (member x.world v).ticked_at v in
    let P : World → Type 0 = λ w. AreSeen net (clock_in net w) v l sights in
    let here : P (watch net x (Quantum incs)).world = subst P next.row seen in
    near_from_seen net (watch net x (Quantum incs)) v i l (slice_index_or sights i z) (here.each i z hi)

-- along the events
budget_along : {net : Net} {total : List World} {last : ℕ} → AreNumbers net
    → Grows net last (row_of net total) (reading_of total)
    → IsEqual net (row_of net total) → (before : List World) (x : Watched) (es : List Event)
    → IsUnderWay net total last (Dated net total) before x es → Budget net x es
budget_along numbers grows equal before x [] on = tt
budget_along {net} numbers grows equal before x (Quantum incs ∷ es) on =
    let goes_on = quantum_goes_on (dated_keeps numbers grows) on in
    let row : World = effect net x.world (Quantum incs) in (
      quantum_near grows equal x incs (quantum_is_next on) on.holds,
      budget_along numbers grows equal (before ++ row ∷ []) (watch net x (Quantum incs)) es goes_on,
    )
budget_along {net} numbers grows equal before x (Tick v ∷ es) on =
    budget_along numbers grows equal before (watch net x (Tick v)) es (tick_goes_on (dated_keeps numbers grows) on)
budget_along {net} numbers grows equal before x (Deliver from to seq ∷ es) on =
    budget_along numbers grows equal before (watch net x (Deliver from to seq)) es
    (deliver_goes_on (dated_keeps numbers grows) on)

-- The budget holds for every allowed list.
pub budget_kept : (net : Net) (hw : List ℕ) (l0 : ℕ) (es : List Event) → AreNumbers net
    → Allowed net (world_at_start net hw l0) es → Budget net (watched_at_start net (world_at_start net hw l0)) es
budget_kept net hw l0 es numbers allowed =
    let w : World = world_from net (slice_index hw) (λ v. l0) in
    let r = whole_run net (slice_index hw) (λ v. l0) es allowed in
    budget_along numbers (run_grows numbers r) (run_is_equal r (λ v w. refl)) (w ∷ [])
    (start net (slice_index hw) (λ v. l0)) es (dated_start numbers r)
