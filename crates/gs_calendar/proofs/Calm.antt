-- Nothing is refused along the events of a script but quanta, and those for staleness alone.
use Rattle.std.proofs.Common.{◌≡◌, ℕ, zero, suc, ◌+◌, ◌<◌, ◌≤◌, ◌^◌, ◌==◌, ◌⊎◌, inl, inr, arith, sym, refl, ◌∙◌, subst, List, [], ◌∷◌, ◌++◌, length, map, filter, Option, Some, None, is_some, true, false, nat_lt, nat_le, position, slice_index, get_or}
use Rattle.std.specs.List.{AllByRecursion}
use Rattle.std.proofs.lemmas.Bool.{eq-eqb, lt-leb, le-ltb, or_from, and_right}
use Rattle.std.proofs.lemmas.List.FromFn.{get_or-map-range_with_len, length-map-range_with_len}
use Rattle.gs_units.proofs.FirstFault.{last_is}
use Rattle.gs_topo.proofs.Nearer.{position_nowhere}
use Rattle.gs_core.specs.declared.event.Event.{Event}
use Rattle.gs_core.specs.declared.event.Event.TheVariants.{Quantum, Tick, Deliver}
use Rattle.gs_run.specs.Net.{Net, Adjacent, neighbours}
use Rattle.gs_run.specs.World.{World, Sent, nobody, member, sent_by, is_newer, effect}
use Rattle.gs_run.specs.Run.{run}
use Rattle.gs_run.specs.Why.{why, why_sent, drifts, is_due_at, stale_place, stale_at, stale_of}
use Rattle.gs_run.specs.Accepted.{AreNumbers}
use Rattle.gs_run.specs.declared.refused.Refused.TheVariants.{Stale}
use Rattle.gs_calendar.specs.Course.{Course}
use Rattle.gs_calendar.specs.Calendar.{turn, ticks}
use Rattle.gs_calendar.specs.Events.{nodes_of, incs_at, ticks_at, quantum_at, events_upto, events_of}
use Rattle.gs_calendar.specs.Scripts.{start_of}
use Rattle.gs_calendar.specs.Calm.{IsCalm, Calm}
use Rattle.gs_calendar.proofs.Fitting.{IsCourse}
use Rattle.gs_calendar.proofs.Parts.{each_weaker, each_kept, each_in_range}
use Rattle.gs_calendar.proofs.OneSeat.{IsQuietWorld, run_is_quiet, all_deliveries, begun, begins}
use Rattle.gs_calendar.proofs.Agree.{IsCalendar, HasMail, Listens, quiet_listens, begun_listens, world_at, run_agrees, start_is_calendar}
use Rattle.gs_calendar.proofs.Turns.{not_due as turn_is_young}
use Rattle.gs_calendar.proofs.Arrivals.{Arrives, IsArrival, neighbour_has_place, all_arrive}

pub calm_more : (net : Net) (w : World) (xs ys : List Event) → Calm net w xs → Calm net (run net w xs) ys → Calm net w (xs ++ ys)
calm_more net w [] ys h k = k
calm_more net w (e ∷ xs) ys h k = (h.0, calm_more net (effect net w e) xs ys h.1 k)

-- ---- ticks

pub calm_ticks : (net : Net) (w : World) (us : List ℕ) → AllByRecursion (λ u. u < net.nodes) us → Calm net w (map Tick us)
calm_ticks net w [] h = tt
calm_ticks net w (u ∷ us) h = (let e : nat_le net.nodes u ≡ false = lt-leb net.nodes u h.0 in rw e refl, calm_ticks net (effect net w (Tick u)) us h.1)

-- ---- deliveries

-- a beacon that arrives is of the right age
in_time : (net : Net) (c : Course) (w : World) (from to seq i t : ℕ) (s : Sent) → AreNumbers net → IsCourse net c → w.quanta ≡ t → (a : Arrives net c t from to seq) → s.quantum ≡ a.quantum
    → why_sent net w from to i (Some s) ≡ None
in_time net c w from to seq i t s numbers course quanta a same =
    let back : Adjacent net from to = numbers.both_ways to from a.near in
    let age : a.quantum + c.delay from to a.quantum ≡ t = a.aged.age in
    let low = course.delay_low from to a.quantum back in
    let high = course.delay_high from to a.quantum back in
    let soonest = numbers.same_delay_min to from in
    let latest = numbers.same_delay_max to from in
    let early : nat_lt w.quanta (s.quantum + net.delay_min to from) ≡ false = le-ltb w.quanta (s.quantum + net.delay_min to from) (omega (arith, quanta, same, age, low, soonest)) in
    let late : nat_lt (s.quantum + net.delay_max to from) w.quanta ≡ false = le-ltb (s.quantum + net.delay_max to from) w.quanta (omega (arith, quanta, same, age, high, latest)) in
    rw (early, late, and_right (is_newer (member w to) i s) false refl) refl

calm_delivery : (net : Net) (c : Course) (t : ℕ) (w : World) (from to seq : ℕ) → AreNumbers net → IsCourse net c → Listens net c t w → Arrives net c (suc t) from to seq → why net w (Deliver from to seq) ≡ None
calm_delivery net c t w from to seq numbers course h a =
    let node : nat_le net.nodes to ≡ false = lt-leb net.nodes to a.node in
    let place = neighbour_has_place net to from a.sender a.near in
    let before = a.aged.before in
    let mail : HasMail from (member w from).sent a.quantum seq = (h.each from a.sender).mails a.quantum seq (omega (arith, before)) a.aged.sent in
    let sent : sent_by w from seq ≡ Some mail.0 = mail.1 in
    rw (node, place.1, sent) (last_is (why_sent net w from to place.0 (Some mail.0)) ∙ in_time net c w from to seq place.0 (suc t) mail.0 numbers course h.quanta a mail.2)

pub calm_deliveries : (net : Net) (c : Course) (t : ℕ) (w : World) (es : List Event) → AreNumbers net → IsCourse net c → Listens net c t w → AllByRecursion (IsArrival net c (suc t)) es → Calm net w es
calm_deliveries net c t w [] numbers course h a = tt
calm_deliveries net c t w (Quantum incs ∷ es) numbers course h a = absurd a.0
calm_deliveries net c t w (Tick v ∷ es) numbers course h a = absurd a.0
calm_deliveries net c t w (Deliver from to seq ∷ es) numbers course h a =
    let z : World = effect net w (Deliver from to seq) in
    let quiet : IsQuietWorld w z = run_is_quiet net w (Deliver from to seq ∷ []) (tt, tt) in
    (calm_delivery net c t w from to seq numbers course h a.0, calm_deliveries net c t z es numbers course (quiet_listens net c t w z quiet h) a.1)

-- ---- a quantum

-- a tick is never due at the end of a quantum: a node ticks as soon as its gap has passed
pub not_due : (net : Net) (c : Course) (v t : ℕ) → AreNumbers net → IsCourse net c → t < (turn net c v t).last + net.tick
not_due net c v zero numbers course = let some = numbers.tick in omega (arith, some)
not_due net c v (suc t) numbers course =
    let young = turn_is_young net c v t net.tick (course.gap_low v (suc t)) (course.gap_high v (suc t)) in
    omega (arith, young)

no_drift : (net : Net) (c : Course) (t : ℕ) → IsCourse net c → position (drifts net) (incs_at net c t) ≡ None
no_drift net c t course = position_nowhere (drifts net) (incs_at net c t) 0 (λ k h.
    let inside : k < net.nodes = rw (length-map-range_with_len (λ v. c.inc v t) 0 net.nodes) at h in
    let inc : get_or (incs_at net c t) k 0 ≡ c.inc k t = get_or-map-range_with_len (λ v. c.inc v t) 0 net.nodes k k 0 inside (omega arith) in
    rw inc (or_from (nat_lt (c.inc k t) net.rate.lo) (nat_lt net.rate.hi (c.inc k t)) (le-ltb (c.inc k t) net.rate.lo (course.inc_low k t)) (le-ltb net.rate.hi (c.inc k t) (course.inc_high k t))))

no_tick_due : (net : Net) (c : Course) (t : ℕ) (w : World) → AreNumbers net → IsCourse net c → IsCalendar net c t w → position (is_due_at net w.quanta) w.members ≡ None
no_tick_due net c t w numbers course h = position_nowhere (is_due_at net w.quanta) w.members nobody (λ v hv.
    let inside : v < net.nodes = rw h.count at hv in
    let last = (h.each v inside).last in
    let due = not_due net c v t numbers course in
    let quanta = h.quanta in
    lt-leb ((member w v).ticked_at + net.tick) w.quanta (omega (arith, last, due, quanta)))

stale_at_cases : (net : Net) (v : ℕ) (place : Option ℕ) → (stale_at net v place ≡ None) ⊎ ((from : ℕ) × (to : ℕ) × (stale_at net v place ≡ Some (Stale from to)))
stale_at_cases net v None = inl refl
stale_at_cases net v (Some i) = inr (slice_index (neighbours net v) i, v, refl)

stale_cases : (net : Net) (w : World) (v : Option ℕ) → (stale_of net w v ≡ None) ⊎ ((from : ℕ) × (to : ℕ) × (stale_of net w v ≡ Some (Stale from to)))
stale_cases net w None = inl refl
stale_cases net w (Some v) = stale_at_cases net v (stale_place net w.quanta (member w v))

-- a quantum of a script is refused for nothing but staleness
pub why_stale : (net : Net) (c : Course) (t : ℕ) (w : World) → AreNumbers net → IsCourse net c → IsCalendar net c t w → t < 2 ^ 24
    → why net w (Quantum (incs_at net c (suc t))) ≡ stale_of net w (position (λ m. is_some (stale_place net w.quanta m)) w.members)
why_stale net c t w numbers course h few =
    let shape : (length (incs_at net c (suc t)) == net.nodes) ≡ true = eq-eqb (length (incs_at net c (suc t))) net.nodes (length-map-range_with_len (λ v. c.inc v (suc t)) 0 net.nodes) in
    let end : nat_le (2 ^ 24) w.quanta ≡ false = lt-leb (2 ^ 24) w.quanta (let q = h.quanta in omega (arith, q, few)) in
    rw (shape, end, no_drift net c (suc t) course, no_tick_due net c t w numbers course h)
    (last_is (stale_of net w (position (λ m. is_some (stale_place net w.quanta m)) w.members)))

calm_first : (net : Net) (c : Course) (t : ℕ) (w : World) → AreNumbers net → IsCourse net c → IsCalendar net c t w → t < 2 ^ 24 → IsCalm net w (Quantum (incs_at net c (suc t)))
calm_first net c t w numbers course h few =
    let is = why_stale net c t w numbers course h few in
    elim (stale_cases net w (position (λ m. is_some (stale_place net w.quanta m)) w.members)) [
      | inl none ↦ inl (is ∙ none)
      | inr stale ↦ inr (stale.0, stale.1, is ∙ stale.2)
    ]

pub calm_quantum : (net : Net) (c : Course) (t : ℕ) (w : World) → AreNumbers net → IsCourse net c → IsCalendar net c t w → t < 2 ^ 24 → Calm net w (quantum_at net c (suc t))
calm_quantum net c t w numbers course h few =
    let z : World = begun net c (suc t) w in
    let rest : Calm net z (all_deliveries net c (suc t) ++ ticks_at net c (suc t)) =
    calm_more net z (all_deliveries net c (suc t)) (ticks_at net c (suc t))
    (calm_deliveries net c t z (all_deliveries net c (suc t)) numbers course (begun_listens net c t w h) (all_arrive net c (suc t)))
    (calm_ticks net (run net z (all_deliveries net c (suc t))) (filter (λ v. ticks net c v (suc t)) (nodes_of net))
    (each_weaker _ _ (λ v k. let inside = k.0 in omega (arith, inside)) (filter (λ v. ticks net c v (suc t)) (nodes_of net)) (each_kept _ (λ v. ticks net c v (suc t)) (nodes_of net) (each_in_range 0 net.nodes)))) in
    (calm_first net c t w numbers course h few, subst (λ (x : World). Calm net x (all_deliveries net c (suc t) ++ ticks_at net c (suc t))) (sym (begins net c (suc t) w h.count)) rest)

-- ---- all quanta

pub calm_upto : (net : Net) (c : Course) (w : World) → AreNumbers net → IsCourse net c → IsCalendar net c 0 w → (t : ℕ) → t ≤ 2 ^ 24 → Calm net w (events_upto net c t)
calm_upto net c w numbers course h zero few = tt
calm_upto net c w numbers course h (suc t) few = calm_more net w (events_upto net c t) (quantum_at net c (suc t))
    (calm_upto net c w numbers course h t (omega (arith, few)))
    (calm_quantum net c t (world_at net c w t) numbers course (run_agrees net c w h t) (omega (arith, few)))

-- Along the events of a script every refusal is a stale quantum.
pub scripts_are_calm : (net : Net) (c : Course) → AreNumbers net → IsCourse net c → Calm net (start_of net) (events_of net c)
scripts_are_calm net c numbers course =
    let short = course.short in
    calm_upto net c (start_of net) numbers course (start_is_calendar net c (slice_index (map (λ v. 0) (nodes_of net))) (λ v. 0)) c.quanta (omega (arith, short))
