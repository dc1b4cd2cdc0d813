-- The first breach of a script's events is the one that its calendar has: the least quantum, then the least receiver, then
-- the least sender.
use Rattle.std.proofs.Common.{◌≡◌, ℕ, zero, suc, ◌+◌, ◌<◌, ◌≤◌, ◌^◌, arith, ap, sym, refl, ◌∙◌, List, [], ◌∷◌, ◌++◌, length, map, Option, Some, None, is_some, Bool, not, nat_le, get_or, slice_index, position}
use Rattle.std.specs.List.{prefix_len, AllByRecursion}
use Rattle.std.specs.Option.{option_or}
use Rattle.std.proofs.lemmas.List.FromFn.{length-range_with_len, get_or-range_with_len}
use Rattle.std.proofs.lemmas.List.Quantifiers.{position-Some}
use Rattle.gs_units.proofs.FirstFault.{last_is}
use Rattle.gs_core.specs.declared.event.Event.{Event}
use Rattle.gs_core.specs.declared.event.Event.TheVariants.{Quantum, Tick, Deliver}
use Rattle.gs_core.specs.inside.Events.{IsNoQuantum}
use Rattle.gs_run.specs.Net.{Net, neighbours, neighbour}
use Rattle.gs_run.specs.World.{World, nobody, member, effect}
use Rattle.gs_run.specs.Run.{run}
use Rattle.gs_run.specs.Why.{is_stale, stale_place, stale_at as stale_over, stale_of}
use Rattle.gs_run.specs.Accepted.{AreNumbers}
use Rattle.gs_calendar.specs.Breach.{Breach, breach_of, breach_in, first_breach}
use Rattle.gs_calendar.specs.Course.{Course}
use Rattle.gs_calendar.specs.Calendar.{Newest, stale_at}
use Rattle.gs_calendar.specs.Events.{nodes_of, incs_at, ticks_at, quantum_at, events_upto}
use Rattle.gs_calendar.specs.Scripts.{start_of, breach_of_course}
use Rattle.gs_calendar.specs.Stale.{first_stale, breach_over, breach_among, breach_at, breach_upto}
use Rattle.gs_calendar.proofs.NoQuanta.{rest_is_no_quantum}
use Rattle.gs_calendar.proofs.OneSeat.{all_deliveries}
use Rattle.gs_calendar.proofs.Agree.{IsCalendar, world_at, run_agrees, start_is_calendar}
use Rattle.gs_calendar.proofs.Hearing.{IsHeard, run_hears, start_is_heard}
use Rattle.gs_calendar.proofs.Arrivals.{place_is_own}
use Rattle.gs_calendar.proofs.Calm.{why_stale}
use Rattle.gs_calendar.proofs.Fitting.{IsCourse}

-- ---- first places

-- two tests that agree place by place have the same first place
prefix_same : {X Y : Type 0} (p : X → Bool) (q : Y → Bool) (xs : List X) (ys : List Y) (d : X) (e : Y) → length xs ≡ length ys → ((k : ℕ) → k < length xs → p (get_or xs k d) ≡ q (get_or ys k e))
    → prefix_len (λ x. not (p x)) xs ≡ prefix_len (λ y. not (q y)) ys
prefix_same p q [] [] d e long same = refl
prefix_same p q [] (y ∷ ys) d e long same = absurd (omega (arith, long))
prefix_same p q (x ∷ xs) [] d e long same = absurd (omega (arith, long))
prefix_same p q (x ∷ xs) (y ∷ ys) d e long same =
    rw (same 0 (omega arith), prefix_same p q xs ys d e (omega (arith, long)) (λ k h. same (suc k) (omega (arith, h)))) refl

pub position_same : {X Y : Type 0} (p : X → Bool) (q : Y → Bool) (xs : List X) (ys : List Y) (d : X) (e : Y) → length xs ≡ length ys → ((k : ℕ) → k < length xs → p (get_or xs k d) ≡ q (get_or ys k e))
    → position p xs ≡ position q ys
position_same p q xs ys d e long same = rw (prefix_same p q xs ys d e long same, long) refl

-- ---- what a member finds stale

-- the first place that a member finds stale is the calendar's
pub stale_place_is : (net : Net) (c : Course) (t : ℕ) (w : World) (v : ℕ) → IsCalendar net c t w → IsHeard net c t w → v < net.nodes → stale_place net w.quanta (member w v) ≡ first_stale net c (suc t) v
stale_place_is net c t w v h heard hv =
    ap (λ n. stale_place net n (member w v)) h.quanta
    ∙ position_same (is_stale net t) (λ x. stale_at net c x v (suc t)) (member w v).heard (neighbours net v) 0 0 (h.each v hv).places (λ k inside.
    let place : k < length (neighbours net v) = rw (h.each v hv).places at inside in
    ap (λ (n : Newest). nat_le (n.quantum + net.age) t) (heard v (neighbour net v k) k hv (place_is_own net v k place)))

stale_of_is : (net : Net) (c : Course) (t : ℕ) (w : World) (o : Option ℕ) → IsCalendar net c t w → IsHeard net c t w → position (λ v. is_some (first_stale net c (suc t) v)) (nodes_of net) ≡ o
    → breach_of (w.quanta + 1) (stale_of net w o) ≡ breach_among net c (suc t) o
stale_of_is net c t w None h heard e = refl
stale_of_is net c t w (Some v) h heard e =
    let found = position-Some (λ v. is_some (first_stale net c (suc t) v)) (nodes_of net) v 0 e in
    let inside : v < net.nodes = rw (length-range_with_len 0 net.nodes) at found.0 in
    let now : w.quanta + 1 ≡ suc t = (let q = h.quanta in omega (arith, q)) in
    ap (λ n. breach_of n (stale_over net v (stale_place net w.quanta (member w v)))) now
    ∙ ap (λ o. breach_of (suc t) (stale_over net v o)) (stale_place_is net c t w v h heard inside)
    ∙ pick (first_stale net c (suc t) v)
  where
    pick : (o : Option ℕ) → breach_of (suc t) (stale_over net v o) ≡ breach_over net (suc t) v o
    pick None = refl
    pick (Some i) = refl

pub breach_in_is : (net : Net) (c : Course) (t : ℕ) (w : World) → AreNumbers net → IsCourse net c → IsCalendar net c t w → IsHeard net c t w → t < 2 ^ 24
    → breach_in net w (Quantum (incs_at net c (suc t))) ≡ breach_at net c (suc t)
breach_in_is net c t w numbers course h heard few =
    let nodes : List ℕ = nodes_of net in
    let count : length w.members ≡ length nodes = h.count ∙ sym (length-range_with_len 0 net.nodes) in
    let same : position (λ m. is_some (stale_place net w.quanta m)) w.members ≡ position (λ v. is_some (first_stale net c (suc t) v)) nodes =
    position_same (λ m. is_some (stale_place net w.quanta m)) (λ v. is_some (first_stale net c (suc t) v)) w.members nodes nobody 0 count (λ v inside.
    let hv : v < net.nodes = rw h.count at inside in
    ap is_some (stale_place_is net c t w v h heard hv) ∙ ap (λ x. is_some (first_stale net c (suc t) x)) (sym (get_or-range_with_len 0 net.nodes v 0 hv ∙ omega arith))) in
    ap (breach_of (w.quanta + 1)) (why_stale net c t w numbers course h few ∙ ap (stale_of net w) same)
    ∙ stale_of_is net c t w (position (λ v. is_some (first_stale net c (suc t) v)) nodes) h heard refl

-- ---- all events

or_assoc : (a b c : Option Breach) → option_or (option_or a b) c ≡ option_or a (option_or b c)
or_assoc None b c = refl
or_assoc (Some x) b c = refl

breach_more : (net : Net) (w : World) (xs ys : List Event) → first_breach net w (xs ++ ys) ≡ option_or (first_breach net w xs) (first_breach net (run net w xs) ys)
breach_more net w [] ys = refl
breach_more net w (e ∷ xs) ys = rw (breach_more net (effect net w e) xs ys) (sym (or_assoc (breach_in net w e) _ _))

-- only a quantum is a breach
no_breach : (net : Net) (w : World) (es : List Event) → AllByRecursion IsNoQuantum es → first_breach net w es ≡ None
no_breach net w [] h = refl
no_breach net w (Quantum incs ∷ es) h = absurd h.0
no_breach net w (Tick v ∷ es) h = no_breach net (effect net w (Tick v)) es h.1
no_breach net w (Deliver from to seq ∷ es) h = no_breach net (effect net w (Deliver from to seq)) es h.1

quantum_breach : (net : Net) (c : Course) (t : ℕ) (w : World) → first_breach net w (quantum_at net c t) ≡ breach_in net w (Quantum (incs_at net c t))
quantum_breach net c t w =
    let rest : List Event = all_deliveries net c t ++ ticks_at net c t in
    ap (option_or (breach_in net w (Quantum (incs_at net c t)))) (no_breach net (effect net w (Quantum (incs_at net c t))) rest (rest_is_no_quantum net c t))
    ∙ last_is (breach_in net w (Quantum (incs_at net c t)))

pub breach_is : (net : Net) (c : Course) (w : World) → AreNumbers net → IsCourse net c → IsCalendar net c 0 w → IsHeard net c 0 w → (t : ℕ) → t ≤ 2 ^ 24 → first_breach net w (events_upto net c t) ≡ breach_upto net c t
breach_is net c w numbers course h heard zero few = refl
breach_is net c w numbers course h heard (suc t) few =
    let z : World = world_at net c w t in
    breach_more net w (events_upto net c t) (quantum_at net c (suc t))
    ∙ ap (λ o. option_or o (first_breach net z (quantum_at net c (suc t)))) (breach_is net c w numbers course h heard t (omega (arith, few)))
    ∙ ap (option_or (breach_upto net c t))
    (quantum_breach net c (suc t) z ∙ breach_in_is net c t z numbers course (run_agrees net c w h t) (run_hears net c w h heard t) (omega (arith, few)))

-- The first breach of a script's events is its calendar's.
pub script_breach_is : (net : Net) (c : Course) → AreNumbers net → IsCourse net c → breach_of_course net c ≡ breach_upto net c c.quanta
script_breach_is net c numbers course =
    let readings : ℕ → ℕ = slice_index (map (λ v. 0) (nodes_of net)) in
    let short = course.short in
    breach_is net c (start_of net) numbers course (start_is_calendar net c readings (λ v. 0)) (start_is_heard net c readings (λ v. 0)) c.quanta (omega (arith, short))
