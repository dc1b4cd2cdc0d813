-- No node of a script has a fault in a quantum that is no breach.
use Rattle.std.proofs.Common.{◌≡◌, ◌+◌, ◌-◌, ◌<◌, ◌^◌, ℕ, suc, arith, ap, sym, ◌∙◌, subst, List, [], ◌∷◌, ◌++◌, length}
use Rattle.std.specs.List.{AllByRecursion, flat_map, range_with_len}
use Rattle.std.proofs.lemmas.Option.{same_Some}
use Rattle.gs_units.specs.declared.params.NodeParams.{NodeParams}
use Rattle.gs_core.specs.declared.event.Event.{Event}
use Rattle.gs_core.specs.declared.event.Event.TheVariants.{Quantum, Deliver}
use Rattle.gs_run.specs.Net.{Net, params_of, place_of}
use Rattle.gs_run.specs.World.{World, Member, Sent, member, effect, advanced, heard_member}
use Rattle.gs_run.specs.Run.{run, Allowed}
use Rattle.gs_run.specs.Reach.{IsReachable}
use Rattle.gs_run.specs.Accepted.{AreNumbers}
use Rattle.gs_run.proofs.Reaching.{IsKnown, reachable_is_known, step_is_reachable, known_tick}
use Rattle.gs_calendar.specs.Course.{Course}
use Rattle.gs_calendar.specs.Events.{deliveries_to, incs_at, quantum_at, ticks_at}
use Rattle.gs_calendar.specs.inside.Feeds.{deliver_all}
use Rattle.gs_calendar.proofs.Agree.{IsCalendar, Listens, HasMail, begun_listens, quiet_listens}
use Rattle.gs_calendar.proofs.Arrivals.{Arrives, IsArrival, arrivals_to, place_is_inside}
use Rattle.gs_run.proofs.Current.{link_place_is}
use Rattle.gs_calendar.proofs.OneSeat.{IsQuietWorld, run_is_quiet, begun, begins, listened, listened_is_quiet, all_deliveries}
use Rattle.gs_calendar.proofs.Parts.{flat_split}
use Rattle.gs_calendar.proofs.Turns.{turn_within}
use Rattle.gs_seat.specs.Alone.{Carries, AreCarried, alone, IsHearable, CanHear, CanTick, CanRead}
use Rattle.gs_seat.specs.Letters.{Letter, keys}
use Rattle.gs_seat.proofs.Alone.{all_carried_on, all_carried_begun, one_heard, before_node, before_is_quiet, before_member}

-- ---- allowed events, in parts

pub allowed_front : (net : Net) (w : World) (xs ys : List Event) → Allowed net w (xs ++ ys) → Allowed net w xs
allowed_front net w [] ys a = tt
allowed_front net w (e ∷ xs) ys a = (a.0, allowed_front net (effect net w e) xs ys a.1)

pub allowed_rest : (net : Net) (w : World) (xs ys : List Event) → Allowed net w (xs ++ ys) → Allowed net (run net w xs) ys
allowed_rest net w [] ys a = a
allowed_rest net w (e ∷ xs) ys a = allowed_rest net (effect net w e) xs ys a.1

pub run_is_reachable : (net : Net) (w : World) (es : List Event) → IsReachable net w → Allowed net w es → IsReachable net (run net w es)
run_is_reachable net w [] r a = r
run_is_reachable net w (e ∷ es) r a = run_is_reachable net (effect net w e) es (step_is_reachable net w e r a.0) a.1

-- ---- a quantum in parts

-- where all of quantum t is allowed
pub record InQuantum (net : Net) (c : Course) (t : ℕ) (w : World) : Type 0 where
  pub begins : IsReachable net (begun net c t w)
  pub comes : Allowed net (begun net c t w) (all_deliveries net c t)

pub in_quantum : (net : Net) (c : Course) (t : ℕ) (w : World) → length w.members ≡ net.nodes → IsReachable net w → Allowed net w (quantum_at net c t) → InQuantum net c t w
in_quantum net c t w count r a =
    let is : effect net w (Quantum (incs_at net c t)) ≡ begun net c t w = begins net c t w count in
    record {
      begins = subst (λ (z : World). IsReachable net z) is (step_is_reachable net w (Quantum (incs_at net c t)) r a.0);
      comes = allowed_front net (begun net c t w) (all_deliveries net c t) (ticks_at net c t)
          (subst (λ (z : World). Allowed net z (all_deliveries net c t ++ ticks_at net c t)) is a.1);
    }

-- the clocks can be read as the quantum has begun
pub can_read : (net : Net) (c : Course) (t v : ℕ) (w : World) → AreNumbers net → InQuantum net c t w → v < net.nodes → CanRead (member (begun net c t w) v)
can_read net c t v w numbers q hv =
    let known = reachable_is_known net (begun net c t w) numbers q.begins in
    record { last = known.last v hv; few = (known.short v hv).reading }

-- ---- what comes to v

pub before_is_reachable : (net : Net) (c : Course) (t v : ℕ) (w : World) → InQuantum net c t w → v < net.nodes
    → IsReachable net (before_node net c t w v) × Allowed net (before_node net c t w v) (deliveries_to net c t v)
before_is_reachable net c t v w q hv =
    let z : World = begun net c t w in
    let first : List Event = flat_map (deliveries_to net c t) (range_with_len 0 v) in
    let own : List Event = deliveries_to net c t v in
    let after : List Event = flat_map (deliveries_to net c t) (range_with_len (v + 1) (net.nodes - v - 1)) in
    let all : Allowed net z (first ++ (own ++ after)) = subst (λ (es : List Event). Allowed net z es) (flat_split (deliveries_to net c t) net.nodes v hv) q.comes in (
      run_is_reachable net z first q.begins (allowed_front net z first (own ++ after) all),
      allowed_front net (run net z first) own after (allowed_rest net z first (own ++ after) all),
    )

hearable : (net : Net) (c : Course) (t : ℕ) (w : World) (v : ℕ) (b : Letter) → AreNumbers net → Listens net c t w → IsReachable net w → v < net.nodes
    → Arrives net c (suc t) b.sent.beacon.sender v b.sent.beacon.seq → Allowed net w (Deliver b.sent.beacon.sender v b.sent.beacon.seq ∷ []) → Carries net w v b → IsHearable (params_of net v) b (alone (member w v))
hearable net c t w v b numbers listens r hv a allowed is =
    let known : IsKnown net w = reachable_is_known net w numbers r in
    let before = a.aged.before in
    let mail : HasMail b.sent.beacon.sender (member w b.sent.beacon.sender).sent a.quantum b.sent.beacon.seq = (listens.each b.sent.beacon.sender a.sender).mails a.quantum b.sent.beacon.seq (omega (arith, before)) a.aged.sent in
    let same : mail.0 ≡ b.sent = same_Some mail.0 b.sent (sym mail.1 ∙ is.sent) in
    let sender : b.sent.beacon.sender ≡ b.sent.beacon.sender = ap (λ (s : Sent). s.beacon.sender) (sym same) ∙ mail.4 in
    let place = place_is_inside net v b.sent.beacon.sender b.place is.place in
    let inside = place.0 in
    let heard = known.heard v hv in
    record {
      link = link_place_is net v b.sent.beacon.sender ∙ ap (place_of net v) sender ∙ is.place;
      fault = known.no_fault b.sent.beacon.sender v b.sent.beacon.seq allowed.0 b.sent is.sent;
      heard = omega (arith, inside, heard);
    }

can_hear_from : (net : Net) (c : Course) (t : ℕ) (w : World) (v : ℕ) (bs : List Letter) → AreNumbers net → Listens net c t w → IsReachable net w → v < net.nodes
    → AllByRecursion (IsArrival net c (suc t)) (deliver_all v (keys bs)) → Allowed net w (deliver_all v (keys bs)) → AreCarried net w v bs
    → CanHear (params_of net v) bs (alone (member w v))
can_hear_from net c t w v [] numbers listens r hv come allowed is = tt
can_hear_from net c t w v (b ∷ bs) numbers listens r hv come allowed is =
    let p : NodeParams = params_of net v in
    let first : Event = Deliver b.sent.beacon.sender v b.sent.beacon.seq in
    let z : World = effect net w first in
    let quiet : IsQuietWorld w z = run_is_quiet net w (first ∷ []) (tt, tt) in
    let inside : v < length w.members = (let n = listens.count in omega (arith, n, hv)) in
    let after : alone (member z v) ≡ heard_member p b.place b.sent (alone (member w v)) = ap alone (one_heard net w v b inside is.0) in (
      hearable net c t w v b numbers listens r hv come.0 (allowed.0, tt) is.0,
      subst (λ (m : Member). CanHear p bs m) after
          (can_hear_from net c t z v bs numbers (quiet_listens net c t w z quiet listens) (step_is_reachable net w first r allowed.0) hv come.1 allowed.1 (all_carried_on net w z v bs quiet is.1)),
    )

-- what comes to v in a quantum is heard without a fault
pub can_hear : (net : Net) (c : Course) (t : ℕ) (w : World) (v : ℕ) (bs : List Letter) → AreNumbers net → IsCalendar net c t w → InQuantum net c (suc t) w → v < net.nodes
    → AreCarried net w v bs → deliver_all v (keys bs) ≡ deliveries_to net c (suc t) v
    → CanHear (params_of net v) bs (advanced (alone (member w v)) (c.inc v (suc t)))
can_hear net c t w v bs numbers h q hv carried come =
    let y : World = before_node net c (suc t) w v in
    let quiet : IsQuietWorld (begun net c (suc t) w) y = before_is_quiet net c (suc t) w v in
    let reach = before_is_reachable net c (suc t) v w q hv in
    let listens : Listens net c t y = quiet_listens net c t (begun net c (suc t) w) y quiet (begun_listens net c t w h) in
    subst (λ (m : Member). CanHear (params_of net v) bs m) (ap alone (before_member net c (suc t) w v h.count hv))
    (can_hear_from net c t y v bs numbers listens reach.0 hv
    (subst (λ (xs : List Event). AllByRecursion (IsArrival net c (suc t)) xs) (sym come) (arrivals_to net c (suc t) v hv))
    (subst (λ (xs : List Event). Allowed net y xs) (sym come) reach.1)
    (all_carried_on net (begun net c (suc t) w) y v bs quiet (all_carried_begun net c (suc t) w v bs h.count carried)))

-- and then it may tick
pub can_tick : (net : Net) (c : Course) (t : ℕ) (w : World) (v : ℕ) → AreNumbers net → IsCalendar net c t w → InQuantum net c (suc t) w → v < net.nodes → t < 2 ^ 24
    → CanTick (params_of net v) (alone (member (listened net c (suc t) w) v))
can_tick net c t w v numbers h q hv few =
    let z : World = listened net c (suc t) w in
    let known : IsKnown net z = reachable_is_known net z numbers (run_is_reachable net (begun net c (suc t) w) (all_deliveries net c (suc t)) q.begins q.comes) in
    let listens : Listens net c t z = quiet_listens net c t (begun net c (suc t) w) z (listened_is_quiet net c (suc t) w) (begun_listens net c t w h) in
    let count = (known.numbered v hv).count in
    let seq = (listens.each v hv).seq in
    let within = (turn_within net c v t).2 in
    known_tick net z v known hv (omega (arith, count, seq, within, few))
