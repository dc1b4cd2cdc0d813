-- A quantum of a script, as one node sees it: what comes to it, and its tick.
use Rattle.std.proofs.Common.{◌≡◌, ◌==◌, ℕ, ◌+◌, ◌<◌, arith, ap, sym, refl, ◌∙◌, subst, List, [], ◌∷◌, length, Bool, true, false, find}
use Rattle.std.specs.List.{flat_map, range_with_len}
use Rattle.gs_units.specs.declared.params.NodeParams.{NodeParams}
use Rattle.gs_core.specs.declared.event.Event.{Event}
use Rattle.gs_core.specs.declared.event.Event.TheVariants.{Deliver}
use Rattle.gs_run.specs.Net.{Net, params_of}
use Rattle.gs_run.specs.World.{World, Member, Sent, member, advanced, heard_member, effect, with_member}
use Rattle.gs_run.specs.Run.{run}
use Rattle.gs_run.proofs.Places.{neighbour_is_node}
use Rattle.gs_run.proofs.Written.{member_same}
use Rattle.gs_calendar.specs.Calendar.{ticks}
use Rattle.gs_calendar.specs.Course.{Course}
use Rattle.gs_calendar.specs.Events.{deliveries_to, quantum_at}
use Rattle.gs_calendar.specs.inside.Feeds.{deliver_all}
use Rattle.gs_calendar.proofs.Arrivals.{place_is_inside}
use Rattle.gs_calendar.proofs.OneSeat.{IsQuietWorld, run_is_quiet, are_deliveries, begun, begun_count, begun_member, listened, listened_member, quantum_member, ticked_if, elsewhere_keeps, all_elsewhere}
use Rattle.gs_calendar.proofs.Parts.{others_before}
use Rattle.gs_seat.specs.Alone.{Carries, AreCarried, alone, hears, ticks_alone, quantum_alone}
use Rattle.gs_seat.specs.Letters.{Letter, keys}

-- ---- what was sent is not looked at

pub hears_alone : (p : NodeParams) (bs : List Letter) (m : Member) → alone (hears p bs m) ≡ hears p bs (alone m)
hears_alone p [] m = refl
hears_alone p (b ∷ bs) m = hears_alone p bs (heard_member p b.place b.sent m)

pub tick_alone : (net : Net) (v t : ℕ) (b : Bool) (m : Member) → alone (ticked_if net v t b m) ≡ ticks_alone (params_of net v) t b (alone m)
tick_alone net v t true m = refl
tick_alone net v t false m = refl

-- ---- what comes to one node

-- a beacon is found where it was before deliveries
pub carried_on : (net : Net) (w z : World) (v : ℕ) (b : Letter) → IsQuietWorld w z → Carries net w v b → Carries net z v b
carried_on net w z v b quiet is = record {
  place = is.place;
  sent = ap (λ (xs : List Sent). find (λ s. s.beacon.seq == b.sent.beacon.seq) xs) (quiet.each b.sent.beacon.sender).sent ∙ is.sent;
}

pub all_carried_on : (net : Net) (w z : World) (v : ℕ) (bs : List Letter) → IsQuietWorld w z → AreCarried net w v bs → AreCarried net z v bs
all_carried_on net w z v [] quiet is = tt
all_carried_on net w z v (b ∷ bs) quiet is = (carried_on net w z v b quiet is.0, all_carried_on net w z v bs quiet is.1)

pub one_heard : (net : Net) (w : World) (v : ℕ) (b : Letter) → v < length w.members → Carries net w v b
    → member (effect net w (Deliver b.sent.beacon.sender v b.sent.beacon.seq)) v ≡ heard_member (params_of net v) b.place b.sent (member w v)
one_heard net w v b h is =
    let new : Member = heard_member (params_of net v) b.place b.sent (member w v) in
    let done : effect net w (Deliver b.sent.beacon.sender v b.sent.beacon.seq) ≡ with_member w v new = rw (is.place, is.sent) refl in
    ap (λ (z : World). member z v) done ∙ member_same w v new h

-- the events are heard as the letters
pub all_heard : (net : Net) (w : World) (v : ℕ) (bs : List Letter) → v < length w.members → AreCarried net w v bs
    → member (run net w (deliver_all v (keys bs))) v ≡ hears (params_of net v) bs (member w v)
all_heard net w v [] h is = refl
all_heard net w v (b ∷ bs) h is =
    let z : World = effect net w (Deliver b.sent.beacon.sender v b.sent.beacon.seq) in
    let quiet : IsQuietWorld w z = run_is_quiet net w (Deliver b.sent.beacon.sender v b.sent.beacon.seq ∷ []) (tt, tt) in
    all_heard net z v bs (let n = quiet.count in omega (arith, n, h)) (all_carried_on net w z v bs quiet is.1)
    ∙ ap (λ (m : Member). hears (params_of net v) bs m) (one_heard net w v b h is.0)

-- ---- a quantum

-- what was sent stays as the quantum begins
pub carried_begun : (net : Net) (c : Course) (t : ℕ) (w : World) (v : ℕ) (b : Letter) → length w.members ≡ net.nodes
    → Carries net w v b → Carries net (begun net c t w) v b
carried_begun net c t w v b count is =
    let place = place_is_inside net v b.sent.beacon.sender b.place is.place in
    let node : b.sent.beacon.sender < net.nodes = subst (λ (y : ℕ). y < net.nodes) place.1 (neighbour_is_node net v b.place place.0) in
    record {
      place = is.place;
      sent = ap (λ (m : Member). find (λ s. s.beacon.seq == b.sent.beacon.seq) m.sent) (begun_member net c t w b.sent.beacon.sender count node) ∙ is.sent;
    }

pub all_carried_begun : (net : Net) (c : Course) (t : ℕ) (w : World) (v : ℕ) (bs : List Letter) → length w.members ≡ net.nodes
    → AreCarried net w v bs → AreCarried net (begun net c t w) v bs
all_carried_begun net c t w v [] count is = tt
all_carried_begun net c t w v (b ∷ bs) count is = (carried_begun net c t w v b count is.0, all_carried_begun net c t w v bs count is.1)

-- the world after all that comes to the nodes before v
abbrev pub before_node : Net → Course → ℕ → World → ℕ → World
before_node net c t w v = run net (begun net c t w) (flat_map (deliveries_to net c t) (range_with_len 0 v))

pub before_is_quiet : (net : Net) (c : Course) (t : ℕ) (w : World) (v : ℕ) → IsQuietWorld (begun net c t w) (before_node net c t w v)
before_is_quiet net c t w v = run_is_quiet net (begun net c t w) (flat_map (deliveries_to net c t) (range_with_len 0 v)) (are_deliveries net c t (range_with_len 0 v))

-- there v has added, and no more
pub before_member : (net : Net) (c : Course) (t : ℕ) (w : World) (v : ℕ) → length w.members ≡ net.nodes → v < net.nodes
    → member (before_node net c t w v) v ≡ advanced (member w v) (c.inc v t)
before_member net c t w v count h =
    elsewhere_keeps net v (begun net c t w) (flat_map (deliveries_to net c t) (range_with_len 0 v)) (all_elsewhere net c t v (range_with_len 0 v) (others_before v))
    ∙ begun_member net c t w v count h

-- what v is once all that comes to it in the quantum was heard
pub listened_is_alone : (net : Net) (c : Course) (t : ℕ) (w : World) (v : ℕ) (bs : List Letter)
    → length w.members ≡ net.nodes → v < net.nodes → AreCarried net w v bs
    → deliver_all v (keys bs) ≡ deliveries_to net c t v
    → alone (member (listened net c t w) v) ≡ hears (params_of net v) bs (advanced (alone (member w v)) (c.inc v t))
listened_is_alone net c t w v bs count h carried come =
    let p : NodeParams = params_of net v in
    let y : World = before_node net c t w v in
    let quiet : IsQuietWorld (begun net c t w) y = before_is_quiet net c t w v in
    let inside : v < length y.members = (let a = quiet.count in let d = begun_count net c t w count in omega (arith, a, d, h)) in
    let here : AreCarried net y v bs = all_carried_on net (begun net c t w) y v bs quiet (all_carried_begun net c t w v bs count carried) in
    ap alone
    (listened_member net c t w v h
    ∙ ap (λ (xs : List Event). member (run net y xs) v) (sym come)
    ∙ all_heard net y v bs inside here
    ∙ ap (hears p bs) (before_member net c t w v count h))
    ∙ hears_alone p bs (advanced (member w v) (c.inc v t))

-- What a node does in a quantum is just the world's events for it: its clock adds, it hears what comes, and it ticks
-- where the calendar says.
pub quantum_is_alone : (net : Net) (c : Course) (t : ℕ) (w : World) (v : ℕ) (bs : List Letter) → w.quanta + 1 ≡ t
    → length w.members ≡ net.nodes → v < net.nodes → AreCarried net w v bs
    → deliver_all v (keys bs) ≡ deliveries_to net c t v
    → alone (member (run net w (quantum_at net c t)) v)
    ≡ quantum_alone (params_of net v) t (c.inc v t) (ticks net c v t) bs (alone (member w v))
quantum_is_alone net c t w v bs now count h carried come =
    let b : Bool = ticks net c v t in
    ap alone (quantum_member net c t w v count h ∙ ap (λ (n : ℕ). ticked_if net v n b (member (listened net c t w) v)) now)
    ∙ tick_alone net v t b (member (listened net c t w) v)
    ∙ ap (ticks_alone (params_of net v) t b) (listened_is_alone net c t w v bs count h carried come)

-- A quantum in which nothing comes and nothing ticks only adds.
pub idle_quantum : (net : Net) (c : Course) (t : ℕ) (w : World) (v : ℕ) → w.quanta + 1 ≡ t
    → length w.members ≡ net.nodes → v < net.nodes → deliveries_to net c t v ≡ [] → ticks net c v t ≡ false
    → alone (member (run net w (quantum_at net c t)) v) ≡ advanced (alone (member w v)) (c.inc v t)
idle_quantum net c t w v now count h none still =
    quantum_is_alone net c t w v [] now count h tt (sym none)
    ∙ ap (λ (b : Bool). ticks_alone (params_of net v) t b (advanced (alone (member w v)) (c.inc v t))) still
