-- What was sent stays, from quantum to quantum.
use Rattle.std.proofs.Common.{◌≡◌, ◌==◌, ◌+◌, ◌<◌, ◌≤◌, ℕ, suc, arith, ap, refl, ◌∙◌, subst, List, [], ◌∷◌, ◌++◌, Option, Some, None, Bool, true, false, find, if◌then◌else◌}
use Rattle.std.specs.List.{AllByRecursion}
use Rattle.std.specs.Option.{option_or}
use Rattle.std.proofs.lemmas.Bool.{ne_eqb, eq-eqb}
use Rattle.std.proofs.lemmas.List.Folds.{find-append}
use Rattle.gs_beacon.specs.declared.beacon.Beacon.{Beacon}
use Rattle.gs_core.specs.Node.{beacon_of}
use Rattle.gs_run.specs.Net.{Net, params_of}
use Rattle.gs_run.specs.World.{World, Member, Sent, member, sends, sent_by}
use Rattle.gs_run.specs.Run.{run}
use Rattle.gs_run.proofs.Places.{neighbour_is_node}
use Rattle.gs_calendar.specs.Calendar.{ticks}
use Rattle.gs_calendar.specs.Course.{Course}
use Rattle.gs_calendar.specs.Events.{quantum_at}
use Rattle.gs_calendar.proofs.Agree.{IsCalendar}
use Rattle.gs_calendar.proofs.Arrivals.{place_is_inside}
use Rattle.gs_calendar.proofs.OneSeat.{listened, listened_is_quiet, begun_member, quantum_member, ticked_if}
use Rattle.gs_seat.specs.Alone.{Carries, AreCarried}
use Rattle.gs_seat.specs.Letters.{Letter}

-- ---- one node's list

-- the beacons after a tick, if one comes
sent_if : (net : Net) (v t : ℕ) (b : Bool) (m : Member) → (ticked_if net v t b m).sent ≡ (if b then sends m.sent t (beacon_of (params_of net v) m.node m.reading) else m.sent)
sent_if net v t true m = refl
sent_if net v t false m = refl

-- after deliveries a node has sent what it had sent
listened_sent : (net : Net) (c : Course) (t : ℕ) (w : World) (v : ℕ) → IsCalendar net c t w → v < net.nodes → (member (listened net c (suc t) w) v).sent ≡ (member w v).sent
listened_sent net c t w v h hv = ((listened_is_quiet net c (suc t) w).each v).sent ∙ ap (λ (m : Member). m.sent) (begun_member net c (suc t) w v h.count hv)

-- what a quantum adds to what it sent
pub sent_next : (net : Net) (c : Course) (t : ℕ) (w : World) (v : ℕ) → IsCalendar net c t w → v < net.nodes
    → let m : Member = member (listened net c (suc t) w) v in
    (member (run net w (quantum_at net c (suc t))) v).sent
    ≡ (if ticks net c v (suc t) then sends (member w v).sent (suc t) (beacon_of (params_of net v) m.node m.reading) else (member w v).sent)
sent_next net c t w v h hv =
    let m : Member = member (listened net c (suc t) w) v in
    let b : Bool = ticks net c v (suc t) in
    let p = params_of net v in
    let now : w.quanta + 1 ≡ suc t = (let q = h.quanta in omega (arith, q)) in
    ap (λ (x : Member). x.sent) (quantum_member net c (suc t) w v h.count hv)
    ∙ ap (λ (n : ℕ). (ticked_if net v n b m).sent) now
    ∙ sent_if net v (suc t) b m
    ∙ ap (λ (xs : List Sent). if b then sends xs (suc t) (beacon_of p m.node m.reading) else xs) (listened_sent net c t w v h hv)

-- ---- what is found stays

found_more : (seq t : ℕ) (xs : List Sent) (o : Option Beacon) (s : Sent) → find (λ x. x.beacon.seq == seq) xs ≡ Some s → find (λ x. x.beacon.seq == seq) (sends xs t o) ≡ Some s
found_more seq t xs None s e = e
found_more seq t xs (Some b) s e =
    let new : List Sent = record { quantum = t; beacon = b } ∷ [] in
    find-append (λ x. x.beacon.seq == seq) xs new ∙ ap (λ o. option_or o (find (λ x. x.beacon.seq == seq) new)) e

found_if : (seq t : ℕ) (xs : List Sent) (b : Bool) (o : Option Beacon) (s : Sent) → find (λ x. x.beacon.seq == seq) xs ≡ Some s → find (λ x. x.beacon.seq == seq) (if b then sends xs t o else xs) ≡ Some s
found_if seq t xs true o s e = found_more seq t xs o s e
found_if seq t xs false o s e = e

pub sent_stays : (net : Net) (c : Course) (t : ℕ) (w : World) (x seq : ℕ) (s : Sent) → IsCalendar net c t w → x < net.nodes → sent_by w x seq ≡ Some s
    → sent_by (run net w (quantum_at net c (suc t))) x seq ≡ Some s
sent_stays net c t w x seq s h hx found =
    let m : Member = member (listened net c (suc t) w) x in
    ap (λ (xs : List Sent). find (λ y. y.beacon.seq == seq) xs) (sent_next net c t w x h hx)
    ∙ found_if seq (suc t) (member w x).sent (ticks net c x (suc t)) (beacon_of (params_of net x) m.node m.reading) s found

-- the sender of what is carried is a node
pub sender_is_node : (net : Net) (w : World) (v : ℕ) (b : Letter) → Carries net w v b → b.sent.beacon.sender < net.nodes
sender_is_node net w v b is =
    let place = place_is_inside net v b.sent.beacon.sender b.place is.place in
    subst (λ (y : ℕ). y < net.nodes) place.1 (neighbour_is_node net v b.place place.0)

-- so is what is carried
pub carried_next : (net : Net) (c : Course) (t : ℕ) (w : World) (v : ℕ) (b : Letter) → IsCalendar net c t w → Carries net w v b
    → Carries net (run net w (quantum_at net c (suc t))) v b
carried_next net c t w v b h is = record { place = is.place; sent = sent_stays net c t w b.sent.beacon.sender b.sent.beacon.seq b.sent h (sender_is_node net w v b is) is.sent }

pub all_carried_next : (net : Net) (c : Course) (t : ℕ) (w : World) (v : ℕ) (bs : List Letter) → IsCalendar net c t w
    → AreCarried net w v bs → AreCarried net (run net w (quantum_at net c (suc t))) v bs
all_carried_next net c t w v [] h is = tt
all_carried_next net c t w v (b ∷ bs) h is = (carried_next net c t w v b h is.0, all_carried_next net c t w v bs h is.1)

-- ---- what a tick sends

none_found : (xs : List Sent) (k n : ℕ) → n < k → AllByRecursion (λ s. s.beacon.seq ≤ n) xs → find (λ x. x.beacon.seq == k) xs ≡ None
none_found [] k n less h = refl
none_found (s ∷ xs) k n less h = let other : (s.beacon.seq == k) ≡ false = ne_eqb s.beacon.seq k (λ e. omega (arith, e, less, h.0)) in rw other (none_found xs k n less h.1)

new_found : (xs : List Sent) (s : Sent) (k n : ℕ) → s.beacon.seq ≡ k → n < k → AllByRecursion (λ x. x.beacon.seq ≤ n) xs → find (λ x. x.beacon.seq == k) (xs ++ s ∷ []) ≡ Some s
new_found xs s k n e less h =
    find-append (λ x. x.beacon.seq == k) xs (s ∷ [])
    ∙ ap (λ o. option_or o (find (λ x. x.beacon.seq == k) (s ∷ []))) (none_found xs k n less h)
    ∙ (let own : (s.beacon.seq == k) ≡ true = eq-eqb s.beacon.seq k e in rw own refl)

-- the beacon that v gives in quantum t + 1 is found in the world after it
pub given_is_found : (net : Net) (c : Course) (t : ℕ) (w : World) (v : ℕ) (b : Beacon) → IsCalendar net c t w → v < net.nodes → ticks net c v (suc t) ≡ true
    → (let m : Member = member (listened net c (suc t) w) v in beacon_of (params_of net v) m.node m.reading ≡ Some b) → (member w v).node.seq < b.seq
    → sent_by (run net w (quantum_at net c (suc t))) v b.seq ≡ Some (record { quantum = suc t; beacon = b })
given_is_found net c t w v b h hv ticking given more =
    let m : Member = member (listened net c (suc t) w) v in
    let xs : List Sent = (member w v).sent in
    let s : Sent = record { quantum = suc t; beacon = b } in
    ap (λ (ys : List Sent). find (λ x. x.beacon.seq == b.seq) ys)
    (sent_next net c t w v h hv
    ∙ ap (λ (y : Bool). if y then sends xs (suc t) (beacon_of (params_of net v) m.node m.reading) else xs) ticking
    ∙ ap (λ (o : Option Beacon). sends xs (suc t) o) given)
    ∙ new_found xs s b.seq (member w v).node.seq refl more (h.each v hv).numbers
