-- What a world has heard is the calendar's: over each edge the newest beacon's quantum and sequence.
use Rattle.std.proofs.Common.{◌≡◌, ◌≢◌, ℕ, zero, suc, ◌+◌, ◌-◌, ◌<◌, ◌≤◌, arith, ap, sym, refl, ◌∙◌, subst, List, [], ◌∷◌, ◌++◌, length, map, filter, Some, Bool, true, false, cond, slice_index}
use Rattle.std.specs.List.{AllByRecursion, flat_map, range_with_len}
use Rattle.std.proofs.lemmas.List.{get_or-map, length-map}
use Rattle.std.proofs.lemmas.List.Concat.{flat_map-append}
use Rattle.std.proofs.lemmas.Option.{same_Some}
use Rattle.gs_units.specs.declared.params.Link.{Link}
use Rattle.gs_estimate.specs.Entries.{entry_at}
use Rattle.gs_estimate.specs.declared.slots.Entry.{Entry}
use Rattle.gs_core.specs.Node.{link_place}
use Rattle.gs_core.specs.declared.event.Event.{Event}
use Rattle.gs_core.specs.declared.event.Event.TheVariants.{Quantum, Tick, Deliver}
use Rattle.gs_run.specs.Net.{Net, Adjacent, params_of, link_of, neighbours, neighbour, place_of}
use Rattle.gs_run.specs.World.{World, Member, Sent, member, with_member, heard_member, sent_by, effect, member_at_start, world_from}
use Rattle.gs_run.specs.Run.{run}
use Rattle.gs_run.proofs.Places.{neighbour_is_next, neighbour_is_node}
use Rattle.gs_run.proofs.Start.{start_member}
use Rattle.gs_calendar.specs.Course.{Course}
use Rattle.gs_calendar.specs.Calendar.{Newest, newer, newest, none_heard, heard_at, ticks, arrivals}
use Rattle.gs_calendar.specs.Events.{deliveries, deliveries_to, quantum_at}
use Rattle.gs_calendar.proofs.Parts.{each_map, each_flat, each_weaker, each_any, each_kept, each_in_range, filter_split, others_before}
use Rattle.gs_calendar.proofs.Counting.{newest_in, same_newest, hears_newer, hears_elsewhere}
use Rattle.gs_run.proofs.Written.{run_more, member_same}
use Rattle.gs_run.proofs.Current.{link_place_is}
use Rattle.gs_calendar.proofs.OneSeat.{IsDelivery, IsQuietWorld, all_elsewhere, run_is_quiet, begun, begun_member, listened, listened_member, ticked_if, quantum_member, elsewhere_keeps, are_deliveries, deliveries_from}
use Rattle.gs_calendar.proofs.Agree.{HasMail, IsCalendar, Listens, begun_listens, quiet_listens, world_at, world_next, run_agrees}
use Rattle.gs_calendar.proofs.Arrivals.{IsAged, Arrives, arrivals_are_aged, neighbour_has_place, place_is_inside}

-- ---- places

-- two neighbours have two places
places_apart : (net : Net) (v x y i j : ℕ) → place_of net v x ≡ Some i → place_of net v y ≡ Some j → y ≢ x → i ≢ j
places_apart net v x y i j at_x at_y other same =
    other (sym (place_is_inside net v y j at_y).1 ∙ ap (neighbour net v) (sym same) ∙ (place_is_inside net v x i at_x).1)

-- ---- one delivery

-- the delivery of a beacon that arrives is heard over its place
pub record IsHeardOver (net : Net) (w : World) (from to seq quantum : ℕ) : Type 0 where
  pub place : ℕ
  pub sent : Sent
  pub at : place_of net to from ≡ Some place
  pub link : link_place (params_of net to) sent.beacon.sender ≡ Some place
  pub quantum_is : sent.quantum ≡ quantum
  pub seq_is : sent.beacon.seq ≡ seq
  pub is : member (effect net w (Deliver from to seq)) to ≡ heard_member (params_of net to) place sent (member w to)

pub delivery_is : (net : Net) (c : Course) (t : ℕ) (w : World) (from to seq : ℕ) → Listens net c t w → (a : Arrives net c (suc t) from to seq) → IsHeardOver net w from to seq a.quantum
delivery_is net c t w from to seq h a =
    let place = neighbour_has_place net to from a.sender a.near in
    let before = a.aged.before in
    let mail : HasMail from (member w from).sent a.quantum seq = (h.each from a.sender).mails a.quantum seq (omega (arith, before)) a.aged.sent in
    let new : Member = heard_member (params_of net to) place.0 mail.0 (member w to) in
    let found : sent_by w from seq ≡ Some mail.0 = mail.1 in
    let is : effect net w (Deliver from to seq) ≡ with_member w to new = rw (place.1, found) refl in
    record {
      place = place.0;
      sent = mail.0;
      at = place.1;
      link = link_place_is net to mail.0.beacon.sender ∙ ap (place_of net to) mail.4 ∙ place.1;
      quantum_is = mail.2;
      seq_is = mail.3;
      is = ap (λ (z : World). member z to) is ∙ member_same w to new (let n = h.count in let inside = a.node in omega (arith, n, inside));
    }

own_delivery : (net : Net) (c : Course) (t : ℕ) (w : World) (v x i seq : ℕ) → Listens net c t w → place_of net v x ≡ Some i → (a : Arrives net c (suc t) x v seq)
    → newest_in (member (effect net w (Deliver x v seq)) v) i ≡ newer (newest_in (member w v) i) a.quantum seq
own_delivery net c t w v x i seq h at a =
    let over = delivery_is net c t w x v seq h a in
    let same : over.place ≡ i = same_Some over.place i (sym over.at ∙ at) in
    let inside = (place_is_inside net v x i at).0 in
    let link : link_place (params_of net v) over.sent.beacon.sender ≡ Some i = over.link ∙ ap (λ (k : ℕ). Some k) same in
    let agrees = h.each v a.node in
    let places = agrees.places in
    let entries = agrees.entries in
    ap (λ (m : Member). newest_in m i) (over.is ∙ ap (λ (k : ℕ). heard_member (params_of net v) k over.sent (member w v)) same)
    ∙ hears_newer (params_of net v) i over.sent (member w v) link (omega (arith, inside, places)) (omega (arith, inside, entries))
    ∙ ap (λ (q : ℕ). newer (newest_in (member w v) i) q over.sent.beacon.seq) over.quantum_is
    ∙ ap (λ (k : ℕ). newer (newest_in (member w v) i) a.quantum k) over.seq_is

other_delivery : (net : Net) (c : Course) (t : ℕ) (w : World) (v x i from seq : ℕ) → Listens net c t w → place_of net v x ≡ Some i → from ≢ x → Arrives net c (suc t) from v seq
    → newest_in (member (effect net w (Deliver from v seq)) v) i ≡ newest_in (member w v) i
other_delivery net c t w v x i from seq h at other a =
    let over = delivery_is net c t w from v seq h a in
    ap (λ (m : Member). newest_in m i) over.is ∙ hears_elsewhere (params_of net v) over.place i over.sent (member w v) over.link (places_apart net v x from i over.place at over.at other)

-- ---- the deliveries of one edge, and of the others to the same node

own_deliveries : (net : Net) (c : Course) (t : ℕ) (w : World) (v x i : ℕ) (bs : List (ℕ × ℕ)) → Listens net c t w → v < net.nodes → x < net.nodes → Adjacent net v x → place_of net v x ≡ Some i
    → AllByRecursion (IsAged net c x v (suc t)) bs → newest_in (member (run net w (deliveries x v bs)) v) i ≡ newest (newest_in (member w v) i) bs
own_deliveries net c t w v x i [] h hv hx near at all = refl
own_deliveries net c t w v x i (b ∷ bs) h hv hx near at all =
    let z : World = effect net w (Deliver x v b.1) in
    let quiet : IsQuietWorld w z = run_is_quiet net w (Deliver x v b.1 ∷ []) (tt, tt) in
    let a : Arrives net c (suc t) x v b.1 = record { node = hv; sender = hx; near = near; quantum = b.0; aged = all.0 } in
    own_deliveries net c t z v x i bs (quiet_listens net c t w z quiet h) hv hx near at all.1
    ∙ ap (λ (n : Newest). newest n bs) (own_delivery net c t w v x i b.1 h at a)

-- an arrival at v over another edge
abbrev IsOther : Net → Course → ℕ → ℕ → ℕ → Event → Type 0
IsOther net c t v x (Quantum incs) = ⊥
IsOther net c t v x (Tick u) = ⊥
IsOther net c t v x (Deliver from to seq) = (to ≡ v) × (from ≢ x) × Arrives net c t from to seq

other_to : (net : Net) (c : Course) (t : ℕ) (w : World) (v x i from to seq : ℕ) → Listens net c t w → place_of net v x ≡ Some i → to ≡ v → from ≢ x → Arrives net c (suc t) from to seq
    → newest_in (member (effect net w (Deliver from to seq)) v) i ≡ newest_in (member w v) i
other_to net c t w v x i from to seq h at same other a =
    subst (λ (u : ℕ). Arrives net c (suc t) from u seq → newest_in (member (effect net w (Deliver from u seq)) v) i ≡ newest_in (member w v) i) (sym same)
    (λ b. other_delivery net c t w v x i from seq h at other b) a

other_deliveries : (net : Net) (c : Course) (t : ℕ) (w : World) (v x i : ℕ) (es : List Event) → Listens net c t w → place_of net v x ≡ Some i → AllByRecursion (IsOther net c (suc t) v x) es
    → newest_in (member (run net w es) v) i ≡ newest_in (member w v) i
other_deliveries net c t w v x i [] h at all = refl
other_deliveries net c t w v x i (Quantum incs ∷ es) h at all = absurd all.0
other_deliveries net c t w v x i (Tick u ∷ es) h at all = absurd all.0
other_deliveries net c t w v x i (Deliver from to seq ∷ es) h at all =
    let z : World = effect net w (Deliver from to seq) in
    let quiet : IsQuietWorld w z = run_is_quiet net w (Deliver from to seq ∷ []) (tt, tt) in
    let one = all.0 in
    other_deliveries net c t z v x i es (quiet_listens net c t w z quiet h) at all.1 ∙ other_to net c t w v x i from to seq h at one.0 one.1 one.2

-- the deliveries to v from some of its neighbours
abbrev from_some : Net → Course → ℕ → ℕ → List ℕ → List Event
from_some net c t v fs = flat_map (λ from. deliveries from v (arrivals net c from v t)) fs

others_arrive : (net : Net) (c : Course) (t v x from : ℕ) → v < net.nodes → from < net.nodes → Adjacent net v from → from ≢ x → AllByRecursion (IsOther net c t v x) (deliveries from v (arrivals net c from v t))
others_arrive net c t v x from hv hf near other = each_map (IsOther net c t v x) (λ b. Deliver from v b.1) (arrivals net c from v t)
    (each_weaker (IsAged net c from v t) (λ b. (v ≡ v) × (from ≢ x) × Arrives net c t from v b.1) (λ b h. (refl, other, record { node = hv; sender = hf; near = near; quantum = b.0; aged = h }))
    (arrivals net c from v t) (arrivals_are_aged net c from v t))

from_are_deliveries : (net : Net) (c : Course) (t v : ℕ) (fs : List ℕ) → AllByRecursion IsDelivery (from_some net c t v fs)
from_are_deliveries net c t v fs = each_flat IsDelivery (λ from. deliveries from v (arrivals net c from v t)) fs (each_any _ (λ from. deliveries_from from v (arrivals net c from v t)) fs)

-- nodes other than x
abbrev IsApart : Net → ℕ → ℕ → Type 0
IsApart net x y = (y < net.nodes) × (y ≢ x)

some_others : (net : Net) (c : Course) (t v x : ℕ) (fs : List ℕ) → v < net.nodes → AllByRecursion (IsApart net x) fs → AllByRecursion (IsOther net c t v x) (from_some net c t v (filter (net.adjacent v) fs))
some_others net c t v x fs hv h = each_flat (IsOther net c t v x) (λ from. deliveries from v (arrivals net c from v t)) (filter (net.adjacent v) fs)
    (each_weaker _ _ (λ from k. let apart = k.0 in others_arrive net c t v x from hv apart.0 k.1 apart.1) (filter (net.adjacent v) fs) (each_kept (IsApart net x) (net.adjacent v) fs h))

-- those to v are the ones from the neighbours before x, from x, and from those after it
edge_split : (net : Net) (c : Course) (t v x : ℕ) → x < net.nodes → Adjacent net v x
    → deliveries_to net c t v ≡ from_some net c t v (filter (net.adjacent v) (range_with_len 0 x))
    ++ (deliveries x v (arrivals net c x v t) ++ from_some net c t v (filter (net.adjacent v) (range_with_len (x + 1) (net.nodes - x - 1))))
edge_split net c t v x hx near =
    let p : ℕ → Bool = net.adjacent v in
    let f : ℕ → List Event = λ from. deliveries from v (arrivals net c from v t) in
    let before : List ℕ = filter p (range_with_len 0 x) in
    let after : List ℕ = filter p (range_with_len (x + 1) (net.nodes - x - 1)) in
    let own : filter p (range_with_len 0 net.nodes) ≡ before ++ x ∷ after = filter_split p net.nodes x hx ∙ ap (λ (b : Bool). before ++ (cond b (x ∷ []) [] ++ after)) near in
    ap (flat_map f) own ∙ flat_map-append f before (x ∷ after)

-- all that comes to v in a quantum, over the edge from x
deliveries_hear : (net : Net) (c : Course) (t : ℕ) (w : World) (v x i : ℕ) → Listens net c t w → v < net.nodes → x < net.nodes → Adjacent net v x → place_of net v x ≡ Some i
    → newest_in (member (run net w (deliveries_to net c (suc t) v)) v) i ≡ newest (newest_in (member w v) i) (arrivals net c x v (suc t))
deliveries_hear net c t w v x i h hv hx near at =
    let lower : List ℕ = range_with_len 0 x in
    let upper : List ℕ = range_with_len (x + 1) (net.nodes - x - 1) in
    let before : List Event = from_some net c (suc t) v (filter (net.adjacent v) lower) in
    let own : List Event = deliveries x v (arrivals net c x v (suc t)) in
    let after : List Event = from_some net c (suc t) v (filter (net.adjacent v) upper) in
    let y : World = run net w before in
    let z : World = run net y own in
    let first : Listens net c t y = quiet_listens net c t w y (run_is_quiet net w before (from_are_deliveries net c (suc t) v (filter (net.adjacent v) lower))) h in
    let second : Listens net c t z = quiet_listens net c t y z (run_is_quiet net y own (deliveries_from x v (arrivals net c x v (suc t)))) first in
    let low : AllByRecursion (IsOther net c (suc t) v x) before = some_others net c (suc t) v x lower hv (each_weaker _ _ (λ u k. below u k) lower (each_in_range 0 x)) in
    let high : AllByRecursion (IsOther net c (suc t) v x) after = some_others net c (suc t) v x upper hv (each_weaker _ _ (λ u k. above u k) upper (each_in_range (x + 1) (net.nodes - x - 1))) in
    ap (λ (es : List Event). newest_in (member (run net w es) v) i) (edge_split net c (suc t) v x hx near)
    ∙ ap (λ (u : World). newest_in (member u v) i) (run_more net w before (own ++ after) ∙ run_more net y own after)
    ∙ other_deliveries net c t z v x i after second at high
    ∙ own_deliveries net c t y v x i (arrivals net c x v (suc t)) first hv hx near at (arrivals_are_aged net c x v (suc t))
    ∙ ap (λ (n : Newest). newest n (arrivals net c x v (suc t))) (other_deliveries net c t w v x i before h at low)
  where
    below : (u : ℕ) → (0 ≤ u) × (u < 0 + x) → IsApart net x u
    below u k = let less = k.1 in (omega (arith, less, hx), λ e. omega (arith, less, e))

    above : (u : ℕ) → (x + 1 ≤ u) × (u < x + 1 + (net.nodes - x - 1)) → IsApart net x u
    above u k = let more = k.0 in let less = k.1 in (omega (arith, less, hx), λ e. omega (arith, more, e))

-- ---- a quantum

hear_quantum : (net : Net) (c : Course) (t : ℕ) (w : World) (v x i : ℕ) → IsCalendar net c t w → v < net.nodes → x < net.nodes → Adjacent net v x → place_of net v x ≡ Some i
    → newest_in (member (listened net c (suc t) w) v) i ≡ newest (newest_in (member w v) i) (arrivals net c x v (suc t))
hear_quantum net c t w v x i h hv hx near at =
    let z : World = begun net c (suc t) w in
    let before : List Event = flat_map (deliveries_to net c (suc t)) (range_with_len 0 v) in
    let y : World = run net z before in
    let listens : Listens net c t y = quiet_listens net c t z y (run_is_quiet net z before (are_deliveries net c (suc t) (range_with_len 0 v))) (begun_listens net c t w h) in
    ap (λ (m : Member). newest_in m i) (listened_member net c (suc t) w v hv)
    ∙ deliveries_hear net c t y v x i listens hv hx near at
    ∙ ap (λ (m : Member). newest (newest_in m i) (arrivals net c x v (suc t)))
    (elsewhere_keeps net v z before (all_elsewhere net c (suc t) v (range_with_len 0 v) (others_before v)) ∙ begun_member net c (suc t) w v h.count hv)

-- a tick changes nothing that was heard
tick_hears : (net : Net) (v t : ℕ) (b : Bool) (m : Member) (i : ℕ) → newest_in (ticked_if net v t b m) i ≡ newest_in m i
tick_hears net v t true m i = refl
tick_hears net v t false m i = refl

-- Over the place of each neighbour x of v the newest beacon is the calendar's.
abbrev pub IsHeard : Net → Course → ℕ → World → Type 0
IsHeard net c t w = (v x i : ℕ) → v < net.nodes → place_of net v x ≡ Some i → newest_in (member w v) i ≡ heard_at net c x v t

pub quantum_hears : (net : Net) (c : Course) (t : ℕ) (w : World) → IsCalendar net c t w → IsHeard net c t w → IsHeard net c (suc t) (run net w (quantum_at net c (suc t)))
quantum_hears net c t w h heard v x i hv at =
    let place = place_is_inside net v x i at in
    let hx : x < net.nodes = subst (λ (y : ℕ). y < net.nodes) place.1 (neighbour_is_node net v i place.0) in
    let near : Adjacent net v x = subst (λ (y : ℕ). Adjacent net v y) place.1 (neighbour_is_next net v i place.0) in
    ap (λ (m : Member). newest_in m i) (quantum_member net c (suc t) w v h.count hv)
    ∙ tick_hears net v (w.quanta + 1) (ticks net c v (suc t)) (member (listened net c (suc t) w) v) i
    ∙ hear_quantum net c t w v x i h hv hx near at
    ∙ ap (λ (n : Newest). newest n (arrivals net c x v (suc t))) (heard v x i hv at)

-- A run of a script has heard what its calendar says at the end of each quantum, whatever the clocks are.
pub run_hears : (net : Net) (c : Course) (w : World) → IsCalendar net c 0 w → IsHeard net c 0 w → (t : ℕ) → IsHeard net c t (world_at net c w t)
run_hears net c w h heard zero = heard
run_hears net c w h heard (suc t) = subst (λ (z : World). IsHeard net c (suc t) z) (sym (world_next net c w t)) (quantum_hears net c t (world_at net c w t) (run_agrees net c w h t) (run_hears net c w h heard t))

-- nothing is heard at the start
start_hears : (net : Net) (v hw l0 i : ℕ) → i < length (neighbours net v) → newest_in (member_at_start net v hw l0) i ≡ none_heard
start_hears net v hw l0 i h =
    let entry : Entry = record { seq = 0; value = l0; at = hw } in
    let links : List Link = map (link_of net v) (neighbours net v) in
    let none : Entry = record { seq = 0; value = 0; at = 0 } in
    let long : length links ≡ length (neighbours net v) = length-map (neighbours net v) (link_of net v) in
    let quantum : slice_index (map (λ (x : ℕ). 0) (neighbours net v)) i ≡ 0 = get_or-map (λ (x : ℕ). 0) (neighbours net v) i 0 0 h in
    let seq : entry_at (map (λ (link : Link). entry) links) i ≡ entry = get_or-map (λ (link : Link). entry) links i (link_of net v 0) none (omega (arith, h, long)) in
    same_newest _ _ quantum (ap (λ (e : Entry). e.seq) seq)

pub start_is_heard : (net : Net) (c : Course) (hw clocks : ℕ → ℕ) → IsHeard net c 0 (world_from net hw clocks)
start_is_heard net c hw clocks v x i hv at = ap (λ (m : Member). newest_in m i) (start_member net hw clocks v hv) ∙ start_hears net v (hw v) (clocks v) i (place_is_inside net v x i at).0
