-- What the events of one quantum are to one member of a world.
use Rattle.std.proofs.Common.{◌≡◌, ◌≢◌, ℕ, ◌+◌, ◌-◌, ◌<◌, inl, inr, arith, ap, sym, refl, ◌∙◌, subst, List, [], ◌∷◌, ◌++◌, length, map, filter, Option, Some, None, Bool, true, false, cond, if◌then◌else◌, min, slice_index, slice_set, length-set}
use Rattle.std.specs.List.{zip, flat_map, range_with_len, AllByRecursion}
use Rattle.std.proofs.lemmas.Bool.{cases_eq, cases_lt, eq-eqb}
use Rattle.std.proofs.lemmas.List.{get_or-map, map-append, set_past, length-map}
use Rattle.std.proofs.lemmas.List.FromFn.{get_or-map-range_with_len, length-map-range_with_len}
use Rattle.std.proofs.lemmas.Slice.Zip.{get_or-zip, length-zip}
use Rattle.gs_core.specs.declared.event.Event.{Event}
use Rattle.gs_core.specs.declared.event.Event.TheVariants.{Quantum, Tick, Deliver}
use Rattle.gs_run.specs.Net.{Net, params_of, neighbours, place_of}
use Rattle.gs_run.specs.World.{World, Member, Sent, nobody, member, with_member, advanced, advance_all, ticked_member, heard_member, deliver, sent_by, effect}
use Rattle.gs_run.specs.Run.{run}
use Rattle.gs_run.proofs.Written.{run_more, member_same, member_other}
use Rattle.gs_calendar.specs.Course.{Course}
use Rattle.gs_calendar.specs.Calendar.{ticks, arrivals}
use Rattle.gs_calendar.specs.Events.{nodes_of, incs_at, deliveries, deliveries_to, ticks_at, quantum_at}
use Rattle.gs_calendar.proofs.Counting.{IsQuiet, same_is_quiet, quiet_then, hear_is_quiet}
use Rattle.gs_calendar.proofs.Parts.{each_map, each_flat, each_weaker, each_any, each_kept, flat_split, filter_split, others_before, others_after}

-- ---- deliveries are quiet

pub record IsQuietWorld (w z : World) : Type 0 where
  pub quanta : z.quanta ≡ w.quanta
  pub count : length z.members ≡ length w.members
  pub each : (v : ℕ) → IsQuiet (member w v) (member z v)

same_is_quiet_world : (w : World) → IsQuietWorld w w
same_is_quiet_world w = record { quanta = refl; count = refl; each = λ v. same_is_quiet (member w v) }

written_is_quiet : (w : World) (to : ℕ) (m : Member) → IsQuiet (member w to) m → (v : ℕ) → IsQuiet (member w v) (member (with_member w to m) v)
written_is_quiet w to m h v = elim (cases_eq v to) [
  | inr other ↦ rw (member_other w to v m other) (same_is_quiet (member w v))
  | inl same ↦
      let P : ℕ → Type 0 = λ u. IsQuiet (member w u) (member (with_member w to m) u) in
      subst P (sym same) (elim (cases_lt to (length w.members)) [
        | inl inside ↦ rw (member_same w to m inside) h
        | inr past ↦ let e : slice_set w.members to m ≡ w.members = set_past w.members to m past in rw e (same_is_quiet (member w to))
      ])
]

deliver_is_quiet : (net : Net) (w : World) (to : ℕ) (place : Option ℕ) (sent : Option Sent) → IsQuietWorld w (deliver net w to place sent)
deliver_is_quiet net w to None None = same_is_quiet_world w
deliver_is_quiet net w to None (Some s) = same_is_quiet_world w
deliver_is_quiet net w to (Some i) None = same_is_quiet_world w
deliver_is_quiet net w to (Some i) (Some s) = record {
  quanta = refl;
  count = length-set w.members to (heard_member (params_of net to) i s (member w to));
  each = written_is_quiet w to (heard_member (params_of net to) i s (member w to)) (hear_is_quiet (params_of net to) i s (member w to));
}

abbrev pub IsDelivery : Event → Type 0
IsDelivery (Quantum incs) = ⊥
IsDelivery (Tick v) = ⊥
IsDelivery (Deliver from to seq) = Unit {0}

pub run_is_quiet : (net : Net) (w : World) (es : List Event) → AllByRecursion IsDelivery es → IsQuietWorld w (run net w es)
run_is_quiet net w [] h = same_is_quiet_world w
run_is_quiet net w (Quantum incs ∷ es) h = absurd h.0
run_is_quiet net w (Tick v ∷ es) h = absurd h.0
run_is_quiet net w (Deliver from to seq ∷ es) h =
    let z : World = effect net w (Deliver from to seq) in
    let one : IsQuietWorld w z = deliver_is_quiet net w to (place_of net to from) (sent_by w from seq) in
    let rest : IsQuietWorld z (run net z es) = run_is_quiet net z es h.1 in
    record {
      quanta = rest.quanta ∙ one.quanta;
      count = rest.count ∙ one.count;
      each = λ v. quiet_then (member w v) (member z v) (member (run net z es) v) (one.each v) (rest.each v);
    }

pub deliveries_from : (from to : ℕ) (bs : List (ℕ × ℕ)) → AllByRecursion IsDelivery (deliveries from to bs)
deliveries_from from to bs = each_map IsDelivery (λ b. Deliver from to b.1) bs (each_any _ (λ b. tt) bs)

pub deliveries_at : (net : Net) (c : Course) (t to : ℕ) → AllByRecursion IsDelivery (deliveries_to net c t to)
deliveries_at net c t to = each_flat IsDelivery (λ from. deliveries from to (arrivals net c from to t)) (neighbours net to) (each_any _ (λ from. deliveries_from from to (arrivals net c from to t)) (neighbours net to))

pub are_deliveries : (net : Net) (c : Course) (t : ℕ) (tos : List ℕ) → AllByRecursion IsDelivery (flat_map (deliveries_to net c t) tos)
are_deliveries net c t tos = each_flat IsDelivery (deliveries_to net c t) tos (each_any _ (deliveries_at net c t) tos)

-- ---- events of other nodes

-- an event that leaves v alone
abbrev pub IsElsewhere : ℕ → Event → Type 0
IsElsewhere v (Quantum incs) = ⊥
IsElsewhere v (Tick u) = u ≢ v
IsElsewhere v (Deliver from to seq) = to ≢ v

deliver_elsewhere : (net : Net) (w : World) (v to : ℕ) (place : Option ℕ) (sent : Option Sent) → to ≢ v → member (deliver net w to place sent) v ≡ member w v
deliver_elsewhere net w v to None None other = refl
deliver_elsewhere net w v to None (Some s) other = refl
deliver_elsewhere net w v to (Some i) None other = refl
deliver_elsewhere net w v to (Some i) (Some s) other = member_other w to v (heard_member (params_of net to) i s (member w to)) (λ e. other (sym e))

pub elsewhere_keeps : (net : Net) (v : ℕ) (w : World) (es : List Event) → AllByRecursion (IsElsewhere v) es → member (run net w es) v ≡ member w v
elsewhere_keeps net v w [] h = refl
elsewhere_keeps net v w (Quantum incs ∷ es) h = absurd h.0
elsewhere_keeps net v w (Tick u ∷ es) h =
    elsewhere_keeps net v (effect net w (Tick u)) es h.1 ∙ member_other w u v (ticked_member (params_of net u) w.quanta (member w u)) (λ e. h.0 (sym e))
elsewhere_keeps net v w (Deliver from to seq ∷ es) h =
    elsewhere_keeps net v (effect net w (Deliver from to seq)) es h.1 ∙ deliver_elsewhere net w v to (place_of net to from) (sent_by w from seq) h.0

pub deliveries_elsewhere : (net : Net) (c : Course) (t v to : ℕ) → to ≢ v → AllByRecursion (IsElsewhere v) (deliveries_to net c t to)
deliveries_elsewhere net c t v to other = each_flat (IsElsewhere v) (λ from. deliveries from to (arrivals net c from to t)) (neighbours net to)
    (each_any _ (λ from. each_map (IsElsewhere v) (λ b. Deliver from to b.1) (arrivals net c from to t) (each_any _ (λ b. other) (arrivals net c from to t))) (neighbours net to))

pub all_elsewhere : (net : Net) (c : Course) (t v : ℕ) (tos : List ℕ) → AllByRecursion (λ to. to ≢ v) tos → AllByRecursion (IsElsewhere v) (flat_map (deliveries_to net c t) tos)
all_elsewhere net c t v tos h = each_flat (IsElsewhere v) (deliveries_to net c t) tos (each_weaker _ _ (deliveries_elsewhere net c t v) tos h)

ticks_elsewhere : (p : ℕ → Bool) (v : ℕ) (us : List ℕ) → AllByRecursion (λ u. u ≢ v) us → AllByRecursion (IsElsewhere v) (map Tick (filter p us))
ticks_elsewhere p v us h = each_map (IsElsewhere v) Tick (filter p us) (each_weaker _ _ (λ u k. k.0) (filter p us) (each_kept (λ u. u ≢ v) p us h))

-- ---- a quantum adds

advanced_member : (w : World) (incs : List ℕ) (v : ℕ) → v < length w.members → length incs ≡ length w.members → member (advance_all w incs) v ≡ advanced (member w v) (slice_index incs v)
advanced_member w incs v h same =
    let pairs : List (Member × ℕ) = zip w.members incs in
    let inside : v < length incs = rw same h in
    let long : length pairs ≡ min (length w.members) (length incs) = length-zip w.members incs in
    get_or-map (λ (p : Member × ℕ). advanced p.0 p.1) pairs v (nobody, 0) nobody (omega (arith, long, h, inside))
    ∙ ap (λ (p : Member × ℕ). advanced p.0 p.1) (get_or-zip w.members incs v (nobody, 0) h inside)

advanced_count : (w : World) (incs : List ℕ) → length incs ≡ length w.members → length (advance_all w incs).members ≡ length w.members
advanced_count w incs same =
    let long : length (zip w.members incs) ≡ min (length w.members) (length incs) = length-zip w.members incs in
    length-map (zip w.members incs) (λ (p : Member × ℕ). advanced p.0 p.1) ∙ omega (arith, long, same)

incs_count : (net : Net) (c : Course) (t : ℕ) → length (incs_at net c t) ≡ net.nodes
incs_count net c t = length-map-range_with_len (λ v. c.inc v t) 0 net.nodes

-- the world after the first event of quantum t, and after its deliveries
abbrev pub begun : Net → Course → ℕ → World → World
begun net c t w = advance_all w (incs_at net c t)

abbrev pub all_deliveries : Net → Course → ℕ → List Event
all_deliveries net c t = flat_map (deliveries_to net c t) (nodes_of net)

abbrev pub listened : Net → Course → ℕ → World → World
listened net c t w = run net (begun net c t w) (all_deliveries net c t)

pub begins : (net : Net) (c : Course) (t : ℕ) (w : World) → length w.members ≡ net.nodes → effect net w (Quantum (incs_at net c t)) ≡ begun net c t w
begins net c t w count = rw (eq-eqb (length (incs_at net c t)) (length w.members) (incs_count net c t ∙ sym count)) refl

pub begun_count : (net : Net) (c : Course) (t : ℕ) (w : World) → length w.members ≡ net.nodes → length (begun net c t w).members ≡ net.nodes
begun_count net c t w count = advanced_count w (incs_at net c t) (incs_count net c t ∙ sym count) ∙ count

pub begun_member : (net : Net) (c : Course) (t : ℕ) (w : World) (v : ℕ) → length w.members ≡ net.nodes → v < net.nodes → member (begun net c t w) v ≡ advanced (member w v) (c.inc v t)
begun_member net c t w v count h =
    advanced_member w (incs_at net c t) v (rw count h) (incs_count net c t ∙ sym count)
    ∙ ap (λ inc. advanced (member w v) inc) (get_or-map-range_with_len (λ v. c.inc v t) 0 net.nodes v v 0 h (omega arith))

pub listened_is_quiet : (net : Net) (c : Course) (t : ℕ) (w : World) → IsQuietWorld (begun net c t w) (listened net c t w)
listened_is_quiet net c t w = run_is_quiet net (begun net c t w) (all_deliveries net c t) (are_deliveries net c t (nodes_of net))

-- ---- ticks

-- a member after a tick, if one comes
abbrev pub ticked_if : Net → ℕ → ℕ → Bool → Member → Member
ticked_if net v t ticking m = if ticking then ticked_member (params_of net v) t m else m

-- ticks take no quantum and no member away
pub record KeepsShape (w z : World) : Type 0 where
  pub quanta : z.quanta ≡ w.quanta
  pub count : length z.members ≡ length w.members

pub ticks_keep : (net : Net) (w : World) (us : List ℕ) → KeepsShape w (run net w (map Tick us))
ticks_keep net w [] = record { quanta = refl; count = refl }
ticks_keep net w (u ∷ us) =
    let rest = ticks_keep net (effect net w (Tick u)) us in
    record { quanta = rest.quanta; count = rest.count ∙ length-set w.members u (ticked_member (params_of net u) w.quanta (member w u)) }

tick_one : (net : Net) (w : World) (v : ℕ) (b : Bool) → v < length w.members → member (run net w (map Tick (cond b (v ∷ []) []))) v ≡ ticked_if net v w.quanta b (member w v)
tick_one net w v true h = member_same w v (ticked_member (params_of net v) w.quanta (member w v)) h
tick_one net w v false h = refl

pub ticks_member : (net : Net) (c : Course) (t : ℕ) (w : World) (v : ℕ) → length w.members ≡ net.nodes → v < net.nodes
    → member (run net w (ticks_at net c t)) v ≡ ticked_if net v w.quanta (ticks net c v t) (member w v)
ticks_member net c t w v count h =
    let q : ℕ → Bool = λ u. ticks net c u t in
    let before : List Event = map Tick (filter q (range_with_len 0 v)) in
    let own : List Event = map Tick (cond (q v) (v ∷ []) []) in
    let after : List Event = map Tick (filter q (range_with_len (v + 1) (net.nodes - v - 1))) in
    let parts : ticks_at net c t ≡ before ++ (own ++ after) =
    ap (map Tick) (filter_split q net.nodes v h)
    ∙ map-append Tick (filter q (range_with_len 0 v)) (cond (q v) (v ∷ []) [] ++ filter q (range_with_len (v + 1) (net.nodes - v - 1)))
    ∙ ap (λ es. before ++ es) (map-append Tick (cond (q v) (v ∷ []) []) (filter q (range_with_len (v + 1) (net.nodes - v - 1)))) in
    let z : World = run net w before in
    let kept : KeepsShape w z = ticks_keep net w (filter q (range_with_len 0 v)) in
    let inside : v < length z.members = (let n = kept.count in omega (arith, n, count, h)) in
    ap (λ es. member (run net w es) v) parts
    ∙ ap (λ x. member x v) (run_more net w before (own ++ after) ∙ run_more net z own after)
    ∙ elsewhere_keeps net v (run net z own) after (ticks_elsewhere q v (range_with_len (v + 1) (net.nodes - v - 1)) (others_after v (net.nodes - v - 1)))
    ∙ tick_one net z v (q v) inside
    ∙ ap (λ n. ticked_if net v n (q v) (member z v)) kept.quanta
    ∙ ap (λ m. ticked_if net v w.quanta (q v) m) (elsewhere_keeps net v w before (ticks_elsewhere q v (range_with_len 0 v) (others_before v)))

-- ---- a quantum

pub quantum_runs : (net : Net) (c : Course) (t : ℕ) (w : World) → length w.members ≡ net.nodes → run net w (quantum_at net c t) ≡ run net (listened net c t w) (ticks_at net c t)
quantum_runs net c t w count =
    ap (λ z. run net z (all_deliveries net c t ++ ticks_at net c t)) (begins net c t w count)
    ∙ run_more net (begun net c t w) (all_deliveries net c t) (ticks_at net c t)

-- what a quantum does to a world's shape
pub quantum_shape : (net : Net) (c : Course) (t : ℕ) (w : World) → length w.members ≡ net.nodes
    → ((run net w (quantum_at net c t)).quanta ≡ w.quanta + 1) × (length (run net w (quantum_at net c t)).members ≡ net.nodes)
quantum_shape net c t w count =
    let quiet = listened_is_quiet net c t w in
    let kept = ticks_keep net (listened net c t w) (filter (λ v. ticks net c v t) (nodes_of net)) in
    let runs = quantum_runs net c t w count in (
      ap (λ (z : World). z.quanta) runs ∙ kept.quanta ∙ quiet.quanta,
      ap (λ (z : World). length z.members) runs ∙ kept.count ∙ quiet.count ∙ begun_count net c t w count,
    )

-- and to one member: it has added and heard, and then ticks where the calendar says
pub quantum_member : (net : Net) (c : Course) (t : ℕ) (w : World) (v : ℕ) → length w.members ≡ net.nodes → v < net.nodes
    → member (run net w (quantum_at net c t)) v ≡ ticked_if net v (w.quanta + 1) (ticks net c v t) (member (listened net c t w) v)
quantum_member net c t w v count h =
    let quiet = listened_is_quiet net c t w in
    ap (λ (z : World). member z v) (quantum_runs net c t w count)
    ∙ ticks_member net c t (listened net c t w) v (quiet.count ∙ begun_count net c t w count) h
    ∙ ap (λ n. ticked_if net v n (ticks net c v t) (member (listened net c t w) v)) quiet.quanta

-- the deliveries to one member alone: those before and after leave it as it is
pub listened_member : (net : Net) (c : Course) (t : ℕ) (w : World) (v : ℕ) → v < net.nodes
    → member (listened net c t w) v ≡ member (run net (run net (begun net c t w) (flat_map (deliveries_to net c t) (range_with_len 0 v))) (deliveries_to net c t v)) v
listened_member net c t w v h =
    let before : List Event = flat_map (deliveries_to net c t) (range_with_len 0 v) in
    let own : List Event = deliveries_to net c t v in
    let after : List Event = flat_map (deliveries_to net c t) (range_with_len (v + 1) (net.nodes - v - 1)) in
    let z : World = run net (begun net c t w) before in
    ap (λ es. member (run net (begun net c t w) es) v) (flat_split (deliveries_to net c t) net.nodes v h)
    ∙ ap (λ x. member x v) (run_more net (begun net c t w) before (own ++ after) ∙ run_more net z own after)
    ∙ elsewhere_keeps net v (run net z own) after (all_elsewhere net c t v (range_with_len (v + 1) (net.nodes - v - 1)) (others_after v (net.nodes - v - 1)))
