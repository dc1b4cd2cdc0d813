-- The clocks of a script: a quantum adds to them, and what is heard and ticks in it leave them as they are.
use Rattle.std.proofs.Common.{◌≡◌, ℕ, suc, ◌+◌, ◌-◌, ◌*◌, ◌<◌, ◌≤◌, inl, inr, arith, ap, sym, refl, ◌∙◌, subst, List, [], ◌∷◌, length, Option, Some, None, Bool, true, false, if◌then◌else◌}
use Rattle.std.specs.List.{AllByRecursion}
use Rattle.std.proofs.lemmas.Bool.{cases_eq}
use Rattle.std.proofs.lemmas.List.{get_or-map, length-map, same_lists}
use Rattle.gs_units.specs.Rates.{steer_of}
use Rattle.gs_units.specs.declared.params.NodeParams.{NodeParams}
use Rattle.gs_units.specs.declared.rate.Mode.{Mode}
use Rattle.gs_units.specs.declared.rate.Mode.TheVariants.{Slow, Fast}
use Rattle.gs_units.specs.declared.rate.Rate.{Rate}
use Rattle.gs_beacon.specs.declared.beacon.Beacon.{Beacon}
use Rattle.gs_estimate.specs.Entries.{entry_at, is_fresh}
use Rattle.gs_core.specs.Node.{Node, clock_of, ticked, delivered_at, freshened, link_at, link_place}
use Rattle.gs_core.specs.declared.event.Event.{Event}
use Rattle.gs_core.specs.declared.event.Event.TheVariants.{Quantum, Tick, Deliver}
use Rattle.gs_run.specs.Net.{Net, params_of, place_of}
use Rattle.gs_run.specs.Run.{run}
use Rattle.gs_run.specs.World.{World, Member, Sent, advanced, clock_in, clocks_in, deliver, effect, heard_member, member, nobody, sent_by, with_member}
use Rattle.gs_run.proofs.Written.{member_other, member_same}
use Rattle.gs_calendar.specs.Calendar.{ticks}
use Rattle.gs_calendar.specs.Course.{Course}
use Rattle.gs_calendar.specs.Events.{nodes_of}
use Rattle.gs_calendar.proofs.OneSeat.{IsDelivery, IsQuietWorld, all_deliveries, are_deliveries, begun, begun_count, begun_member, listened, quantum_member, run_is_quiet, ticked_if}
use Rattle.gs_seat.specs.Worlds.{part_at, part_begun, world_of}
use Rattle.gs_seat.proofs.Turning.{next_world, world_agrees}

-- the clock of a member
abbrev pub clock_now : Rate → Member → ℕ
clock_now rate m = clock_of rate m.node m.reading

-- ---- a beacon comes

fresh_clock : (p : NodeParams) (rate : Rate) (n : Node) (i : ℕ) (b : Beacon) (now r : ℕ) (fresh : Bool)
    → clock_of rate (if fresh then freshened p.rate (link_at p i) n i b now else record n { last = now }) r ≡ clock_of rate n r
fresh_clock p rate n i b now r true = refl
fresh_clock p rate n i b now r false = refl

heard_clock : (p : NodeParams) (rate : Rate) (n : Node) (b : Beacon) (now r : ℕ) (o : Option ℕ) → clock_of rate (delivered_at p n b now o) r ≡ clock_of rate n r
heard_clock p rate n b now r None = refl
heard_clock p rate n b now r (Some i) = fresh_clock p rate n i b now r (is_fresh (entry_at n.entries i) b.seq)

written_clock : (net : Net) (w : World) (to v : ℕ) (m : Member) → v < length w.members → clock_now net.rate m ≡ clock_in net w to → clock_in net (with_member w to m) v ≡ clock_in net w v
written_clock net w to v m inside same = elim (cases_eq v to) [
  | inl own ↦ subst (λ (u : ℕ). u < length w.members → clock_in net (with_member w to m) u ≡ clock_in net w u) (sym own)
      (λ here. ap (clock_now net.rate) (member_same w to m here) ∙ same) inside
  | inr other ↦ ap (clock_now net.rate) (member_other w to v m other)
]

delivered_clock : (net : Net) (w : World) (to v : ℕ) (o : Option ℕ) (s : Option Sent) → v < length w.members → clock_in net (deliver net w to o s) v ≡ clock_in net w v
delivered_clock net w to v None None inside = refl
delivered_clock net w to v None (Some s) inside = refl
delivered_clock net w to v (Some i) None inside = refl
delivered_clock net w to v (Some i) (Some s) inside =
    let m : Member = member w to in
    written_clock net w to v (heard_member (params_of net to) i s m) inside
    (heard_clock (params_of net to) net.rate m.node s.beacon m.reading m.reading (link_place (params_of net to) s.beacon.sender))

all_heard_clock : (net : Net) (w : World) (v : ℕ) (es : List Event) → v < length w.members → AllByRecursion IsDelivery es → clock_in net (run net w es) v ≡ clock_in net w v
all_heard_clock net w v [] inside h = refl
all_heard_clock net w v (Quantum incs ∷ es) inside h = absurd h.0
all_heard_clock net w v (Tick u ∷ es) inside h = absurd h.0
all_heard_clock net w v (Deliver from to seq ∷ es) inside h =
    let quiet : IsQuietWorld w (effect net w (Deliver from to seq)) = run_is_quiet net w (Deliver from to seq ∷ []) (tt, tt) in
    all_heard_clock net (effect net w (Deliver from to seq)) v es (let n = quiet.count in omega (arith, n, inside)) h.1
    ∙ delivered_clock net w to v (place_of net to from) (sent_by w from seq) inside

-- ---- a tick

-- nothing is added in no time
still : (rate : Rate) (mode : Mode) (r : ℕ) → steer_of rate mode (r - r) ≡ 0
still rate Slow r = omega arith
still rate Fast r =
    let none : r - r ≡ 0 = omega arith in
    let product : 0 * rate.mu ≡ 0 = omega arith in
    rw (none, product) refl

ticked_clock : (net : Net) (v t : ℕ) (b : Bool) (m : Member) → clock_now net.rate (ticked_if net v t b m) ≡ clock_now net.rate m
ticked_clock net v t true m =
    let none = still net.rate (ticked (params_of net v) m.node m.reading).mode m.reading in
    omega (arith, none)
ticked_clock net v t false m = refl

-- ---- a quantum

-- at its end a clock is what it was when the quantum had begun
pub next_clock : (net : Net) (c : Course) (t v : ℕ) → v < net.nodes → clock_in net (world_of net c (suc t)) v ≡ clock_now net.rate (part_begun net c t v)
next_clock net c t v hv =
    let w : World = world_of net c t in
    let count = (world_agrees net c t).count in
    let many = begun_count net c (suc t) w count in
    ap (λ (z : World). clock_in net z v) (next_world net c t)
    ∙ ap (clock_now net.rate) (quantum_member net c (suc t) w v count hv)
    ∙ ticked_clock net v (w.quanta + 1) (ticks net c v (suc t)) (member (listened net c (suc t) w) v)
    ∙ all_heard_clock net (begun net c (suc t) w) v (all_deliveries net c (suc t)) (omega (arith, many, hv)) (are_deliveries net c (suc t) (nodes_of net))
    ∙ ap (clock_now net.rate) (begun_member net c (suc t) w v count hv)

pub next_clocks : (net : Net) (c : Course) (t : ℕ) → clocks_in net (begun net c (suc t) (world_of net c t)) ≡ clocks_in net (world_of net c (suc t))
next_clocks net c t =
    let w : World = world_of net c t in
    let y : World = begun net c (suc t) w in
    let z : World = world_of net c (suc t) in
    let count = (world_agrees net c t).count in
    let many = begun_count net c (suc t) w count in
    let more = (world_agrees net c (suc t)).count in
    let long_y = length-map y.members (clock_now net.rate) in
    let long_z = length-map z.members (clock_now net.rate) in
    same_lists (clocks_in net y) (clocks_in net z) (omega (arith, long_y, long_z, many, more)) (λ k d h.
    let hk : k < net.nodes = omega (arith, h, long_y, many) in
    get_or-map (clock_now net.rate) y.members k nobody d (omega (arith, many, hk))
    ∙ ap (clock_now net.rate) (begun_member net c (suc t) w k count hk)
    ∙ sym (next_clock net c t k hk)
    ∙ sym (get_or-map (clock_now net.rate) z.members k nobody d (omega (arith, more, hk))))

-- a slow clock adds what its hardware clock adds
slow_adds : (l at r inc : ℕ) → at ≤ r → l + (r + inc - at) ≡ l + (r - at) + inc
slow_adds l at r inc le = omega (arith, le)

slow_clock : (rate : Rate) (m : Member) (inc : ℕ) → m.node.mode ≡ Slow → m.node.at ≤ m.reading → clock_now rate (advanced m inc) ≡ clock_now rate m + inc
slow_clock rate m inc slow le = rw slow (slow_adds m.node.l m.node.at m.reading inc le)

pub next_slow : (net : Net) (c : Course) (t v : ℕ) → v < net.nodes → (part_at net c t v).node.mode ≡ Slow → (part_at net c t v).node.at ≤ (part_at net c t v).reading
    → clock_in net (world_of net c (suc t)) v ≡ clock_in net (world_of net c t) v + c.inc v (suc t)
next_slow net c t v hv slow le = next_clock net c t v hv ∙ slow_clock net.rate (part_at net c t v) (c.inc v (suc t)) slow le
