-- What a quantum is to a node, from what is in transit to it.
use Rattle.std.proofs.Common.{◌≡◌, ◌+◌, ◌-◌, ◌<◌, ◌≤◌, ◌^◌, ℕ, suc, max, arith, ap, sym, refl, ◌∙◌, subst, List, [], ◌∷◌, ◌++◌, map, Some, None, Bool, true, false, cond, nat_le, slice_index, if◌then◌else◌}
use Rattle.std.specs.List.{AllByRecursion}
use Rattle.std.proofs.lemmas.List.FromFn.{get_or-map-range_with_len}
use Rattle.std.proofs.lemmas.Option.{none-some, same_Some}
use Rattle.gs_beacon.specs.declared.beacon.Beacon.{Beacon}
use Rattle.gs_core.specs.Node.{beacon_of, is_due, clock_of, maximum_of}
use Rattle.gs_core.specs.Steps.{tick_fault}
use Rattle.gs_core.specs.declared.event.Event.{Event}
use Rattle.gs_run.specs.Net.{Net, params_of}
use Rattle.gs_run.specs.World.{World, Member, member, sent_by}
use Rattle.gs_run.specs.Run.{run, Allowed}
use Rattle.gs_run.specs.Reach.{IsReachable}
use Rattle.gs_run.specs.Accepted.{AreNumbers, IsSmall}
use Rattle.gs_run.proofs.Reaching.{IsKnown, reachable_is_known, start_is_reachable}
use Rattle.gs_calendar.specs.Calendar.{ticks, turn, sent_at, gives_next, given_seq}
use Rattle.gs_calendar.specs.Course.{Course}
use Rattle.gs_calendar.specs.Events.{nodes_of, events_upto, quantum_at, deliveries_to}
use Rattle.gs_calendar.specs.inside.Feeds.{deliver_all}
use Rattle.gs_calendar.specs.Scripts.{start_of}
use Rattle.gs_calendar.specs.Stale.{breach_upto}
use Rattle.gs_calendar.proofs.Agree.{IsCalendar, Listens, world_next, run_agrees, start_is_calendar, begun_listens, quiet_listens}
use Rattle.gs_calendar.proofs.Breaches.{unbreached_is_allowed}
use Rattle.gs_calendar.proofs.Calm.{calm_upto}
use Rattle.gs_calendar.proofs.Fitting.{IsCourse}
use Rattle.gs_calendar.proofs.Hearing.{start_is_heard}
use Rattle.gs_calendar.proofs.Lists.{has_filter}
use Rattle.gs_calendar.proofs.OneSeat.{begun, begun_member, listened, listened_is_quiet}
use Rattle.gs_calendar.proofs.Staleness.{breach_is}
use Rattle.gs_calendar.proofs.Waiting.{AreSlow}
use Rattle.gs_seat.specs.Alone.{AreCarried, CanRead, alone, quantum_alone}
use Rattle.gs_seat.specs.Held.{IsHeld, IsWindow}
use Rattle.gs_seat.specs.Letters.{Letter, keys, letters_by}
use Rattle.gs_seat.specs.inside.Turns.{IsTurn}
use Rattle.gs_seat.specs.Worlds.{world_of, part_at, part_begun, WasSent}
use Rattle.gs_seat.proofs.Alone.{listened_is_alone, quantum_is_alone}
use Rattle.gs_seat.proofs.Carried.{given_is_found}
use Rattle.gs_seat.proofs.Faults.{InQuantum, in_quantum, can_read, can_hear, can_tick, allowed_front, allowed_rest, run_is_reachable}
use Rattle.gs_seat.proofs.First.{keys_by}
use Rattle.gs_seat.proofs.Held.{AreLate, held_due}

-- ---- the world of a script

-- delays to a node are at least 1
pub slow : (net : Net) (c : Course) (v : ℕ) → AreNumbers net → IsCourse net c → AreSlow net c v
slow net c v numbers course from t has =
    let near = (has_filter (net.adjacent v) (nodes_of net) from has).1 in
    course.delay_some from v t (numbers.both_ways v from near)

-- what is sent in a window is due after it
pub longer : (m t q soonest delay : ℕ) → t ≤ m + max 1 soonest → m < q → 1 ≤ delay → soonest ≤ delay → t < q + delay
longer m t q soonest delay short after some low = omega (arith, short, after, some, low)

pub window_late : (net : Net) (c : Course) (v m t : ℕ) → AreNumbers net → IsCourse net c → IsWindow net m t → AreLate net c v (λ x. m) t
window_late net c v m t numbers course window x q has after =
    let near = numbers.both_ways v x (has_filter (net.adjacent v) (nodes_of net) x has).1 in
    longer m t q (net.delay_min x v) (c.delay x v q) (window.short x v near) after (course.delay_some x v q near) (course.delay_low x v q near)

pub world_agrees : (net : Net) (c : Course) (t : ℕ) → IsCalendar net c t (world_of net c t)
world_agrees net c t = run_agrees net c (start_of net) (start_is_calendar net c (slice_index (map (λ v. 0) (nodes_of net))) (λ v. 0)) t

pub next_world : (net : Net) (c : Course) (t : ℕ) → world_of net c (suc t) ≡ run net (world_of net c t) (quantum_at net c (suc t))
next_world net c t = world_next net c (start_of net) t

start_is_small : (net : Net) → IsSmall net (slice_index (map (λ v. 0) (nodes_of net))) (λ v. 0)
start_is_small net = record {
  clocks = λ v h. omega arith;
  readings = λ v h. (let z : slice_index (map (λ (u : ℕ). 0) (nodes_of net)) v ≡ 0 = get_or-map-range_with_len (λ (u : ℕ). 0) 0 net.nodes v v 0 h (omega arith) in omega (arith, z));
}

-- where no quantum is a breach, all is allowed
allowed_upto : (net : Net) (c : Course) (t : ℕ) → AreNumbers net → IsCourse net c → t ≤ 2 ^ 24 → breach_upto net c t ≡ None → Allowed net (start_of net) (events_upto net c t)
allowed_upto net c t numbers course few none =
    let readings : ℕ → ℕ = slice_index (map (λ v. 0) (nodes_of net)) in
    let start = start_is_calendar net c readings (λ v. 0) in
    unbreached_is_allowed net (start_of net) (events_upto net c t) (calm_upto net c (start_of net) numbers course start t few)
    (breach_is net c (start_of net) numbers course start (start_is_heard net c readings (λ v. 0)) t few ∙ none)

reachable_upto : (net : Net) (c : Course) (t : ℕ) → Allowed net (start_of net) (events_upto net c t) → IsReachable net (world_of net c t)
reachable_upto net c t allowed =
    run_is_reachable net (start_of net) (events_upto net c t) (start_is_reachable net (slice_index (map (λ v. 0) (nodes_of net))) (λ v. 0) (start_is_small net)) allowed

-- so what is known of allowed runs is known of it
pub known_at : (net : Net) (c : Course) (t : ℕ) → AreNumbers net → IsCourse net c → t ≤ 2 ^ 24 → breach_upto net c t ≡ None → IsKnown net (world_of net c t)
known_at net c t numbers course few none = reachable_is_known net (world_of net c t) numbers (reachable_upto net c t (allowed_upto net c t numbers course few none))

-- and of each world in the next quantum
pub calm_in : (net : Net) (c : Course) (t : ℕ) → AreNumbers net → IsCourse net c → t < 2 ^ 24 → breach_upto net c (suc t) ≡ None → InQuantum net c (suc t) (world_of net c t)
calm_in net c t numbers course few none =
    let before : List Event = events_upto net c t in
    let all : Allowed net (start_of net) (before ++ quantum_at net c (suc t)) = allowed_upto net c (suc t) numbers course (omega (arith, few)) none in
    in_quantum net c (suc t) (world_of net c t) (world_agrees net c t).count (reachable_upto net c t (allowed_front net (start_of net) before (quantum_at net c (suc t)) all))
    (allowed_rest net (start_of net) before (quantum_at net c (suc t)) all)

-- ---- what is due

each_by : (P : Letter → Type 0) (t : ℕ) (bs : List Letter) → AllByRecursion P bs → AllByRecursion P (letters_by t bs)
each_by P t [] all = tt
each_by P t (b ∷ bs) all = pick (nat_le b.due t) (each_by P t bs all.1) where
  pick : (d : Bool) → AllByRecursion P (letters_by t bs) → AllByRecursion P (cond d (b ∷ letters_by t bs) [])
  pick true rest = (all.0, rest)
  pick false rest = tt

-- a node at the end of quantum t, to which all that is due in the next quantum is in transit
pub record IsReady (net : Net) (c : Course) (v t : ℕ) (by : ℕ → ℕ) (bs : List Letter) : Type 0 where
  pub before : (x : ℕ) → by x ≤ t
  pub late : AreLate net c v by (suc t)
  pub held : IsHeld net c v by t (keys bs)
  pub carried : AreCarried net (world_of net c t) v bs

-- what is due is what comes
pub due_comes : (net : Net) (c : Course) (v t : ℕ) (by : ℕ → ℕ) (bs : List Letter) → AreNumbers net → IsCourse net c → IsReady net c v t by bs
    → deliver_all v (keys (letters_by (suc t) bs)) ≡ deliveries_to net c (suc t) v
due_comes net c v t by bs numbers course ready =
    ap (deliver_all v) (keys_by (suc t) bs) ∙ held_due net c v t by (keys bs) (slow net c v numbers course) ready.before ready.late ready.held

-- the part of the world at the end of the next quantum
pub next_part : (net : Net) (c : Course) (v t : ℕ) (by : ℕ → ℕ) (bs : List Letter) → AreNumbers net → IsCourse net c → v < net.nodes → IsReady net c v t by bs
    → part_at net c (suc t) v ≡ quantum_alone (params_of net v) (suc t) (c.inc v (suc t)) (ticks net c v (suc t)) (letters_by (suc t) bs) (part_at net c t v)
next_part net c v t by bs numbers course hv ready =
    let h : IsCalendar net c t (world_of net c t) = world_agrees net c t in
    ap (λ (z : World). alone (member z v)) (next_world net c t)
    ∙ quantum_is_alone net c (suc t) (world_of net c t) v (letters_by (suc t) bs) (let n = h.quanta in omega (arith, n)) h.count hv
    (each_by _ (suc t) bs ready.carried) (due_comes net c v t by bs numbers course ready)

-- ---- what a tick sends

given_by : (d : Bool) (x b : Beacon) → cond d (Some x) None ≡ Some b → (d ≡ true) × (x ≡ b)
given_by true x b e = (refl, same_Some x b e)
given_by false x b e = absurd (none-some b e)

none_by : (d : Bool) (x : Beacon) → cond d (Some x) None ≡ None → d ≡ false
none_by true x e = absurd (none-some x (sym e))
none_by false x e = refl

-- the beacon of a member's next tick
next_beacon : Net → ℕ → Member → Beacon
next_beacon net v m = record { cluster = net.cluster; sender = v; seq = m.node.seq + 1; l = clock_of net.rate m.node m.reading; m = maximum_of net.rate m.node m.reading }

-- its number, if it gives one
given_number : (net : Net) (v : ℕ) (m : Member) (b : Beacon) → beacon_of (params_of net v) m.node m.reading ≡ Some b → (is_due (params_of net v) m.node ≡ true) × (m.node.seq + 1 ≡ b.seq)
unfolding next_beacon
given_number net v m b given =
    let r = given_by (is_due (params_of net v) m.node) (next_beacon net v m) b given in
    (r.0, ap (λ (x : Beacon). x.seq) r.1)

given_none : (net : Net) (v : ℕ) (m : Member) → beacon_of (params_of net v) m.node m.reading ≡ None → is_due (params_of net v) m.node ≡ false
unfolding next_beacon
given_none net v m none = none_by (is_due (params_of net v) m.node) (next_beacon net v m) none

-- once v has heard what comes in quantum t + 1
heard_listens : (net : Net) (c : Course) (t : ℕ) → Listens net c t (listened net c (suc t) (world_of net c t))
heard_listens net c t =
    let w : World = world_of net c t in
    quiet_listens net c t (begun net c (suc t) w) (listened net c (suc t) w) (listened_is_quiet net c (suc t) w) (begun_listens net c t w (world_agrees net c t))

given_is : (net : Net) (c : Course) (t v : ℕ) (b : Beacon) → v < net.nodes → ticks net c v (suc t) ≡ true
    → (let m : Member = member (listened net c (suc t) (world_of net c t)) v in beacon_of (params_of net v) m.node m.reading ≡ Some b) → WasSent net c v (suc t) (record { quantum = suc t; beacon = b })
given_is net c t v b hv ticking given =
    let w : World = world_of net c t in
    let h : IsCalendar net c t w = world_agrees net c t in
    let m : Member = member (listened net c (suc t) w) v in
    let agrees = (heard_listens net c t).each v hv in
    let number = given_number net v m b given in
    let due : gives_next net.every (turn net c v t) ≡ true = ap (λ (n : ℕ). nat_le net.every (n + 1)) (sym agrees.count) ∙ number.0 in
    let seq : (turn net c v t).seq + 1 ≡ b.seq = ap (λ (n : ℕ). n + 1) (sym agrees.seq) ∙ number.1 in
    let before = (h.each v hv).seq in
    record {
      by = omega arith;
      sent = ap (λ (x : Bool). given_seq x net.every (turn net c v t)) ticking ∙ ap (λ (x : Bool). if x then Some ((turn net c v t).seq + 1) else None) due ∙ ap (λ (n : ℕ). Some n) seq;
      found = ap (λ (y : World). sent_by y v b.seq) (next_world net c t) ∙ given_is_found net c t w v b h hv ticking given (omega (arith, before, seq));
    }

none_is : (net : Net) (c : Course) (t v : ℕ) → v < net.nodes → ticks net c v (suc t) ≡ true
    → (let m : Member = member (listened net c (suc t) (world_of net c t)) v in beacon_of (params_of net v) m.node m.reading ≡ None) → sent_at net c v (suc t) ≡ None
none_is net c t v hv ticking none =
    let m : Member = member (listened net c (suc t) (world_of net c t)) v in
    let agrees = (heard_listens net c t).each v hv in
    let due : gives_next net.every (turn net c v t) ≡ false = ap (λ (n : ℕ). nat_le net.every (n + 1)) (sym agrees.count) ∙ given_none net v m none in
    ap (λ (x : Bool). given_seq x net.every (turn net c v t)) ticking ∙ ap (λ (x : Bool). if x then Some ((turn net c v t).seq + 1) else None) due

-- ---- a turn

-- its clock can be read as the quantum has begun
pub can_read_next : (net : Net) (c : Course) (t v : ℕ) → AreNumbers net → IsCourse net c → t < 2 ^ 24 → breach_upto net c (suc t) ≡ None → v < net.nodes
    → CanRead (part_begun net c t v)
can_read_next net c t v numbers course few none hv =
    let w : World = world_of net c t in
    let read : CanRead (member (begun net c (suc t) w) v) = can_read net c (suc t) v w numbers (calm_in net c t numbers course few none) hv in
    subst (λ (m : Member). CanRead m) (ap alone (begun_member net c (suc t) w v (world_agrees net c t).count hv)) (record { last = read.last; few = read.few })

-- The letters that are due are what quantum t + 1 brings to v, and it has no fault.
pub turn_is : (net : Net) (c : Course) (v t : ℕ) (by : ℕ → ℕ) (bs : List Letter) → AreNumbers net → IsCourse net c → breach_upto net c (suc t) ≡ None → t < 2 ^ 24 → v < net.nodes
    → IsReady net c v t by bs → IsTurn net c t v (letters_by (suc t) bs)
turn_is net c v t by bs numbers course calm few hv ready =
    let w : World = world_of net c t in
    let due : List Letter = letters_by (suc t) bs in
    let h : IsCalendar net c t w = world_agrees net c t in
    let q : InQuantum net c (suc t) w = calm_in net c t numbers course few calm in
    let come = due_comes net c v t by bs numbers course ready in
    let here : AreCarried net w v due = each_by _ (suc t) bs ready.carried in
    let heard = listened_is_alone net c (suc t) w v due h.count hv here come in
    record {
      can_read = can_read_next net c t v numbers course few calm hv;
      can_hear = can_hear net c t w v due numbers h q hv here come;
      can_tick = subst (λ (m : Member). tick_fault (params_of net v) m.node m.reading ≡ None) heard (can_tick net c t w v numbers h q hv few);
      is = next_part net c v t by bs numbers course hv ready;
      ticks_is = ap (λ (l : ℕ). nat_le (c.gap v (suc t)) (suc t - l)) (sym (h.each v hv).last);
      gives = λ b ticking given. given_is net c t v b hv ticking (ap (λ (m : Member). beacon_of (params_of net v) m.node m.reading) heard ∙ given);
      none = λ ticking given. none_is net c t v hv ticking (ap (λ (m : Member). beacon_of (params_of net v) m.node m.reading) heard ∙ given);
    }
