-- What is read off a seat.
use Rattle.std.proofs.Common.{◌≡◌, ℕ, suc, ◌+◌, ◌<◌, ◌≤◌, ◌^◌, arith, ap, sym, refl, ◌∙◌, length, map, nat_le, position, slice_index}
use Rattle.gs_units.specs.declared.params.NodeParams.{NodeParams}
use Rattle.gs_units.specs.declared.rate.Mode.TheVariants.{Slow}
use Rattle.gs_core.specs.Node.{clock_of}
use Rattle.gs_plan.specs.declared.plan.Plan.{Plan}
use Rattle.gs_script.specs.Script.{Said}
use Rattle.gs_run.specs.Net.{Net, neighbour, neighbours}
use Rattle.gs_run.specs.Nets.{net_of}
use Rattle.gs_run.proofs.PlanNumbers.{plan_has_numbers}
use Rattle.gs_run.specs.Why.{is_stale, stale_place}
use Rattle.gs_run.specs.World.{Member, World, clock_in, member}
use Rattle.gs_calendar.specs.Calendar.{Newest, heard_at}
use Rattle.gs_calendar.specs.Course.{Course, course_of}
use Rattle.gs_calendar.specs.Events.{nodes_of}
use Rattle.gs_calendar.specs.Scripts.{start_of}
use Rattle.gs_calendar.specs.Stale.{first_stale}
use Rattle.gs_calendar.proofs.Agree.{start_is_calendar}
use Rattle.gs_calendar.proofs.Arrivals.{place_is_own}
use Rattle.gs_calendar.proofs.Hearing.{IsHeard, run_hears, start_is_heard}
use Rattle.gs_calendar.proofs.Staleness.{stale_place_is}
use Rattle.gs_seat.specs.Alone.{CanRead}
use Rattle.gs_seat.specs.Sleepers.{IsAsleep, reading_at}
use Rattle.gs_seat.specs.Worlds.{Plays, part_at, part_begun, world_of}
use Rattle.gs_seat.specs.declared.sleeper.Sleeper.{Sleeper}
use Rattle.gs_seat.proofs.Seating.{begun_as}
use Rattle.gs_seat.proofs.Aging.{none_before}
use Rattle.gs_seat.proofs.Clocks.{next_clock, next_slow}
use Rattle.gs_seat.proofs.Reading.{course_is}
use Rattle.gs_seat.proofs.Turning.{can_read_next, known_at, world_agrees}

-- ---- the clock

pub few_quanta : (p : Plan) (s : Said) (v t : ℕ) → Plays p s v (suc t) → t < 2 ^ 20
few_quanta p s v t plays = let few = plays.read.bounds.quanta in let end = plays.end in omega (arith, few, end)

-- the clock can be read in the next quantum
pub can_read_of : (p : Plan) (s : Said) (v t : ℕ) → Plays p s v (suc t) → CanRead (part_begun (net_of p) (course_of s) t v)
can_read_of p s v t plays =
    let few = few_quanta p s v t plays in
    can_read_next (net_of p) (course_of s) t v (plan_has_numbers p) (course_is p s plays.read) (omega (arith, few)) plays.calm plays.node

-- what the code asks of the core then
pub record IsReadable (s : Sleeper) (now : ℕ) : Type 0 where
  pub at : s.at ≤ now
  pub last : s.core.node.last ≤ reading_at s now
  pub few : reading_at s now < 2 ^ 62

pub next_readable : (p : Plan) (s : Said) (v t now : ℕ) (node : Sleeper) → now ≡ suc t → Plays p s v (suc t) → IsAsleep (net_of p) (course_of s) v t node → IsReadable node now
next_readable p s v t now node e plays is =
    let read = can_read_of p s v t plays in
    let begun = begun_as (net_of p) (course_of s) v t now (reading_at node now) node e refl is in
    let reading = ap (λ (m : Member). m.reading) begun in
    let last = ap (λ (m : Member). m.node.last) begun in
    let low = read.last in
    let few = read.few in
    let at = is.at in
    record { at = omega (arith, at, e); last = omega (arith, reading, last, low); few = omega (arith, reading, few) }

pub clock_read : (net : Net) (c : Course) (v t now : ℕ) (s : Sleeper) → now ≡ suc t → v < net.nodes → IsAsleep net c v t s
    → clock_of s.core.params.rate s.core.node (reading_at s now) ≡ clock_in net (world_of net c (suc t)) v
clock_read net c v t now s e hv is =
    ap (λ (p : NodeParams). clock_of p.rate s.core.node (reading_at s now)) is.told
    ∙ ap (λ (m : Member). clock_of net.rate m.node m.reading) (begun_as net c v t now (reading_at s now) s e refl is)
    ∙ sym (next_clock net c t v hv)

-- a slow one adds its step
pub step_read : (p : Plan) (s : Said) (v t : ℕ) (node : Sleeper) → Plays p s v (suc t) → IsAsleep (net_of p) (course_of s) v t node → node.core.node.mode ≡ Slow
    → clock_in (net_of p) (world_of (net_of p) (course_of s) (suc t)) v ≡ clock_in (net_of p) (world_of (net_of p) (course_of s) t) v + node.inc.value
step_read p s v t node plays is slow =
    let net : Net = net_of p in
    let c : Course = course_of s in
    let few = few_quanta p s v t plays in
    let known = known_at net c t (plan_has_numbers p) (course_is p s plays.read) (omega (arith, few)) (none_before net c t plays.calm) in
    let mode : (part_at net c t v).node.mode ≡ Slow = sym (ap (λ (m : Member). m.node.mode) is.is) ∙ slow in
    next_slow net c t v plays.node mode (known.at v plays.node) ∙ ap (λ (h : ℕ). clock_in net (world_of net c t) v + h) (is.inc.same (suc t) (omega arith) is.inc.here)

-- ---- what was heard

world_hears : (net : Net) (c : Course) (t : ℕ) → IsHeard net c t (world_of net c t)
world_hears net c t =
    let readings : ℕ → ℕ = slice_index (map (λ v. 0) (nodes_of net)) in
    run_hears net c (start_of net) (start_is_calendar net c readings (λ v. 0)) (start_is_heard net c readings (λ v. 0)) t

pub stale_read : (net : Net) (c : Course) (v t age : ℕ) (s : Sleeper) → age ≡ net.age → v < net.nodes → IsAsleep net c v t s → position (λ sent. nat_le (sent + age) t) s.heard.items ≡ first_stale net c (suc t) v
stale_read net c v t age s same hv is =
    let w : World = world_of net c t in
    ap (λ (a : ℕ). position (λ sent. nat_le (sent + a) t) s.heard.items) same
    ∙ ap (λ (m : Member). position (is_stale net t) m.heard) is.is
    ∙ ap (λ (n : ℕ). stale_place net n (member w v)) (sym (world_agrees net c t).quanta)
    ∙ stale_place_is net c t w v (world_agrees net c t) (world_hears net c t) hv

-- at each place stands when the newest was sent
heard_read : (net : Net) (c : Course) (v t i : ℕ) (s : Sleeper) → v < net.nodes → i < length (neighbours net v) → IsAsleep net c v t s → slice_index s.heard.items i ≡ (heard_at net c (neighbour net v i) v t).quantum
heard_read net c v t i s hv hi is =
    ap (λ (m : Member). slice_index m.heard i) is.is
    ∙ ap (λ (n : Newest). n.quantum) (world_hears net c t v (neighbour net v i) i hv (place_is_own net v i hi))

pub oldest_read : (net : Net) (c : Course) (v t i least : ℕ) (s : Sleeper) → v < net.nodes → i < length (neighbours net v) → IsAsleep net c v t s
    → ((k : ℕ) → k < length s.heard.items → least ≤ slice_index s.heard.items k) → least ≤ (heard_at net c (neighbour net v i) v t).quantum
oldest_read net c v t i least s hv hi is each =
    let places = ((world_agrees net c t).each v hv).places in
    let count : length s.heard.items ≡ length (member (world_of net c t) v).heard = ap (λ (m : Member). length m.heard) is.is in
    let low = each i (omega (arith, count, places, hi)) in
    let same = heard_read net c v t i s hv hi is in
    omega (arith, low, same)
