-- An allowed run and its rows: what is known right before each quantum, at each quantum's end, and after all events.
use Rattle.std.proofs.Common.{◌≡◌, ℕ, zero, suc, ◌<◌, ◌≤◌, arith, ap, ◌∙◌, refl, List, [], ◌∷◌, length, slice_index}
use Rattle.std.proofs.lemmas.List.FromFn.{length-map-range_with_len, get_or-map-range_with_len}
use Rattle.gs_units.specs.Growth.{IsIncrement}
use Rattle.gs_core.specs.Node.{Decision, decision_of}
use Rattle.gs_core.specs.declared.event.Event.{Event}
use Rattle.gs_run.specs.Net.{Net, params_of}
use Rattle.gs_run.specs.World.{World, Member, member, advanced, advance_all, world_from}
use Rattle.gs_run.specs.Run.{run, Allowed, ends, later_ends}
use Rattle.gs_run.specs.Budget.{Watched, no_decision, decision, decision_in, watch, watched_at_start}
use Rattle.gs_run.specs.Accepted.{AreNumbers}
use Rattle.gs_run.proofs.Rows.{Grows}
use Rattle.gs_run.proofs.Keeping.{world_at, Invariant, Keeps, Holds, IsUnderWay, MayGoOn, BeforeQuantum, before_quantum, advance_member, advance_count, run_watched, run_keeps}
use Rattle.gs_run.proofs.Current.{row_of, reading_of, IsCurrent, current_keeps, all_steps_grow}
use Rattle.gs_run.proofs.Dates.{IsDated}
use Rattle.gs_run.proofs.Ticks.{tick_dated}
use Rattle.gs_run.proofs.Quanta.{advance_dated}
use Rattle.gs_run.proofs.Hearings.{hear_dated}
use Rattle.gs_run.proofs.Start.{StartsAt, start_member, first_member, first_decision, start_dated}

-- ---- a run and its rows

-- An allowed run, with the world at the start and at each quantum's end.
pub record IsRun (net : Net) (hw clocks : ℕ → ℕ) (es : List Event) (total : List World) (last : ℕ) : Type 0 where
  pub all : total ≡ ends net (world_from net hw clocks) es
  pub count : length total ≡ suc last
  pub allowed : Allowed net (world_from net hw clocks) es

pub whole_run : (net : Net) (hw clocks : ℕ → ℕ) (es : List Event) → Allowed net (world_from net hw clocks) es
    → IsRun net hw clocks es (ends net (world_from net hw clocks) es) (length (later_ends net (world_from net hw clocks) es))
whole_run net hw clocks es allowed = record { all = refl; count = refl; allowed = allowed }

abbrev pub start : Net → (ℕ → ℕ) → (ℕ → ℕ) → Watched
start net hw clocks = watched_at_start net (world_from net hw clocks)

pub starts_at : {net : Net} {hw clocks : ℕ → ℕ} {es : List Event} {total : List World} {last : ℕ}
    → IsRun net hw clocks es total last → StartsAt net total hw clocks
starts_at {net} {hw} {clocks} r = record {
  first = λ v hv. ap (λ (z : List World). member (world_at z 0) v) r.all ∙ start_member net hw clocks v hv;
}

-- what holds of each member at the start holds of the world
start_holds : (net : Net) (hw clocks : ℕ → ℕ) (I : Invariant)
    → ((v : ℕ) → v < net.nodes → I 0 v (first_member net hw clocks v) (first_decision net hw clocks v))
    → Holds net I (start net hw clocks)
start_holds net hw clocks I each =
    let w : World = world_from net hw clocks in
    record {
      members = length-map-range_with_len (first_member net hw clocks) 0 net.nodes;
      decided = length-map-range_with_len (decision_in net w) 0 net.nodes;
      each = λ v hv.
          let one = start_member net hw clocks v hv in
          let decided : decision (start net hw clocks) v ≡ decision_in net w v =
          get_or-map-range_with_len (decision_in net w) 0 net.nodes v v no_decision hv (omega arith) in
          let same : decision_in net w v ≡ first_decision net hw clocks v =
          ap (λ (m : Member). decision_of (params_of net v) m.node m.reading) one in
          rw (decided ∙ same, one) (each v hv);
    }

-- so the run is under way
under_way : {net : Net} {hw clocks : ℕ → ℕ} {es : List Event} {total : List World} {last : ℕ} {I : Invariant}
    → IsRun net hw clocks es total last → Holds net I (start net hw clocks)
    → IsUnderWay net total last I (world_from net hw clocks ∷ []) (start net hw clocks) es
under_way r holds = record { all = r.count; split = r.all; count = refl; allowed = r.allowed; holds = holds }

-- ---- first pass: rows grow

pub run_grows : {net : Net} {hw clocks : ℕ → ℕ} {es : List Event} {total : List World} {last : ℕ} → AreNumbers net
    → IsRun net hw clocks es total last → Grows net last (row_of net total) (reading_of total)
run_grows {net} {hw} {clocks} {es} {total} {last} numbers r =
    let I : Invariant = λ t v m d. IsCurrent net total t v m in
    let holds : Holds net I (start net hw clocks) =
    start_holds net hw clocks I (λ v hv. (start_dated numbers (starts_at r) v hv).current) in
    all_steps_grow net total last (λ t v ht hv.
    let b = before_quantum (current_keeps net total last) (world_from net hw clocks ∷ []) (start net hw clocks) es
    (under_way r holds) t (omega arith) ht in
    let hm : v < length b.x.world.members = rw b.holds.members hv in
    let hi : v < length b.incs = rw b.may.count hv in
    let now = b.holds.each v hv in (
      slice_index b.incs v,
      member b.x.world v,
      record {
        increment = b.may.increments v hi;
        current = rw b.quanta at now;
        next = ap (λ (w : World). member w v) b.row ∙ advance_member b.x.world b.incs v hm hi;
      },
    ))

-- ---- second pass: where everything dates from

abbrev pub Dated : Net → List World → Invariant
Dated net total t v m d = IsDated net total t v m d

pub dated_keeps : {net : Net} {total : List World} {last : ℕ} → AreNumbers net
    → Grows net last (row_of net total) (reading_of total) → Keeps net total last (Dated net total)
dated_keeps {net} {total} {last} numbers grows = record {
  tick = λ t v m d ht hv k. tick_dated net total last t v m d grows ht hv k;
  hear = λ t v i m n d e s ht hv hi place k sender found in_time.
      hear_dated net total last t v i m n d e s numbers grows ht hv hi place k sender found in_time;
  advance = λ t v h m d ht hv inc k may row. advance_dated net total t v h m d inc may row k;
}

-- at the start
pub dated_start : {net : Net} {hw clocks : ℕ → ℕ} {es : List Event} {total : List World} {last : ℕ} → AreNumbers net
    → IsRun net hw clocks es total last
    → IsUnderWay net total last (Dated net total) (world_from net hw clocks ∷ []) (start net hw clocks) es
dated_start {net} {hw} {clocks} {es} {total} numbers r =
    under_way r (start_holds net hw clocks (Dated net total) (λ v hv. start_dated numbers (starts_at r) v hv))

-- right before each quantum
pub dated_before : {net : Net} {hw clocks : ℕ → ℕ} {es : List Event} {total : List World} {last : ℕ} → AreNumbers net
    → IsRun net hw clocks es total last → (t : ℕ) → t < last → BeforeQuantum net total (Dated net total) t
dated_before {net} {hw} {clocks} {es} numbers r t ht =
    before_quantum (dated_keeps numbers (run_grows numbers r)) (world_from net hw clocks ∷ []) (start net hw clocks) es
    (dated_start numbers r) t (omega arith) ht

-- the same for each node
pub record IsMoment (net : Net) (total : List World) (t v h : ℕ) (m : Member) (d : Decision) : Type 0 where
  pub dated : IsDated net total t v m d
  pub increment : IsIncrement net.rate h
  pub may : MayGoOn net t m
  pub next : member (world_at total (suc t)) v ≡ advanced m h

pub moment : {net : Net} {hw clocks : ℕ → ℕ} {es : List Event} {total : List World} {last : ℕ} → AreNumbers net
    → IsRun net hw clocks es total last → (t v : ℕ) → t < last → v < net.nodes
    → (h : ℕ) × (m : Member) × (d : Decision) × IsMoment net total t v h m d
moment {net} numbers r t v ht hv =
    let b = dated_before numbers r t ht in
    let hm : v < length b.x.world.members = rw b.holds.members hv in
    let hi : v < length b.incs = rw b.may.count hv in
    let now = b.holds.each v hv in
    let on : MayGoOn net b.x.world.quanta (member b.x.world v) =
    record { tick = b.may.ticks v hm; heard = λ i hh. b.may.heard v i hm hh } in (
      slice_index b.incs v,
      member b.x.world v,
      decision b.x v,
      record {
        dated = rw b.quanta at now;
        increment = b.may.increments v hi;
        may = rw b.quanta at on;
        next = ap (λ (w : World). member w v) b.row ∙ advance_member b.x.world b.incs v hm hi;
      },
    )

-- at a quantum's end, for each node
pub at_row : {net : Net} {hw clocks : ℕ → ℕ} {es : List Event} {total : List World} {last : ℕ} → AreNumbers net
    → IsRun net hw clocks es total last → (t v : ℕ) → t ≤ last → v < net.nodes
    → (d : Decision) × IsDated net total t v (member (world_at total t) v) d
at_row {net} {hw} {clocks} numbers r zero v ht hv =
    let s = starts_at r in
    (first_decision net hw clocks v, rw (s.first v hv) (start_dated numbers s v hv))
at_row {net} {hw} {clocks} {es} {total} numbers r (suc t) v ht hv =
    let m = moment numbers r t v (omega (arith, ht)) hv in
    (m.2, rw m.3.next (advance_dated net total t v m.0 m.1 m.2 m.3.increment m.3.may m.3.next m.3.dated))

-- then each node has its member
pub row_members : {net : Net} {hw clocks : ℕ → ℕ} {es : List Event} {total : List World} {last : ℕ} → AreNumbers net
    → IsRun net hw clocks es total last → (t : ℕ) → t ≤ last → length (world_at total t).members ≡ net.nodes
row_members {net} {hw} {clocks} numbers r zero ht =
    ap (λ (z : List World). length (world_at z 0).members) r.all
    ∙ length-map-range_with_len (first_member net hw clocks) 0 net.nodes
row_members {net} {hw} {clocks} {es} {total} numbers r (suc t) ht =
    let b = dated_before numbers r t (omega (arith, ht)) in
    let all = advance_count b.x.world b.incs in
    let members = b.holds.members in
    let count = b.may.count in
    let next : length (world_at total (suc t)).members ≡ length (advance_all b.x.world b.incs).members =
    ap (λ (w : World). length w.members) b.row in
    omega (arith, all, members, count, next)

-- ---- after all events

-- a moment within the run, where everything has its date
abbrev pub DatedInside : Net → List World → ℕ → Invariant
DatedInside net total last t v m d = (t ≤ last) × IsDated net total t v m d

inside_keeps : {net : Net} {total : List World} {last : ℕ} → Keeps net total last (Dated net total)
    → Keeps net total last (DatedInside net total last)
inside_keeps k = record {
  tick = λ t v m d ht hv i. (ht, k.tick t v m d ht hv i.1);
  hear = λ t v i m n d e s ht hv hi place a b found in_time.
      (ht, k.hear t v i m n d e s ht hv hi place a.1 b.1 found in_time);
  advance = λ t v h m d ht hv inc i may row. (ht, k.advance t v h m d ht hv inc i.1 may row);
}

pub last_moment : {net : Net} {hw clocks : ℕ → ℕ} {es : List Event} {total : List World} {last : ℕ} → AreNumbers net
    → IsRun net hw clocks es total last
    → Holds net (DatedInside net total last) (run_watched net (start net hw clocks) es)
last_moment {net} {hw} {clocks} {es} {total} {last} numbers r =
    let s = (dated_start numbers r).holds in
    let inside : Holds net (DatedInside net total last) (start net hw clocks) =
    record { members = s.members; decided = s.decided; each = λ v hv. (omega arith, s.each v hv) } in
    let keeps = inside_keeps (dated_keeps numbers (run_grows numbers r)) in
    run_keeps keeps (world_from net hw clocks ∷ []) (start net hw clocks) es (under_way r inside)

pub run_of_watched : (net : Net) (x : Watched) (es : List Event) → (run_watched net x es).world ≡ run net x.world es
run_of_watched net x [] = refl
run_of_watched net x (e ∷ es) = run_of_watched net (watch net x e) es
