-- What each event keeps of each member holds after all events. No other file reasons about lists of worlds.
use Rattle.std.proofs.Common.{◌≡◌, ℕ, suc, ◌+◌, ◌<◌, ◌≤◌, min, inl, inr, arith, ap, sym, ◌∙◌, refl, List, [], ◌∷◌, ◌++◌, length, slice_index, slice_index_or, slice_set, true, Some, None, Contains, subst, get_or-set_same, get_or-set_other, append_assoc, length-append}
use Rattle.std.specs.List.{zip}
use Rattle.std.proofs.Math.ListN.{length-set}
use Rattle.std.proofs.lemmas.Bool.{cases_lt, cases_eq, eq-eqb}
use Rattle.std.proofs.lemmas.List.{get_or-append-add, get_or-map, length-map}
use Rattle.std.proofs.lemmas.List.Quantifiers.{position-Some}
use Rattle.std.proofs.lemmas.Slice.Zip.{get_or-zip, length-zip}
use Rattle.gs_units.specs.Growth.{IsIncrement}
use Rattle.gs_core.specs.Node.{Decision, decision_of}
use Rattle.gs_core.specs.declared.event.Event.{Event}
use Rattle.gs_core.specs.declared.event.Event.TheVariants.{Quantum, Tick, Deliver}
use Rattle.gs_run.specs.Net.{Net, params_of, neighbours, neighbour, place_of}
use Rattle.gs_run.specs.World.{World, Member, Sent, nobody, member, sent_by, is_newer, with_member, advanced, advance_all, ticked_member, heard_member, effect}
use Rattle.gs_run.specs.Why.{why}
use Rattle.gs_run.specs.Run.{Allowed, later_ends}
use Rattle.gs_run.specs.Budget.{Watched, no_decision, decision, decision_in, watch}
use Rattle.gs_run.proofs.Places.{neighbour_is_node}
use Rattle.gs_run.proofs.Refusals.{MayAdvance, may_advance, may_hear, may_tick, find-Some}

-- ---- the worlds of a run, one for the start and one for each quantum's end

abbrev pub nowhere : World
nowhere = record { quanta = 0; members = [] }

abbrev pub world_at : List World → ℕ → World
world_at total t = slice_index_or total t nowhere

-- ---- what an invariant of one member has to bear

-- a fact of a quantum, a node, its member and its last decision
abbrev pub Invariant : Type 1
Invariant = ℕ → ℕ → Member → Decision → Type 0

-- the newest beacon's age when it is heard
pub record IsInTime (net : Net) (t v x : ℕ) (s : Sent) : Type 0 where
  pub early : s.quantum + net.delay_min v x ≤ t
  pub late : t ≤ s.quantum + net.delay_max v x

-- the node has ticked and has heard of its neighbours lately enough for one more quantum
pub record MayGoOn (net : Net) (t : ℕ) (m : Member) : Type 0 where
  pub tick : t < m.ticked_at + net.tick
  pub heard : (i : ℕ) → i < length m.heard → t < slice_index m.heard i + net.age

-- An invariant is kept by each event.
pub record Keeps (net : Net) (total : List World) (last : ℕ) (I : Invariant) : Type 0 where
  pub tick : (t v : ℕ) (m : Member) (d : Decision) → t ≤ last → v < net.nodes → I t v m d
      → I t v (ticked_member (params_of net v) t m) (decision_of (params_of net v) m.node m.reading)
  pub hear : (t v i : ℕ) (m n : Member) (d e : Decision) (s : Sent) → t ≤ last → v < net.nodes
      → i < length (neighbours net v) → place_of net v (neighbour net v i) ≡ Some i
      → I t v m d → I t (neighbour net v i) n e → Contains n.sent s
      → (is_newer m i s ≡ true → IsInTime net t v (neighbour net v i) s)
      → I t v (heard_member (params_of net v) i s m) d
  pub advance : (t v h : ℕ) (m : Member) (d : Decision) → t < last → v < net.nodes → IsIncrement net.rate h
      → I t v m d → MayGoOn net t m
      → member (world_at total (suc t)) v ≡ advanced m h → I (suc t) v (advanced m h) d

-- every member of a world meets it
pub record Holds (net : Net) (I : Invariant) (x : Watched) : Type 0 where
  pub members : length x.world.members ≡ net.nodes
  pub decided : length x.decided ≡ net.nodes
  pub each : (v : ℕ) → v < net.nodes → I x.world.quanta v (member x.world v) (decision x v)

-- ---- a tick

keeps_tick : {net : Net} {total : List World} {last : ℕ} {I : Invariant} → Keeps net total last I
    → (x : Watched) (v : ℕ) → x.world.quanta ≤ last → v < net.nodes → Holds net I x → Holds net I (watch net x (Tick v))
keeps_tick {net} {total} {last} {I} keeps x v inside hv h =
    let t : ℕ = x.world.quanta in
    let members : List Member = x.world.members in
    let new : Member = ticked_member (params_of net v) t (member x.world v) in
    let decided : Decision = decision_in net x.world v in
    let P : ℕ → Type 0 =
    λ u. I t u (slice_index_or (slice_set members v new) u nobody)
    (slice_index_or (slice_set x.decided v decided) u no_decision) in
    let same_member = get_or-set_same members v new nobody (rw h.members hv) in
    let same_decision = get_or-set_same x.decided v decided no_decision (rw h.decided hv) in
    let own : P v =
    rw (same_member, same_decision) (keeps.tick t v (member x.world v) (decision x v) inside hv (h.each v hv)) in
    record {
      members = length-set members v new ∙ h.members;
      decided = length-set x.decided v decided ∙ h.decided;
      each = λ u hu. elim (cases_eq u v) [
        | inl same ↦ subst P (sym same) own
        | inr other ↦
            let other_member = get_or-set_other members v u new nobody other in
            let other_decision = get_or-set_other x.decided v u decided no_decision other in
            rw (other_member, other_decision) (h.each u hu)
      ];
    }

-- ---- a beacon that comes

-- the place that a delivery names
pub found_place : (net : Net) (to from i : ℕ) → place_of net to from ≡ Some i
    → (i < length (neighbours net to)) × (neighbour net to i ≡ from)
found_place net to from i e =
    let found = position-Some _ (neighbours net to) i 0 e in
    (found.0, grind (arith, found.1))

-- What an allowed delivery does, where the sender is named by its place i among the neighbours.
pub record Arrives (net : Net) (w : World) (from to seq i : ℕ) (s : Sent) : Type 0 where
  pub node : to < net.nodes
  pub inside : i < length (neighbours net to)
  pub sender : neighbour net to i < net.nodes
  pub place : place_of net to (neighbour net to i) ≡ Some i
  pub sent : Contains (member w (neighbour net to i)).sent s
  pub in_time : is_newer (member w to) i s ≡ true → IsInTime net w.quanta to (neighbour net to i) s
  pub found : sent_by w from seq ≡ Some s
  pub is : effect net w (Deliver from to seq) ≡ with_member w to (heard_member (params_of net to) i s (member w to))

pub arrives : (net : Net) (w : World) (from to seq : ℕ) → why net w (Deliver from to seq) ≡ None
    → (i : ℕ) × (s : Sent) × Arrives net w from to seq i s
arrives net w from to seq allowed =
    let may = may_hear net w from to seq allowed in
    let i : ℕ = may.0 in
    let s : Sent = may.1 in
    let h = may.2 in
    let place = found_place net to from i h.place in
    let sent : Contains (member w from).sent s = find-Some _ (member w from).sent s h.sent in
    let timed : is_newer (member w to) i s ≡ true → IsInTime net w.quanta to from s =
    λ fresh. record { early = h.early fresh; late = h.late fresh } in (
      i,
      s,
      record {
        node = h.node;
        inside = place.0;
        sender = neighbour_is_node net to i place.0;
        place = ap (λ (y : ℕ). place_of net to y) place.1 ∙ h.place;
        sent = subst (λ (y : ℕ). Contains (member w y).sent s) (sym place.1) sent;
        in_time = λ fresh. subst (λ (y : ℕ). IsInTime net w.quanta to y s) (sym place.1) (timed fresh);
        found = h.sent;
        is = rw (h.place, h.sent) refl;
      },
    )

keeps_deliver : {net : Net} {total : List World} {last : ℕ} {I : Invariant} → Keeps net total last I
    → (x : Watched) (from to seq i : ℕ) (s : Sent) → x.world.quanta ≤ last → Arrives net x.world from to seq i s
    → Holds net I x → Holds net I (watch net x (Deliver from to seq))
keeps_deliver {net} {total} {last} {I} keeps x from to seq i s inside a h =
    let t : ℕ = x.world.quanta in
    let members : List Member = x.world.members in
    let y : ℕ = neighbour net to i in
    let new : Member = heard_member (params_of net to) i s (member x.world to) in
    let P : ℕ → Type 0 = λ u. I t u (slice_index_or (slice_set members to new) u nobody) (decision x u) in
    let heard = keeps.hear t to i (member x.world to) (member x.world y) (decision x to) (decision x y) s
    inside a.node a.inside a.place (h.each to a.node) (h.each y a.sender) a.sent a.in_time in
    let own : P to = rw (get_or-set_same members to new nobody (rw h.members a.node)) heard in
    let after : Holds net I (record { world = with_member x.world to new; decided = x.decided }) = record {
      members = length-set members to new ∙ h.members;
      decided = h.decided;
      each = λ u hu. elim (cases_eq u to) [
        | inl same ↦ subst P (sym same) own
        | inr other ↦ rw (get_or-set_other members to u new nobody other) (h.each u hu)
      ];
    } in
    rw a.is after

-- ---- a quantum

pub advance_member : (w : World) (incs : List ℕ) (v : ℕ) → v < length w.members → v < length incs
    → member (advance_all w incs) v ≡ advanced (member w v) (slice_index incs v)
advance_member w incs v hm hi =
    let pairs : List (Member × ℕ) = zip w.members incs in
    let inside : v < length pairs = rw (length-zip w.members incs) (omega arith) in
    get_or-map (λ p. advanced p.0 p.1) pairs v (nobody, 0) nobody inside
    ∙ ap (λ (p : Member × ℕ). advanced p.0 p.1) (get_or-zip w.members incs v (nobody, 0) hm hi)

pub advance_count : (w : World) (incs : List ℕ)
    → length (advance_all w incs).members ≡ min (length w.members) (length incs)
advance_count w incs = length-map (zip w.members incs) (λ p. advanced p.0 p.1) ∙ length-zip w.members incs

-- what an allowed quantum does
pub quantum_is : (net : Net) (w : World) (incs : List ℕ) → length w.members ≡ net.nodes → MayAdvance net w incs
    → effect net w (Quantum incs) ≡ advance_all w incs
quantum_is net w incs count may = rw (eq-eqb (length incs) (length w.members) (may.count ∙ sym count)) refl

-- the quantum that comes next
pub record IsNext (net : Net) (total : List World) (last : ℕ) (w : World) (incs : List ℕ) : Type 0 where
  pub inside : w.quanta < last
  pub may : MayAdvance net w incs
  pub is : effect net w (Quantum incs) ≡ advance_all w incs
  pub row : world_at total (suc w.quanta) ≡ effect net w (Quantum incs)

keeps_quantum : {net : Net} {total : List World} {last : ℕ} {I : Invariant} → Keeps net total last I
    → (x : Watched) (incs : List ℕ) → IsNext net total last x.world incs → Holds net I x
    → Holds net I (watch net x (Quantum incs))
keeps_quantum {net} {total} {last} {I} keeps x incs next h =
    let t : ℕ = x.world.quanta in
    let may = next.may in
    let later : t + 1 ≡ suc t = omega arith in
    let after : Holds net I (record { world = advance_all x.world incs; decided = x.decided }) = record {
      members =
          let all = advance_count x.world incs in
          let a = h.members in
          let b = may.count in
          omega (arith, all, a, b);
      decided = h.decided;
      each = λ v hv.
          let hm : v < length x.world.members = rw h.members hv in
          let hi : v < length incs = rw may.count hv in
          let one = advance_member x.world incs v hm hi in
          let at : member (world_at total (suc t)) v ≡ advanced (member x.world v) (slice_index incs v) =
          ap (λ (w : World). member w v) (next.row ∙ next.is) ∙ one in
          let on : MayGoOn net t (member x.world v) =
          record { tick = may.ticks v hm; heard = λ i hh. may.heard v i hm hh } in
          let inc = may.increments v hi in
          let kept = keeps.advance t v (slice_index incs v) (member x.world v) (decision x v) next.inside hv inc (h.each v hv)
          on at in
          rw (one, later) kept;
    } in
    rw next.is after

-- ---- all events in turn

-- A run under way: the rows so far, the world x and the events that are left, where each member meets the invariant.
pub record IsUnderWay (net : Net) (total : List World) (last : ℕ) (I : Invariant) (before : List World) (x : Watched) (es : List Event) : Type 0 where
  pub all : length total ≡ suc last
  pub split : total ≡ before ++ later_ends net x.world es
  pub count : length before ≡ suc x.world.quanta
  pub allowed : Allowed net x.world es
  pub holds : Holds net I x

pub now_inside : {net : Net} {total : List World} {last : ℕ} {I : Invariant}
    {before : List World} {x : Watched} {es : List Event}
    → IsUnderWay net total last I before x es → x.world.quanta ≤ last
now_inside {net} {total} {last} {I} {before} {x} {es} run =
    let sum : length total ≡ length before + length (later_ends net x.world es) =
    ap (λ (z : List World). length z) run.split ∙ length-append before (later_ends net x.world es) in
    let count = run.count in
    let all = run.all in
    omega (arith, sum, count, all)

-- what stands behind a list begins at its length
seam : (xs ys : List World) → world_at (xs ++ ys) (length xs) ≡ world_at ys 0
seam xs ys = let e : length xs ≡ length xs + 0 = omega arith in rw e (get_or-append-add xs ys 0 nowhere)

pub quantum_is_next : {net : Net} {total : List World} {last : ℕ} {I : Invariant}
    {before : List World} {x : Watched} {incs : List ℕ} {es : List Event}
    → IsUnderWay net total last I before x (Quantum incs ∷ es) → IsNext net total last x.world incs
quantum_is_next {net} {total} {last} {I} {before} {x} {incs} {es} run =
    let w : World = x.world in
    let next : World = effect net w (Quantum incs) in
    let later : List World = later_ends net next es in
    let may = may_advance net w incs run.allowed.0 in
    let sum : length total ≡ length before + length (next ∷ later) =
    ap (λ (z : List World). length z) run.split ∙ length-append before (next ∷ later) in
    let more : length (next ∷ later) ≡ suc (length later) = refl in
    let count = run.count in
    let all = run.all in
    record {
      inside = omega (arith, sum, more, count, all);
      may = may;
      is = quantum_is net w incs run.holds.members may;
      row =
          ap (λ (n : ℕ). world_at total n) (sym run.count)
          ∙ ap (λ (z : List World). world_at z (length before)) run.split
          ∙ seam before (next ∷ later);
    }

-- it goes on with a quantum, whose row is among those before then
pub quantum_goes_on : {net : Net} {total : List World} {last : ℕ} {I : Invariant}
    {before : List World} {x : Watched} {incs : List ℕ} {es : List Event}
    → Keeps net total last I → IsUnderWay net total last I before x (Quantum incs ∷ es)
    → IsUnderWay net total last I (before ++ effect net x.world (Quantum incs) ∷ []) (watch net x (Quantum incs)) es
quantum_goes_on {net} {total} {last} {I} {before} {x} {incs} {es} keeps run =
    let next = quantum_is_next run in
    let row : World = effect net x.world (Quantum incs) in
    record {
      all = run.all;
      split = run.split ∙ sym (append_assoc before (row ∷ []) (later_ends net row es));
      count =
          let longer = length-append before (row ∷ []) in
          let one : length (row ∷ []) ≡ 1 = refl in
          let quanta : row.quanta ≡ x.world.quanta + 1 = ap (λ (z : World). z.quanta) next.is in
          let count = run.count in
          omega (arith, longer, one, quanta, count);
      allowed = run.allowed.1;
      holds = keeps_quantum keeps x incs next run.holds;
    }

-- with a tick
pub tick_goes_on : {net : Net} {total : List World} {last : ℕ} {I : Invariant}
    {before : List World} {x : Watched} {v : ℕ} {es : List Event}
    → Keeps net total last I → IsUnderWay net total last I before x (Tick v ∷ es)
    → IsUnderWay net total last I before (watch net x (Tick v)) es
tick_goes_on {net} {total} {last} {I} {before} {x} {v} {es} keeps run = record {
  all = run.all;
  split = run.split;
  count = run.count;
  allowed = run.allowed.1;
  holds = keeps_tick keeps x v (now_inside run) (may_tick net x.world v run.allowed.0) run.holds;
}

-- and with a beacon that comes
pub deliver_goes_on : {net : Net} {total : List World} {last : ℕ} {I : Invariant}
    {before : List World} {x : Watched} {from to seq : ℕ} {es : List Event}
    → Keeps net total last I → IsUnderWay net total last I before x (Deliver from to seq ∷ es)
    → IsUnderWay net total last I before (watch net x (Deliver from to seq)) es
deliver_goes_on {net} {total} {last} {I} {before} {x} {from} {to} {seq} {es} keeps run =
    let a = arrives net x.world from to seq run.allowed.0 in
    record {
      all = run.all;
      split = run.split;
      count = run.count ∙ ap (λ (z : World). suc z.quanta) (sym a.2.is);
      allowed = run.allowed.1;
      holds = keeps_deliver keeps x from to seq a.0 a.1 (now_inside run) a.2 run.holds;
    }

-- the watched world after all events
abbrev pub run_watched : Net → Watched → List Event → Watched
run_watched net x [] = x
run_watched net x (e ∷ es) = run_watched net (watch net x e) es

-- So the invariant holds after all events.
pub run_keeps : {net : Net} {total : List World} {last : ℕ} {I : Invariant} → Keeps net total last I
    → (before : List World) (x : Watched) (es : List Event) → IsUnderWay net total last I before x es
    → Holds net I (run_watched net x es)
run_keeps keeps before x [] run = run.holds
run_keeps {net} keeps before x (Quantum incs ∷ es) run =
    run_keeps keeps (before ++ effect net x.world (Quantum incs) ∷ []) (watch net x (Quantum incs)) es
    (quantum_goes_on keeps run)
run_keeps {net} keeps before x (Tick v ∷ es) run =
    run_keeps keeps before (watch net x (Tick v)) es (tick_goes_on keeps run)
run_keeps {net} keeps before x (Deliver from to seq ∷ es) run =
    run_keeps keeps before (watch net x (Deliver from to seq)) es (deliver_goes_on keeps run)

-- A moment right before a quantum of the run, with all that is known there.
pub record BeforeQuantum (net : Net) (total : List World) (I : Invariant) (t : ℕ) : Type 0 where
  pub x : Watched
  pub incs : List ℕ
  pub holds : Holds net I x
  pub quanta : x.world.quanta ≡ t
  pub may : MayAdvance net x.world incs
  pub row : world_at total (suc t) ≡ advance_all x.world incs

pub before_quantum : {net : Net} {total : List World} {last : ℕ} {I : Invariant} → Keeps net total last I
    → (before : List World) (x : Watched) (es : List Event) → IsUnderWay net total last I before x es
    → (t : ℕ) → x.world.quanta ≤ t → t < last → BeforeQuantum net total I t
before_quantum {net} {total} keeps before x [] run t low high =
    let sum : length total ≡ length before + length (later_ends net x.world []) =
    ap (λ (z : List World). length z) run.split ∙ length-append before [] in
    let none : length (later_ends net x.world []) ≡ 0 = refl in
    let count = run.count in
    let all = run.all in
    absurd (omega (arith, sum, none, count, all))
before_quantum {net} keeps before x (Quantum incs ∷ es) run t low high = elim (cases_lt x.world.quanta t) [
  | inr now ↦
      let next = quantum_is_next run in
      let e : x.world.quanta ≡ t = omega (arith, now, low) in
      record { x = x; incs = incs; holds = run.holds; quanta = e; may = next.may; row = rw (← e) (next.row ∙ next.is) }
  | inl later ↦
      let after = quantum_goes_on keeps run in
      let quanta = ap (λ (z : World). z.quanta) (quantum_is_next run).is in
      before_quantum keeps (before ++ effect net x.world (Quantum incs) ∷ []) (watch net x (Quantum incs)) es after t
      (omega (arith, quanta, later)) high
]
before_quantum {net} keeps before x (Tick v ∷ es) run t low high =
    before_quantum keeps before (watch net x (Tick v)) es (tick_goes_on keeps run) t low high
before_quantum {net} keeps before x (Deliver from to seq ∷ es) run t low high =
    let quanta = ap (λ (z : World). z.quanta) (arrives net x.world from to seq run.allowed.0).2.is in
    before_quantum keeps before (watch net x (Deliver from to seq)) es (deliver_goes_on keeps run) t
    (omega (arith, quanta, low)) high

-- an allowed quantum keeps the members, and is one quantum more
pub advanced_members : (net : Net) (w : World) (incs : List ℕ) → length w.members ≡ net.nodes
    → why net w (Quantum incs) ≡ None
    → (length (effect net w (Quantum incs)).members ≡ net.nodes) × ((effect net w (Quantum incs)).quanta ≡ w.quanta + 1)
advanced_members net w incs members none =
    let may = may_advance net w incs none in
    let is : effect net w (Quantum incs) ≡ advance_all w incs = quantum_is net w incs members may in
    let long = advance_count w incs in
    let same = may.count in
    (ap (λ (z : World). length z.members) is ∙ omega (arith, long, members, same), ap (λ (z : World). z.quanta) is)
