-- An audit that is under way, one event at a time.
use Rattle.std.proofs.Common.{◌≡◌, ℕ, ◌+◌, ◌^◌, ◌<◌, ◌≤◌, arith, sym, refl, ◌∙◌, List, [], ◌∷◌, ◌++◌, length, map}
use Rattle.std.proofs.Common.{Option, Some, None, append_assoc, length-append, length-set}
use Rattle.std.proofs.lemmas.List.{length-map}
use Rattle.std.proofs.lemmas.List.FromFn.{length-map-range_with_len}
use Rattle.std.specs.Prelude.{slice_index}
use Rattle.gs_topo.specs.Graph.{Graph}
use Rattle.gs_core.specs.declared.event.Event.{Event}
use Rattle.gs_core.specs.declared.event.Event.TheVariants.{Quantum, Tick, Deliver}
use Rattle.gs_core.specs.inside.Events.{IsNoQuantum}
use Rattle.gs_level.specs.Tallies.{tally_of}
use Rattle.gs_level.specs.declared.tally.Tally.{Tally}
use Rattle.gs_run.specs.Fast.{fast_in}
use Rattle.gs_run.specs.Net.{Net, params_of, place_of}
use Rattle.gs_run.specs.Run.{first_refused, later_ends}
use Rattle.gs_run.specs.Why.{why}
use Rattle.gs_run.specs.World.{World, Sent, member, clocks_in, deliver, effect, heard_member, member_at_start, sent_by, ticked_member, world_at_start}
use Rattle.gs_run.specs.declared.refused.Refused.{Refused}
use Rattle.gs_run.proofs.Keeping.{advanced_members}
use Rattle.gs_run.proofs.Theorems.{clock_count}
use Rattle.gs_audit.specs.inside.UnderWay.{IsUnderWay}

-- ---- the start

start_count : (net : Net) (hw : List ℕ) (l0 : ℕ) → length (world_at_start net hw l0).members ≡ net.nodes
start_count net hw l0 = length-map-range_with_len (λ v. member_at_start net v (slice_index hw v) l0) 0 net.nodes

pub audit_begins : (net : Net) (g : Graph) (hw : List ℕ) (l0 : ℕ) (all : List Event) (w : World) (tally : Tally) (clocks : List ℕ)
    → w ≡ world_at_start net hw l0 → clocks ≡ clocks_in net w → tally ≡ tally_of g (clocks ∷ []) → length all < 2 ^ 64
    → IsUnderWay net g (world_at_start net hw l0) all all w tally clocks 0 0
audit_begins net g hw l0 all w tally clocks begins row tallied short =
    let start : World = world_at_start net hw l0 in
    let here : IsUnderWay net g start all all start (tally_of g (clocks_in net start ∷ [])) (clocks_in net start) 0 0 = record {
      refused = refl;
      fasts = omega arith;
      before = [];
      rows = refl;
      tallied = refl;
      number = refl;
      members = start_count net hw l0;
      count = clock_count net start ∙ start_count net hw l0;
      few = omega arith;
      short = omega (arith, short);
    } in
    rw (tallied, row, begins) here

-- ---- refusals

-- an event that is not refused
pub refused_later : (net : Net) (i : ℕ) (w : World) (e : Event) (left : List Event) → why net w e ≡ None
    → first_refused net i w (e ∷ left) ≡ first_refused net (i + 1) (effect net w e) left
refused_later net i w e left none = rw none refl

-- an event that is
pub refused_here : (net : Net) (i : ℕ) (w : World) (e : Event) (left : List Event) (r : Refused) → why net w e ≡ Some r
    → first_refused net i w (e ∷ left) ≡ Some (i, r)
refused_here net i w e left r some = rw some refl

-- ---- an allowed quantum

pub takes_quantum : (net : Net) (g : Graph) (start : World) (all left : List Event) (w : World) (incs : List ℕ) (old new : Tally)
    (clocks : List ℕ) (fast index : ℕ)
    → IsUnderWay net g start all (Quantum incs ∷ left) w old clocks fast index
    → why net w (Quantum incs) ≡ None → fast_in w ≤ 2 ^ 32
    → ((rows : List (List ℕ)) → old ≡ tally_of g rows
    → new ≡ tally_of g (rows ++ clocks_in net (effect net w (Quantum incs)) ∷ []))
    → IsUnderWay net g start all left (effect net w (Quantum incs)) new (clocks_in net (effect net w (Quantum incs)))
    (fast + fast_in w) (index + 1)
takes_quantum net g start all left w incs old new clocks fast index h none small adds =
    let z : World = effect net w (Quantum incs) in
    let shape = advanced_members net w incs h.members none in
    let quanta = shape.1 in
    let few = h.few in
    let short = h.short in
    record {
      refused = h.refused ∙ refused_later net index w (Quantum incs) left none;
      fasts = let all_of = h.fasts in omega (arith, all_of);
      before = h.before ++ clocks ∷ [];
      rows = h.rows ∙ sym (append_assoc h.before (clocks ∷ []) (map (clocks_in net) (z ∷ later_ends net z left)));
      tallied = adds (h.before ++ clocks ∷ []) h.tallied;
      number = length-append h.before (clocks ∷ []) ∙ (let n = h.number in omega (arith, n, quanta));
      members = shape.0;
      count = clock_count net z ∙ shape.0;
      few = omega (arith, few, small, quanta);
      short = omega (arith, short);
    }

-- ---- another event

-- a delivery takes no quantum, and no node away
delivery_keeps : (net : Net) (w : World) (to : ℕ) (place : Option ℕ) (sent : Option Sent)
    → ((deliver net w to place sent).quanta ≡ w.quanta) × (length (deliver net w to place sent).members ≡ length w.members)
delivery_keeps net w to None None = (refl, refl)
delivery_keeps net w to None (Some s) = (refl, refl)
delivery_keeps net w to (Some i) None = (refl, refl)
delivery_keeps net w to (Some i) (Some s) = (refl, length-set w.members to (heard_member (params_of net to) i s (member w to)))

pub takes_other : (net : Net) (g : Graph) (start : World) (all left : List Event) (w : World) (e : Event) (tally : Tally)
    (clocks : List ℕ) (fast index : ℕ) → IsNoQuantum e → why net w e ≡ None
    → IsUnderWay net g start all (e ∷ left) w tally clocks fast index → IsUnderWay net g start all left (effect net w e) tally clocks fast (index + 1)
takes_other net g start all left w (Quantum incs) tally clocks fast index other none h = absurd other
takes_other net g start all left w (Tick v) tally clocks fast index other none h = record {
  refused = h.refused ∙ refused_later net index w (Tick v) left none;
  fasts = h.fasts;
  before = h.before;
  rows = h.rows;
  tallied = h.tallied;
  number = h.number;
  members = length-set w.members v (ticked_member (params_of net v) w.quanta (member w v)) ∙ h.members;
  count = h.count;
  few = h.few;
  short = let short = h.short in omega (arith, short);
}
takes_other net g start all left w (Deliver from to seq) tally clocks fast index other none h =
    let kept = delivery_keeps net w to (place_of net to from) (sent_by w from seq) in
    let quanta = kept.0 in
    let few = h.few in
    let short = h.short in
    record {
      refused = h.refused ∙ refused_later net index w (Deliver from to seq) left none;
      fasts = h.fasts;
      before = h.before;
      rows = h.rows;
      tallied = h.tallied;
      number = h.number ∙ sym quanta;
      members = kept.1 ∙ h.members;
      count = h.count;
      few = omega (arith, few, quanta);
      short = omega (arith, short);
    }
