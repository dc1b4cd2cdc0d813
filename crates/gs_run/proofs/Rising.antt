-- No event makes a clock fall.
use Rattle.std.proofs.Common.{◌≡◌, ℕ, zero, suc, ◌+◌, ◌-◌, ◌<◌, ◌≤◌, ◌==◌, inl, inr, arith, ap, refl, ◌∙◌, subst, List, [], ◌∷◌, take, length, Bool, true, false, Option, Some, None, slice_index, if◌then◌else◌, length-set}
use Rattle.std.proofs.lemmas.Bool.{cases_eq, eqb-true}
use Rattle.gs_units.specs.declared.params.NodeParams.{NodeParams}
use Rattle.gs_units.proofs.Growing.{scaled-least}
use Rattle.gs_beacon.specs.declared.beacon.Beacon.{Beacon}
use Rattle.gs_estimate.specs.Entries.{entry_at, is_fresh}
use Rattle.gs_units.specs.Rates.{steer_of}
use Rattle.gs_units.specs.declared.rate.Mode.{Mode}
use Rattle.gs_units.specs.declared.rate.Mode.TheVariants.{Slow, Fast}
use Rattle.gs_units.specs.declared.rate.Rate.{Rate}
use Rattle.gs_core.specs.Node.{Node, clock_of, delivered_at, freshened, link_at, link_place}
use Rattle.gs_core.specs.declared.event.Event.{Event}
use Rattle.gs_core.specs.declared.event.Event.TheVariants.{Quantum, Tick, Deliver}
use Rattle.gs_run.specs.Net.{Net, params_of, place_of}
use Rattle.gs_run.specs.Run.{run}
use Rattle.gs_run.specs.World.{World, Member, Sent, advance_all, clock_in, deliver, effect, heard_member, member, sent_by, ticked_member, with_member}
use Rattle.gs_run.specs.Refusing.{ClocksNeverFall}
use Rattle.gs_run.proofs.Written.{member_other, member_same}
use Rattle.gs_run.proofs.Keeping.{advance_count, advance_member}

-- ---- a clock rises with its hardware clock

steer_rises : (rate : Rate) (mode : Mode) (x h : ℕ) → steer_of rate mode x ≤ steer_of rate mode (x + h)
steer_rises rate Slow x h = omega arith
steer_rises rate Fast x h =
    let least = scaled-least x h 0 rate.mu 1000000 (omega arith) (omega arith) in
    omega (arith, least)

clock_rises : (rate : Rate) (n : Node) (now h : ℕ) → clock_of rate n now ≤ clock_of rate n (now + h)
clock_rises rate n now h =
    let more : ℕ = now + h - n.at - (now - n.at) in
    let e : now - n.at + more ≡ now + h - n.at = omega arith in
    let rises = rw e at (steer_rises rate n.mode (now - n.at) more) in
    omega (arith, rises)

-- ---- what an event keeps

-- each node is still there, and its clock has not fallen
pub record Rises (net : Net) (w z : World) : Type 0 where
  pub count : length z.members ≡ length w.members
  pub clocks : (v : ℕ) → v < length w.members → clock_in net w v ≤ clock_in net z v

same_rises : (net : Net) (w : World) → Rises net w w
same_rises net w = record { count = refl; clocks = λ v hv. omega arith }

then_rises : (net : Net) (a b c : World) → Rises net a b → Rises net b c → Rises net a c
then_rises net a b c h k =
    let count = h.count in
    record {
      count = k.count ∙ h.count;
      clocks = λ v hv.
          let first = h.clocks v hv in
          let second = k.clocks v (omega (arith, count, hv)) in
          omega (arith, first, second);
    }

-- one node alone changes
with_rises : (net : Net) (w : World) (u : ℕ) (m : Member)
    → clock_of net.rate (member w u).node (member w u).reading ≤ clock_of net.rate m.node m.reading
    → Rises net w (with_member w u m)
with_rises net w u m rises = record {
  count = length-set w.members u m;
  clocks = λ v hv. elim (cases_eq v u) [
    | inl same ↦
        let at : member (with_member w u m) v ≡ m =
        ap (λ (x : ℕ). member (with_member w u m) x) same ∙ member_same w u m (subst (λ (x : ℕ). x < length w.members) same hv) in
        let own : member w v ≡ member w u = ap (λ (x : ℕ). member w x) same in
        rw (at, own) rises
    | inr other ↦ rw (member_other w u v m other) (omega arith)
  ];
}

quantum_rises : (net : Net) (w : World) (incs : List ℕ) (b : Bool) → (length incs == length w.members) ≡ b
    → Rises net w (if b then advance_all w incs else w)
quantum_rises net w incs false e = same_rises net w
quantum_rises net w incs true e =
    let long : length incs ≡ length w.members = eqb-true (length incs) (length w.members) e in
    let count = advance_count w incs in
    record {
      count = omega (arith, count, long);
      clocks = λ v hv.
          rw (advance_member w incs v hv (omega (arith, long, hv)))
          (clock_rises net.rate (member w v).node (member w v).reading (slice_index incs v));
    }

-- what is heard changes no clock
heard_clock : (rate : Rate) (p : NodeParams) (n : Node) (b : Beacon) (now r : ℕ) (o : Option ℕ)
    → clock_of rate (delivered_at p n b now o) r ≡ clock_of rate n r
heard_clock rate p n b now r None = refl
heard_clock rate p n b now r (Some i) = pick (is_fresh (entry_at n.entries i) b.seq) where
  pick : (fresh : Bool) → clock_of rate (if fresh then freshened p.rate (link_at p i) n i b now else record n { last = now }) r ≡ clock_of rate n r
  pick true = refl
  pick false = refl

delivery_rises : (net : Net) (w : World) (to : ℕ) (place : Option ℕ) (sent : Option Sent) → Rises net w (deliver net w to place sent)
delivery_rises net w to None None = same_rises net w
delivery_rises net w to None (Some s) = same_rises net w
delivery_rises net w to (Some i) None = same_rises net w
delivery_rises net w to (Some i) (Some s) =
    let m : Member = member w to in
    let p : NodeParams = params_of net to in
    let same = heard_clock net.rate p m.node s.beacon m.reading m.reading (link_place p s.beacon.sender) in
    with_rises net w to (heard_member p i s m) (omega (arith, same))

effect_rises : (net : Net) (w : World) (e : Event) → Rises net w (effect net w e)
effect_rises net w (Quantum incs) = quantum_rises net w incs (length incs == length w.members) refl
effect_rises net w (Tick u) = with_rises net w u (ticked_member (params_of net u) w.quanta (member w u)) (omega arith)
effect_rises net w (Deliver from to seq) = delivery_rises net w to (place_of net to from) (sent_by w from seq)

-- ---- no clock ever falls

pub run_rises : (net : Net) (w : World) (es : List Event) → Rises net w (run net w es)
run_rises net w [] = same_rises net w
run_rises net w (e ∷ es) =
    then_rises net w (effect net w e) (run net (effect net w e) es) (effect_rises net w e) (run_rises net (effect net w e) es)

pub later_rises : (net : Net) (w : World) (es : List Event) (i j : ℕ) → i ≤ j
    → Rises net (run net w (take i es)) (run net w (take j es))
later_rises net w [] zero zero le = same_rises net w
later_rises net w [] zero (suc j) le = same_rises net w
later_rises net w [] (suc i) zero le = same_rises net w
later_rises net w [] (suc i) (suc j) le = same_rises net w
later_rises net w (e ∷ es) zero j le = run_rises net w (take j (e ∷ es))
later_rises net w (e ∷ es) (suc i) zero le = absurd (omega (arith, le))
later_rises net w (e ∷ es) (suc i) (suc j) le = later_rises net (effect net w e) es i j (omega (arith, le))

-- each clock is at a later moment no less than at an earlier one
pub clocks_never_fall : ClocksNeverFall
clocks_never_fall net w es i j v le node =
    let kept = (run_rises net w (take i es)).count in
    (later_rises net w es i j le).clocks v (omega (arith, kept, node))
