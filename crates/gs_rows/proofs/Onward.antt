-- A play goes on, one event at a time.
use Rattle.std.proofs.Common.{◌≡◌, ℕ, ◌+◌, arith, ap, refl, ◌∙◌, sym, List, [], ◌∷◌, length, Option, Some, None, is_some, true, IfSome, subst, length-set}
use Rattle.std.specs.Option.{option_or}
use Rattle.gs_core.specs.declared.event.Event.{Event}
use Rattle.gs_core.specs.declared.event.Event.TheVariants.{Quantum, Tick, Deliver}
use Rattle.gs_plan.specs.declared.plan.Plan.{Plan}
use Rattle.gs_run.specs.Net.{Net, params_of, place_of}
use Rattle.gs_run.specs.Nets.{net_of}
use Rattle.gs_run.specs.Why.{why}
use Rattle.gs_run.specs.World.{World, Sent, member, clocks_in, deliver, effect, sent_by, ticked_member}
use Rattle.gs_run.specs.declared.refused.Refused.{Refused}
use Rattle.gs_run.proofs.Keeping.{advanced_members}
use Rattle.gs_calendar.specs.Breach.{breach_of, first_breach}
use Rattle.gs_calendar.specs.Calm.{Calm}
use Rattle.gs_calendar.proofs.OneSeat.{IsQuietWorld, run_is_quiet}
use Rattle.gs_world.proofs.Upkeep.{clocks_heard, clocks_ticked}
use Rattle.gs_rows.specs.inside.Onward.{GoesOn, left_of}
use Rattle.gs_rows.specs.Taken.{fast_taken}

-- nothing is played yet
pub starts : (net : Net) (w : World) (left : List Event) → Calm net w left → length w.members ≡ net.nodes
    → GoesOn net w left None w left
starts net w left calm members = record {
  calm = calm;
  breach = refl;
  rows = refl;
  quanta = omega arith;
  members = members;
  clocks = refl;
}

-- a delivery changes no clock
delivered_clocks : (net : Net) (w : World) (to : ℕ) (place : Option ℕ) (sent : Option Sent)
    → clocks_in net (deliver net w to place sent) ≡ clocks_in net w
delivered_clocks net w to None None = refl
delivered_clocks net w to None (Some s) = refl
delivered_clocks net w to (Some i) None = refl
delivered_clocks net w to (Some i) (Some s) = clocks_heard net w to i s

-- one event more
pub takes : (net : Net) (w z : World) (left rest : List Event) (e : Event) → GoesOn net w left None z (e ∷ rest)
    → why net z e ≡ None → GoesOn net w left (fast_taken z e) (effect net z e) rest
takes net w z left rest (Quantum incs) h none =
    let shape = advanced_members net z incs h.members none in
    let quanta = h.quanta in
    let more = shape.1 in
    record {
      calm = h.calm.1;
      breach = h.breach
          ∙ ap (λ (r : Option Refused). option_or (breach_of (z.quanta + 1) r) (first_breach net (effect net z (Quantum incs)) rest)) none;
      rows = h.rows;
      quanta = omega (arith, quanta, more);
      members = shape.0;
      clocks = tt;
    }
takes net w z left rest (Tick v) h none = record {
  calm = h.calm.1;
  breach = h.breach;
  rows = h.rows;
  quanta = h.quanta;
  members = length-set z.members v (ticked_member (params_of net v) z.quanta (member z v)) ∙ h.members;
  clocks = clocks_ticked net z v ∙ h.clocks;
}
takes net w z left rest (Deliver from to seq) h none =
    let quiet : IsQuietWorld z (effect net z (Deliver from to seq)) =
    run_is_quiet net z (Deliver from to seq ∷ []) (tt, tt) in
    record {
      calm = h.calm.1;
      breach = h.breach;
      rows = h.rows;
      quanta = quiet.quanta ∙ h.quanta;
      members = quiet.count ∙ h.members;
      clocks = delivered_clocks net z to (place_of net to from) (sent_by z from seq) ∙ h.clocks;
    }

-- the event that is held, which the world has taken
pub takes_held : (p q : Plan) (w z new : World) (left old feed : List Event) (held after : Option Event) (passed : Option ℕ)
    → q ≡ p → GoesOn (net_of p) w left None z old → left_of held feed ≡ old → is_some held ≡ true
    → IfSome held (λ e. why (net_of q) z e ≡ None) → IfSome held (λ e. new ≡ effect (net_of q) z e)
    → IfSome held (λ e. passed ≡ fast_taken z e) → after ≡ None
    → GoesOn (net_of p) w left passed new (left_of after feed)
takes_held p q w z new left old feed None after passed plan h same some allowed moved fast empty = absurd (cc)
takes_held p q w z new left old feed (Some e) after passed plan h same some allowed moved fast empty =
    let none : why (net_of p) z e ≡ None = subst (λ (x : Plan). why (net_of x) z e ≡ None) plan allowed in
    let is : new ≡ effect (net_of p) z e = moved ∙ ap (λ (x : Plan). effect (net_of x) z e) plan in
    let first : GoesOn (net_of p) w left None z (e ∷ feed) =
    subst (λ (xs : List Event). GoesOn (net_of p) w left None z xs) (sym same) h in
    rw (fast, is, empty) (takes (net_of p) w z left feed e first none)
