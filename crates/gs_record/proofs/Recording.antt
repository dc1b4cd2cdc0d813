-- A trace is written event by event.
use Rattle.std.proofs.Common.{◌≡◌, ℕ, ◌+◌, ◌≤◌, ◌^◌, inl, inr, List, [], ◌∷◌, ◌++◌, length, take, Option, Some, None, refl, sym, ap, ◌∙◌, subst, append_assoc, append-nil, arith, replicate}
use Rattle.std.specs.List.{flat_map}
use Rattle.std.proofs.Math.Seq.{take-append_seam}
use Rattle.std.proofs.lemmas.List.{length-replicate}
use Rattle.std.proofs.lemmas.List.Elements.{All-replicate}
use Rattle.gs_units.proofs.FirstFault.{first_is, later_is}
use Rattle.gs_core.specs.declared.event.Event.{Event}
use Rattle.gs_core.specs.declared.event.Event.TheVariants.{Quantum, Tick, Deliver}
use Rattle.gs_io.specs.Causes.{Rose}
use Rattle.gs_io.specs.Held.{Appends, AppendsFront}
use Rattle.gs_io.proofs.Writing.{then_appends, then_appends_front}
use Rattle.gs_plan.specs.declared.plan.Plan.{Plan}
use Rattle.gs_run.specs.Net.{Net}
use Rattle.gs_run.specs.Nets.{net_of}
use Rattle.gs_run.specs.Why.{why}
use Rattle.gs_run.specs.World.{World, effect}
use Rattle.gs_run.specs.declared.refused.Refused.{Refused}
use Rattle.gs_script.specs.Script.{Said}
use Rattle.gs_calendar.specs.Breach.{Breach, breach_in, breach_of, first_breach}
use Rattle.gs_calendar.specs.Calm.{Calm, IsCalm}
use Rattle.gs_calendar.specs.Course.{course_of}
use Rattle.gs_calendar.specs.Events.{events_of}
use Rattle.gs_calendar.specs.Scripts.{breach_of_script, start_of}
use Rattle.gs_trace.specs.Starts.{FitsWorld}
use Rattle.gs_trace.specs.Worlds.{event_bytes}
use Rattle.gs_record.specs.Recorded.{EndsAt, head_of, recorded, start_at_0, trace_of, unless_breach, up_to_breach}
use Rattle.gs_record.specs.inside.UnderWay.{IsCut, IsRecording, IsRefused}
use Rattle.gs_record.specs.declared.record.RecordStop.{RecordStop}
use Rattle.gs_record.specs.declared.record.RecordStop.TheVariants as stop

-- an allowed event is no breach
no_breach : (net : Net) (w : World) (e : Event) → why net w e ≡ None → breach_in net w e ≡ None
no_breach net w (Quantum incs) allowed = ap (breach_of (w.quanta + 1)) allowed
no_breach net w (Tick v) allowed = refl
no_breach net w (Deliver from to seq) allowed = refl

-- what is refused of a script is a breach
pub refused_is_breach : (net : Net) (w : World) (e : Event) (refused : Refused) → IsCalm net w e → why net w e ≡ Some refused
    → (b : Breach) × (breach_in net w e ≡ Some b)
refused_is_breach net w (Quantum incs) refused (inl allowed) is = absurd (let both : None ≡ Some refused = sym allowed ∙ is in cc)
refused_is_breach net w (Quantum incs) refused (inr (from, to, stale)) is =
    (record { quantum = w.quanta + 1; from = from; to = to }, ap (breach_of (w.quanta + 1)) stale)
refused_is_breach net w (Tick v) refused calm is = absurd (let both : None ≡ Some refused = sym calm ∙ is in cc)
refused_is_breach net w (Deliver from to seq) refused calm is = absurd (let both : None ≡ Some refused = sym calm ∙ is in cc)

-- nothing is a prefix of all
pub none_is_front : (held : Option (List ℕ)) (text : List ℕ) → AppendsFront held held text
none_is_front None text = (0, tt)
none_is_front (Some xs) text = (0, ap Some (sym (append-nil xs)))

-- ---- the start

pub zeros_fit : (n : ℕ) → FitsWorld n (start_at_0 n)
zeros_fit n = record {
  count = length-replicate n 0;
  clock = omega arith;
  readings = All-replicate (λ reading. reading ≤ 2 ^ 61) n 0 (omega arith);
}

appends_none : (held : Option (List ℕ)) → Appends held held []
appends_none None = tt
appends_none (Some xs) = ap Some (sym (append-nil xs))

-- where the head is not written whole
pub head_cut_ends : (p : Plan) (s : Said) (old new : Option (List ℕ)) (before after : ℕ) (why : RecordStop)
    → IsCut (head_of p) old new before after why → EndsAt p s old new before after why
head_cut_ends p s old new before after stop.Breach cut = absurd cut
head_cut_ends p s old new before after stop.Failed cut =
    (then_appends_front old old new (trace_of p s) [] (head_of p) (flat_map event_bytes (recorded p s)) refl (appends_none old) cut.0, cut.1)
head_cut_ends p s old new before after stop.OutOfMemory cut =
    then_appends_front old old new (trace_of p s) [] (head_of p) (flat_map event_bytes (recorded p s)) refl (appends_none old) cut

-- behind the head all events are left
pub begins : (p : Plan) (s : Said) (q : Plan) (w : World) (left : List Event) (old now : Option (List ℕ)) (before faults : ℕ)
    → q ≡ p → w ≡ start_of (net_of p) → left ≡ events_of (net_of p) (course_of s)
    → Calm (net_of p) (start_of (net_of p)) (events_of (net_of p) (course_of s))
    → Appends old now (head_of p) → before ≤ faults → IsRecording p s q w left old now before faults
begins p s q w left old now before faults same starts all calm held later =
    subst (λ (x : World). IsRecording p s q x left old now before faults) (sym starts)
    (subst (λ (es : List Event). IsRecording p s q (start_of (net_of p)) es old now before faults) (sym all) (record {
      plan = same;
      calm = calm;
      breach = refl;
      written = head_of p;
      held = held;
      rest = refl;
      later = later;
    }))

-- ---- one event

-- the same events are left
pub same_left : (p : Plan) (s : Said) (q : Plan) (w : World) (xs ys : List Event) (old now : Option (List ℕ)) (before faults : ℕ)
    → xs ≡ ys → IsRecording p s q w xs old now before faults → IsRecording p s q w ys old now before faults
same_left p s q w xs ys old now before faults e h = subst (λ (left : List Event). IsRecording p s q w left old now before faults) e h

-- the first event that is left is calm
pub first_is_calm : (p : Plan) (s : Said) (q : Plan) (w : World) (e : Event) (left : List Event) (old now : Option (List ℕ)) (before faults : ℕ)
    → IsRecording p s q w (e ∷ left) old now before faults → IsCalm (net_of q) w e
first_is_calm p s q w e left old now before faults h = subst (λ (x : Plan). IsCalm (net_of x) w e) (sym h.plan) h.calm.0

-- after an event that is written and allowed
pub goes_on : (p : Plan) (s : Said) (q r : Plan) (w z : World) (e : Event) (left : List Event) (old now new : Option (List ℕ)) (before faults after : ℕ)
    → IsRecording p s q w (e ∷ left) old now before faults → Appends now new (event_bytes e) → faults ≤ after
    → r ≡ q → why (net_of q) w e ≡ None → z ≡ effect (net_of q) w e
    → IsRecording p s r z left old new before after
goes_on p s q r w z e left old now new before faults after h written later same allowed moved =
    let net : Net = net_of p in
    let next : World = effect net w e in
    let none : breach_in net w e ≡ None = no_breach net w e (subst (λ (x : Plan). why (net_of x) w e ≡ None) h.plan allowed) in
    let z_is : z ≡ next = moved ∙ ap (λ (x : Plan). effect (net_of x) w e) h.plan in
    let breach : breach_of_script p s ≡ first_breach net next left = h.breach ∙ later_is (breach_in net w e) (first_breach net next left) none in
    let rest : List Event = up_to_breach net next left in
    let whole : trace_of p s ≡ h.written ++ (event_bytes e ++ flat_map event_bytes rest) =
    h.rest ∙ ap (λ (b : Option Breach). h.written ++ (event_bytes e ++ flat_map event_bytes (unless_breach b rest))) none in
    let earlier = h.later in
    record {
      plan = same ∙ h.plan;
      calm = subst (λ (x : World). Calm net x left) (sym z_is) h.calm.1;
      breach = breach ∙ ap (λ (x : World). first_breach net x left) (sym z_is);
      written = h.written ++ event_bytes e;
      held = then_appends old now new h.written (event_bytes e) h.held written;
      rest = whole ∙ sym (append_assoc h.written (event_bytes e) (flat_map event_bytes rest))
          ∙ ap (λ (x : World). (h.written ++ event_bytes e) ++ flat_map event_bytes (up_to_breach net x left)) (sym z_is);
      later = omega (arith, earlier, later);
    }

-- a prefix of what is left of the trace ends a prefix of it
front_ends : (p : Plan) (s : Said) (q : Plan) (w : World) (e : Event) (left : List Event) (old now new : Option (List ℕ)) (before faults : ℕ)
    → IsRecording p s q w (e ∷ left) old now before faults → AppendsFront now new (event_bytes e) → AppendsFront old new (trace_of p s)
front_ends p s q w e left old now new before faults h front =
    let others : List ℕ = flat_map event_bytes (unless_breach (breach_in (net_of p) w e) (up_to_breach (net_of p) (effect (net_of p) w e) left)) in
    then_appends_front old now new (trace_of p s) h.written (event_bytes e) others h.rest h.held front

-- a count that rose since then rose since earlier
rose_before : (before faults after : ℕ) → before ≤ faults → Rose faults after → Rose before after
rose_before before faults after earlier (inl rose) = inl (omega (arith, earlier, rose))
rose_before before faults after earlier (inr full) = inr full

-- where the first event that is left is not written whole
pub cut_ends : (p : Plan) (s : Said) (q : Plan) (w : World) (e : Event) (left : List Event) (old now new : Option (List ℕ)) (before faults after : ℕ) (why : RecordStop)
    → IsRecording p s q w (e ∷ left) old now before faults → IsCut (event_bytes e) now new faults after why → EndsAt p s old new before after why
cut_ends p s q w e left old now new before faults after stop.Breach h cut = absurd cut
cut_ends p s q w e left old now new before faults after stop.Failed h cut =
    (front_ends p s q w e left old now new before faults h cut.0, rose_before before faults after h.later cut.1)
cut_ends p s q w e left old now new before faults after stop.OutOfMemory h cut = front_ends p s q w e left old now new before faults h cut

-- all that is held is a prefix of the trace
pub held_is_front : (p : Plan) (s : Said) (q : Plan) (w : World) (left : List Event) (old now : Option (List ℕ)) (before faults : ℕ)
    → IsRecording p s q w left old now before faults → AppendsFront old now (trace_of p s)
held_is_front p s q w left old now before faults h =
    let others : List ℕ = flat_map event_bytes (up_to_breach (net_of p) w left) in
    let front : take (length h.written) (trace_of p s) ≡ h.written = ap (take (length h.written)) h.rest ∙ take-append_seam h.written others in
    (length h.written, subst (λ (xs : List ℕ). Appends old now xs) (sym front) h.held)

-- where the first event that is left is written and refused
pub refusal_ends : (p : Plan) (s : Said) (q : Plan) (w : World) (e : Event) (left : List Event) (old now new : Option (List ℕ)) (before faults after : ℕ) (why : RecordStop)
    → IsRecording p s q w (e ∷ left) old now before faults → Appends now new (event_bytes e)
    → IsRefused (breach_in (net_of q) w e) why → EndsAt p s old new before after why
refusal_ends p s q w e left old now new before faults after stop.Breach h written refused =
    let net : Net = net_of p in
    let here : breach_in net w e ≡ Some refused.0 = ap (λ (x : Plan). breach_in (net_of x) w e) (sym h.plan) ∙ refused.1 in
    let first : breach_of_script p s ≡ Some refused.0 = h.breach ∙ first_is (breach_in net w e) (first_breach net (effect net w e) left) refused.0 here in
    let whole : trace_of p s ≡ h.written ++ event_bytes e =
    h.rest ∙ ap (λ (b : Option Breach). h.written ++ (event_bytes e ++ flat_map event_bytes (unless_breach b (up_to_breach net (effect net w e) left)))) here
    ∙ ap (λ (xs : List ℕ). h.written ++ xs) (append-nil (event_bytes e)) in
    ((refused.0, first), subst (λ (xs : List ℕ). Appends old new xs) (sym whole) (then_appends old now new h.written (event_bytes e) h.held written))
refusal_ends p s q w e left old now new before faults after stop.Failed h written refused = absurd refused
refusal_ends p s q w e left old now new before faults after stop.OutOfMemory h written refused =
    let got = then_appends_front old now new (trace_of p s) h.written (event_bytes e)
    (flat_map event_bytes (unless_breach (breach_in (net_of p) w e) (up_to_breach (net_of p) (effect (net_of p) w e) left))) h.rest h.held in
    got (length (event_bytes e), subst (λ (xs : List ℕ). Appends now new xs) (sym (take_whole (event_bytes e))) written)
  where
    take_whole : (xs : List ℕ) → take (length xs) xs ≡ xs
    take_whole [] = refl
    take_whole (x ∷ xs) = ap (λ (ys : List ℕ). x ∷ ys) (take_whole xs)

-- where no event is left
pub ends_whole : (p : Plan) (s : Said) (q : Plan) (w : World) (old now : Option (List ℕ)) (before faults : ℕ)
    → IsRecording p s q w [] old now before faults → (breach_of_script p s ≡ None) × Appends old now (trace_of p s)
ends_whole p s q w old now before faults h =
    (h.breach, subst (λ (xs : List ℕ). Appends old now xs) (sym (h.rest ∙ append-nil h.written)) h.held)
