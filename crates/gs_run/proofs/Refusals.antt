-- What an event that is not refused keeps to.
use Rattle.std.proofs.Common.{◌≡◌, ◌≢◌, ℕ, suc, ◌+◌, ◌<◌, ◌≤◌, ◌^◌, ◌==◌, ◌&&◌, not, arith, sym, refl, List, [], ◌∷◌, length, slice_index, slice_index_or, Bool, true, false, cond, Option, Some, None, is_some, nat_lt, Contains}
use Rattle.std.specs.List.{position, position_or_len, find}
use Rattle.std.proofs.lemmas.Bool.{ltb-false, leb-false}
use Rattle.std.proofs.lemmas.List.Sums.{fails_before_first}
use Rattle.std.proofs.lemmas.List.Quantifiers.{position-Some}
use Rattle.gs_units.proofs.FirstFault.{first_fails, none_of, test_fails}
use Rattle.gs_units.specs.Growth.{IsIncrement}
use Rattle.gs_core.specs.declared.event.Event.TheVariants.{Quantum, Tick, Deliver}
use Rattle.gs_run.specs.Net.{Net, place_of}
use Rattle.gs_run.specs.World.{World, Sent, member, nobody, sent_by, is_newer}
use Rattle.gs_run.specs.Why.{at_node, drifts, is_due_at, is_stale, stale_place, stale_at, stale_of, why_sent, why_deliver, why}
use Rattle.gs_run.specs.declared.refused.Refused.{Refused}
use Rattle.gs_run.specs.declared.refused.Refused.TheVariants.{Shape, End, Drift, TickDue, Early, Late}

-- ---- where nothing is refused

no_node : (what : ℕ → Refused) (o : Option ℕ) → at_node what o ≡ None → o ≡ None
no_node what None e = refl
no_node what (Some v) e = absurd (cc)

none_found : (b : Bool) (n : ℕ) → cond b (Some n) None ≡ None → b ≡ false
none_found true n e = absurd (cc)
none_found false n e = refl

-- what has no place passes nowhere
pub position-None : {X : Type 0} → (p : X → Bool) (xs : List X) → position p xs ≡ None → (k : ℕ) (d : X)
    → k < length xs → p (slice_index_or xs k d) ≡ false
position-None p xs e k d h =
    let past : nat_lt (position_or_len p xs) (length xs) ≡ false = none_found _ (position_or_len p xs) e in
    let le : length xs ≤ position_or_len p xs = grind (arith, past) in
    fails_before_first p xs k d (omega (arith, le, h))

-- what is found is an element that passes
pub find-Some : {X : Type 0} → (p : X → Bool) (xs : List X) (x : X) → find p xs ≡ Some x → Contains xs x
find-Some p [] x e = absurd (cc)
find-Some {X} p (y ∷ ys) x e = pick (p y) (λ f. find-Some p ys x f) e where
  pick : (b : Bool) → (find p ys ≡ Some x → Contains ys x) → cond b (Some y) (find p ys) ≡ Some x → Contains (y ∷ ys) x
  pick true deep f = let same : y ≡ x = cc in (0, omega arith, same)
  pick false deep f = let rest = deep f in (suc rest.0, omega (arith, rest.1), rest.2)

-- ---- a quantum that is allowed

pub record MayAdvance (net : Net) (w : World) (incs : List ℕ) : Type 0 where
  pub count : length incs ≡ net.nodes
  pub end : w.quanta < 2 ^ 24
  pub increments : (v : ℕ) → v < length incs → IsIncrement net.rate (slice_index incs v)
  pub ticks : (v : ℕ) → v < length w.members → w.quanta < (member w v).ticked_at + net.tick
  pub heard : (v i : ℕ) → v < length w.members → i < length (member w v).heard
      → w.quanta < slice_index (member w v).heard i + net.age

no_stale_place : (net : Net) (v : ℕ) (o : Option ℕ) → stale_at net v o ≡ None → o ≡ None
no_stale_place net v None e = refl
no_stale_place net v (Some i) e = absurd (cc)

some_is_not : (o : Option ℕ) → is_some o ≡ true → o ≢ None
some_is_not None e f = absurd (cc)
some_is_not (Some x) e f = absurd (cc)

not_stale : (net : Net) (w : World) (o : Option ℕ)
    → o ≡ position (λ m. is_some (stale_place net w.quanta m)) w.members → stale_of net w o ≡ None → o ≡ None
not_stale net w None is e = refl
not_stale net w (Some v) is e =
    let found = position-Some (λ m. is_some (stale_place net w.quanta m)) w.members v nobody (sym is) in
    let place : Option ℕ = stale_place net w.quanta (member w v) in
    absurd (some_is_not place found.1 (no_stale_place net v place e))

is_none_then : (o : Option ℕ) → is_some o ≡ false → o ≡ None
is_none_then None e = refl
is_none_then (Some x) e = absurd (cc)

within : (net : Net) (h : ℕ) → drifts net h ≡ false → IsIncrement net.rate h
within net h e = grind (arith, e)

pub may_advance : (net : Net) (w : World) (incs : List ℕ) → why net w (Quantum incs) ≡ None → MayAdvance net w incs
may_advance net w incs e =
    let shape = first_fails _ Shape _ e in
    let end = first_fails _ End _ shape.1 in
    let drift = none_of _ _ end.1 in
    let due = none_of _ _ drift.1 in
    let last = none_of _ _ due.1 in
    let stale = not_stale net w (position (λ m. is_some (stale_place net w.quanta m)) w.members) refl last.0 in
    record {
      count = let e : not (length incs == net.nodes) ≡ false = shape.0 in grind (arith, e);
      end = leb-false _ _ end.0;
      increments = λ v hv.
          within net (slice_index incs v) (position-None (drifts net) incs (no_node Drift _ drift.0) v 0 hv);
      ticks = λ v hv.
          let timely = position-None (is_due_at net w.quanta) w.members (no_node TickDue _ due.0) v nobody hv in
          leb-false ((member w v).ticked_at + net.tick) w.quanta timely;
      heard = λ v i hv hi.
          let none : is_some (stale_place net w.quanta (member w v)) ≡ false =
          position-None (λ m. is_some (stale_place net w.quanta m)) w.members stale v nobody hv in
          leb-false (slice_index (member w v).heard i + net.age) w.quanta
          (position-None (is_stale net w.quanta) (member w v).heard (is_none_then _ none) i 0 hi);
    }

-- ---- a delivery that is allowed

pub record MayHear (net : Net) (w : World) (from to seq i : ℕ) (s : Sent) : Type 0 where
  pub node : to < net.nodes
  pub place : place_of net to from ≡ Some i
  pub sent : sent_by w from seq ≡ Some s
  pub early : is_newer (member w to) i s ≡ true → s.quantum + net.delay_min to from ≤ w.quanta
  pub late : is_newer (member w to) i s ≡ true → w.quanta ≤ s.quantum + net.delay_max to from

-- a test that fails beside one that passes
other_fails : (b c : Bool) → b && c ≡ false → b ≡ true → c ≡ false
other_fails true c e f = e
other_fails false c e f = absurd (cc)

hear_sent : (net : Net) (w : World) (from to seq i : ℕ) (o : Option Sent) → to < net.nodes
    → place_of net to from ≡ Some i → sent_by w from seq ≡ o → why_sent net w from to i o ≡ None
    → (s : Sent) × MayHear net w from to seq i s
hear_sent net w from to seq i None node place sent e = absurd (cc)
hear_sent net w from to seq i (Some s) node place sent e =
    let soon = first_fails _ Early _ e in
    let long = first_fails _ Late _ soon.1 in (
      s,
      record {
        node = node;
        place = place;
        sent = sent;
        early = λ f. ltb-false _ _ (other_fails _ _ soon.0 f);
        late = λ f. ltb-false _ _ (other_fails _ _ long.0 f);
      },
    )

hear_place : (net : Net) (w : World) (from to seq : ℕ) (o : Option ℕ) → to < net.nodes → place_of net to from ≡ o
    → why_deliver net w from to seq o ≡ None
    → (i : ℕ) × (s : Sent) × MayHear net w from to seq i s
hear_place net w from to seq None node place e = absurd (cc)
hear_place net w from to seq (Some i) node place e =
    let h = hear_sent net w from to seq i (sent_by w from seq) node place refl e in
    (i, h.0, h.1)

pub may_hear : (net : Net) (w : World) (from to seq : ℕ) → why net w (Deliver from to seq) ≡ None
    → (i : ℕ) × (s : Sent) × MayHear net w from to seq i s
may_hear net w from to seq e =
    let shape = first_fails _ Shape _ e in
    let rest = none_of _ _ shape.1 in
    let node : to < net.nodes = leb-false net.nodes to shape.0 in
    hear_place net w from to seq (place_of net to from) node refl rest.0

pub may_tick : (net : Net) (w : World) (v : ℕ) → why net w (Tick v) ≡ None → v < net.nodes
may_tick net w v e = leb-false net.nodes v (test_fails _ Shape e)
