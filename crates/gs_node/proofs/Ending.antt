-- Which end the signs of a run show, and what is then true.
use Rattle.std.proofs.Common.{◌≡◌, ◌∙◌, ◌⊎◌, inl, inr, ℕ, ◌+◌, ◌<◌, ◌≤◌, ◌&&◌, Bool, true, false, nat_le, MatchOption, All, List, [], ◌∷◌, length, map, is_some, Option, Some, None, Result, Ok, Err, IsOk, OnOk, sym, refl, ap, subst, arith}
use Rattle.std.specs.Bool.{then_some}
use Rattle.std.specs.Option.{unwrap_or}
use Rattle.std.proofs.lemmas.Bool.Decides.{nat_tests}
use Rattle.std.proofs.lemmas.List.Elements.{All-head}
use Rattle.gs_units.specs.FirstFault.{first_some}
use Rattle.gs_trace.specs.declared.start.NodeStart.{NodeStart}
use Rattle.gs_board.specs.Entries.{neighbours_of}
use Rattle.gs_board.specs.Ledger.{Ledger}
use Rattle.gs_board.specs.Slips.{Slip}
use Rattle.gs_board.specs.Torn.{IsWhole}
use Rattle.gs_board.specs.declared.faults.Halt.{Halt}
use Rattle.gs_board.specs.declared.faults.Halt.TheVariants as halt
use Rattle.gs_board.specs.declared.faults.Torn.{Torn}
use Rattle.gs_board.specs.declared.told.Told.{Told}
use Rattle.gs_callers.specs.Snaps.{snaps_of}
use Rattle.gs_respond.specs.Rests.{is_at_rest}
use Rattle.gs_view.specs.declared.snaps.Snap.{Snap}
use Rattle.gs_node.specs.Ends.{IsEnd, IsFirstTorn, Shows}
use Rattle.gs_node.specs.Handing.{Failures, HandedBack, HandedIn, IsDropped}
use Rattle.gs_node.specs.Serving.{DoneEnd, DoneWith, EndsWith, EveryEnd, SameStart, TimerSeat, torn_of}
use Rattle.gs_node.specs.declared.choosing.Signs.{Signs}
use Rattle.gs_node.specs.declared.ends.End.{End}
use Rattle.gs_node.specs.declared.ends.End.TheVariants as end
use Rattle.gs_node.specs.inside.Runs.{HasReasons, HasRun, Leavings, Reasons, ShownAll}
use Rattle.gs_node.specs.inside.Signs.{end_of, halt_end, torn_end}

both_true : (a b : Bool) → (a && b) ≡ true → b ≡ true
both_true true b h = h
both_true false b h = absurd (cc)

is_least : (m n : ℕ) → nat_le m n ≡ true → m ≤ n
is_least m n h = grind (arith, nat_tests)

-- the ends that are asked after the halt, by their tests
abbrev later_end : Bool → Bool → Bool → Bool → End
later_end view filled link short = unwrap_or (first_some (
    then_some view (end.ClockFault halt.ClockFailed)
    ∷ then_some filled end.JournalEnd
    ∷ then_some link end.LinkFault
    ∷ then_some short end.OutOfMemory
    ∷ [])) end.Done

-- and all of them
abbrev end_from : Option Torn → Bool → Option Halt → Bool → Bool → Bool → Bool → End
end_from torn no_thread stopped view filled link short = unwrap_or (first_some (
    torn_end torn
    ∷ then_some no_thread end.NoThread
    ∷ halt_end stopped
    ∷ then_some view (end.ClockFault halt.ClockFailed)
    ∷ then_some filled end.JournalEnd
    ∷ then_some link end.LinkFault
    ∷ then_some short end.OutOfMemory
    ∷ [])) end.Done

-- whether a run has filled its journal
abbrev is_filled : Signs → Bool
is_filled s = s.filled && nat_le 4193281 s.length

later_torn : (v f l k : Bool) → torn_of (later_end v f l k) ≡ None
later_torn true f l k = refl
later_torn false true l k = refl
later_torn false false true k = refl
later_torn false false false true = refl
later_torn false false false false = refl

later_shows : (t : Ledger) (seats : List Slip) (n : Failures) (rose : Type 0) (s : Signs) → t.halt ≡ None → (s.view_failed ≡ true → 0 < n.clock) → s.length ≡ length t.journal → (s.link_failed ≡ true → 0 < n.inlets + n.outlet + n.door) → Shows t seats n rose (later_end s.view_failed (is_filled s) s.link_failed s.short)
later_shows t seats n rose s none view len link =
    by s.view_failed view (is_filled s) (λ h. subst (λ (z : ℕ). 4193281 ≤ z) len (is_least 4193281 s.length (both_true s.filled _ h))) s.link_failed link s.short
  where
    by : (v : Bool) → (v ≡ true → 0 < n.clock) → (f : Bool) → (f ≡ true → 4193281 ≤ length t.journal) → (l : Bool) → (l ≡ true → 0 < n.inlets + n.outlet + n.door) → (k : Bool) → Shows t seats n rose (later_end v f l k)
    by true vs f fs l ls k = inr (none, refl, vs refl)
    by false vs true fs l ls k = fs refl
    by false vs false fs true ls k = ls refl
    by false vs false fs false ls true = tt
    by false vs false fs false ls false = tt

-- the end that signs show is the first that holds
pub is_end : (t : Ledger) (seats : List Slip) (n : Failures) (rose : Type 0) (s : Signs) (why : End) → why ≡ end_of s → MatchOption s.torn (All (IsWhole t) seats) (IsFirstTorn t seats) → (s.no_thread ≡ true → rose) → s.halt ≡ t.halt → (s.view_failed ≡ true → 0 < n.clock) → s.length ≡ length t.journal → (s.link_failed ≡ true → 0 < n.inlets + n.outlet + n.door) → IsEnd t seats n rose why
is_end t seats n rose s why is torn thread stands view len link = subst (λ (e : End). IsEnd t seats n rose e) (sym is) (by s.torn torn s.no_thread thread s.halt stands)
  where
    by : (o : Option Torn) → MatchOption o (All (IsWhole t) seats) (IsFirstTorn t seats) → (k : Bool) → (k ≡ true → rose) → (h : Option Halt) → h ≡ t.halt → IsEnd t seats n rose (end_from o k h s.view_failed (is_filled s) s.link_failed s.short)
    by (Some x) m k ks h e = record { torn = m; shows = m; halt = λ z. absurd (cc) }
    by None m true ks h e = record { torn = m; shows = ks refl; halt = λ z. absurd (cc) }
    by None m false ks (Some halt.ClockFailed) e = record { torn = m; shows = inl (sym e, λ z. absurd (cc)); halt = λ z. absurd (cc) }
    by None m false ks (Some (halt.Fell l w)) e = record { torn = m; shows = inl (sym e, λ z. absurd (cc)); halt = λ z. absurd (cc) }
    by None m false ks (Some halt.Far) e = record { torn = m; shows = sym e; halt = λ z. absurd (cc) }
    by None m false ks None e = record { torn = subst (λ (o : Option Torn). MatchOption o (All (IsWhole t) seats) (IsFirstTorn t seats)) (sym (later_torn s.view_failed (is_filled s) s.link_failed s.short)) m; shows = later_shows t seats n rose s (sym e) view len link; halt = λ z. sym e }

-- a run that was done was not short
pub done_short : (s : Signs) (why : End) → why ≡ end_of s → why ≡ end.Done → s.short ≡ false
done_short s why is done = by s.torn s.no_thread s.halt s.view_failed (is_filled s) s.link_failed s.short (sym is ∙ done)
  where
    by : (o : Option Torn) (n : Bool) (h : Option Halt) (v f l k : Bool) → end_from o n h v f l k ≡ end.Done → k ≡ false
    by (Some x) n h v f l k e = absurd (cc)
    by None true h v f l k e = absurd (cc)
    by None false (Some halt.ClockFailed) v f l k e = absurd (cc)
    by None false (Some (halt.Fell a b)) v f l k e = absurd (cc)
    by None false (Some halt.Far) v f l k e = absurd (cc)
    by None false None true f l k e = absurd (cc)
    by None false None false true l k e = absurd (cc)
    by None false None false false true k e = absurd (cc)
    by None false None false false false true e = absurd (cc)
    by None false None false false false false e = refl

pub one_failed : (a b c : Type 0) (x y z : ℕ) → (a → 0 < x) → (b → 0 < z) → (c → 0 < y) → a ⊎ (b ⊎ c) → 0 < x + y + z
one_failed a b c x y z f g h which = elim which [
  | inl p ↦ (let q = f p in omega (arith, q))
  | inr r ↦ elim r [
    | inl p ↦ (let q = g p in omega (arith, q))
    | inr p ↦ (let q = h p in omega (arith, q))
  ]
]

on_ok : {T E X : Type 0} (r : Result T E) → IsOk r → OnOk r X → X
on_ok (Ok x) is h = h
on_ok (Err e) is h = absurd (cc)

all_shown : (b : NodeStart) (ks : List Told) (snaps : Option (List Snap)) → is_some snaps ≡ true → ShownAll b ks snaps → snaps ≡ Some (snaps_of b ks)
all_shown b ks None made h = absurd (cc)
all_shown b ks (Some xs) made h = ap (λ (z : List Snap). Some z) (h xs refl)

same_start : (a : HandedIn) (t : Ledger) (s : Slip) → IsWhole t s → TimerSeat a s → SameStart a t
same_start a t s w k = record { params = sym w.frame.params ∙ k.params; begun = sym w.frame.begun ∙ k.begun }

none_torn : (t : Ledger) (seats : List Slip) (o : Option Torn) → o ≡ None → MatchOption o (All (IsWhole t) seats) (IsFirstTorn t seats) → All (IsWhole t) seats
none_torn t seats o e m = subst (λ (z : Option Torn). MatchOption z (All (IsWhole t) seats) (IsFirstTorn t seats)) e m

-- what is handed back of what is left of a run
abbrev back_of : Leavings → End → Ledger → List Slip → HandedBack
back_of r why t seats = record { why = why; ledger = t; seats = seats; inlets = r.inlets; sent = r.sent; door = r.door; replies = r.replies; snaps = r.snaps; dropped = r.dropped }

-- it is what every end has
pub every_end : (a : HandedIn) (r : Leavings) (why : End) (t : Ledger) (seats : List Slip) → t.closed ≡ true → seats ≡ r.timer ∷ r.others → MatchOption (torn_of why) (All (IsWhole t) seats) (IsFirstTorn t seats) → HasRun a (map (λ x. Some x) (neighbours_of a.params)) r → EveryEnd a (back_of r why t seats)
every_end a r why t seats closed is torn k = subst (λ (z : List Slip). EndsWith a (back_of r why t seats) z) (sym is) (record {
  closed = closed;
  whose = k.owners;
  agree = k.agree;
  items = k.items;
  dropped = subst (λ (ws : List (Option ℕ)). IsDropped a.params ws r.inlets r.dropped) k.owners k.dropped;
  timer_seat = k.timer_seat;
  sent = k.sent;
  shown = k.shown;
  door = k.door;
  answers = k.answers;
  unstarted = k.unstarted;
  whole_seats = λ none. (let all : All (IsWhole t) (r.timer ∷ r.others) = subst (λ (z : List Slip). All (IsWhole t) z) is (none_torn t seats (torn_of why) none torn) in (all, same_start a t r.timer (All-head (IsWhole t) r.timer r.others all) k.timer_seat));
})

-- and where the run was done, what a run that was done has
pub done_end : (a : HandedIn) (r : Leavings) (n : Failures) (w : Reasons) (why : End) (t : Ledger) (seats : List Slip) → seats ≡ r.timer ∷ r.others → MatchOption (torn_of why) (All (IsWhole t) seats) (IsFirstTorn t seats) → HasRun a (map (λ x. Some x) (neighbours_of a.params)) r → HasReasons a r n w → why ≡ end.Done → (w.short ≡ false) × (is_at_rest w.responder ≡ true) × IsOk w.timer → DoneEnd a (back_of r why t seats)
done_end a r n w why t seats is torn k h done final =
    let all : All (IsWhole t) (r.timer ∷ r.others) = subst (λ (z : List Slip). All (IsWhole t) z) is (none_torn t seats (torn_of why) (ap torn_of done) torn) in
    subst (λ (z : List Slip). DoneWith a (back_of r why t seats) z) (sym is) (record {
      start = same_start a t r.timer (All-head (IsWhole t) r.timer r.others all) k.timer_seat;
      whole_seats = all;
      ticks = on_ok w.timer final.2 h.ticks;
      sent = on_ok w.timer final.2 h.sent;
      shown = all_shown a.begun r.timer.told r.snaps (h.made final.0) (on_ok w.timer final.2 h.shown);
      taken = h.taken final.0;
      door = h.door final.1;
    })

-- the end names the first seat that differs, exactly where one does
pub by_signs : (t : Ledger) (seats : List Slip) (s : Signs) (why : End) → why ≡ end_of s → MatchOption s.torn (All (IsWhole t) seats) (IsFirstTorn t seats) → MatchOption (torn_of why) (All (IsWhole t) seats) (IsFirstTorn t seats)
by_signs t seats s why is m = subst (λ (e : End). MatchOption (torn_of e) (All (IsWhole t) seats) (IsFirstTorn t seats)) (sym is) (by s.torn m s.no_thread s.halt)
  where
    by : (o : Option Torn) → MatchOption o (All (IsWhole t) seats) (IsFirstTorn t seats) → (k : Bool) (h : Option Halt) → MatchOption (torn_of (end_from o k h s.view_failed (is_filled s) s.link_failed s.short)) (All (IsWhole t) seats) (IsFirstTorn t seats)
    by (Some x) m k h = m
    by None m true h = m
    by None m false (Some halt.ClockFailed) = m
    by None m false (Some (halt.Fell l w)) = m
    by None m false (Some halt.Far) = m
    by None m false None = subst (λ (o : Option Torn). MatchOption o (All (IsWhole t) seats) (IsFirstTorn t seats)) (sym (later_torn s.view_failed (is_filled s) s.link_failed s.short)) m
