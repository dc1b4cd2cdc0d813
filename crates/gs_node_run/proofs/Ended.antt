-- How a run ends whose node was served.
use Rattle.std.proofs.Common.{◌≡◌, ℕ, ◌+◌, ◌<◌, ◌≤◌, ◌⊎◌, inl, inr, All, List, [], ◌∷◌, take, length, slice_index_or, true, Some, None, refl, sym, ◌∙◌, ap, subst, arith}
use Rattle.std.proofs.lemmas.Bool.{cases_lt}
use Rattle.std.proofs.lemmas.Option.{slice_get-get_or}
use Rattle.gs_io.specs.Causes.{Rose}
use Rattle.gs_io.proofs.Rising.{rose_from}
use Rattle.gs_clock.specs.declared.clocks.Clock as clock
use Rattle.gs_board.specs.Boards.{clock_in, ledger_in}
use Rattle.gs_board.specs.Ledger.{Ledger, clock_failed}
use Rattle.gs_board.specs.Slips.{Slip}
use Rattle.gs_board.specs.Torn.{IsTorn, IsWhole}
use Rattle.gs_board.specs.declared.boards.Board.{Board}
use Rattle.gs_board.specs.declared.faults.Halt.{Halt}
use Rattle.gs_board.specs.declared.faults.Halt.TheVariants as halt
use Rattle.gs_board.specs.declared.faults.Torn.{Torn}
use Rattle.gs_cli.specs.declared.status.Status.{Status}
use Rattle.gs_cli.specs.declared.status.Status.TheVariants as status
use Rattle.gs_node.specs.Ends.{IsEnd, Shows, is_after_halt}
use Rattle.gs_node.specs.Handing.{Failures, HandedBack, HandedIn}
use Rattle.gs_node.specs.Serving.{EndsWith}
use Rattle.gs_node.specs.declared.ends.End.{End}
use Rattle.gs_node.specs.declared.ends.End.TheVariants as end
use Rattle.gs_node.proofs.Completing.{not_whole}
use Rattle.gs_node_run.specs.Lines.{IsTornAt}
use Rattle.gs_node_run.specs.Statuses.{Faults, HasRisen, ShowsServed}
use Rattle.gs_node_run.specs.inside.Traced.{ComesAfter, status_of}

-- a board that its failed clock halted has a clock that failed
pub halt_counts : {C : Type 0} {c : clock.Ghosts C} (board : Board C c) → (ledger_in board).halt ≡ clock_failed → 0 < c.faults (clock_in board)
halt_counts board = board.halted

-- what a halt that is no end of all clocks shows
of_halt : (t : Ledger) (seats : List Slip) (n : Faults) (h : Halt) → t.halt ≡ Some h → (h ≡ halt.Far → ⊥) → (t.halt ≡ clock_failed → 0 < n.clock)
    → ShowsServed t seats n status.ClockFault
of_halt t seats n halt.ClockFailed is other failed = inr (inl (failed is))
of_halt t seats n (halt.Fell last now) is other failed = inl (last, now, is)
of_halt t seats n halt.Far is other failed = absurd (other refl)

-- the status of an end shows what the end showed
of_end : (t : Ledger) (seats : List Slip) (m : Failures) (n : Faults) (why : End) → Shows t seats m (HasRisen n.crew) why
    → (is_after_halt why ≡ true → t.halt ≡ None) → (0 < m.inlets + m.outlet + m.door → HasRisen n.ports) → m.clock ≡ n.view
    → (t.halt ≡ clock_failed → 0 < n.clock) → ShowsServed t seats n (status_of why)
of_end t seats m n (end.Torn torn) shows quiet links view failed = (torn, shows)
of_end t seats m n end.NoThread shows quiet links view failed = shows
of_end t seats m n (end.ClockFault h) shows quiet links view failed = elim shows [
  | inl halted ↦ of_halt t seats n h halted.0 halted.1 failed
  | inr counted ↦ inr (inr (let more = counted.2 in omega (arith, more, view)))
]
of_end t seats m n end.ClockEnd shows quiet links view failed = shows
of_end t seats m n end.JournalEnd shows quiet links view failed = (quiet refl, shows)
of_end t seats m n end.LinkFault shows quiet links view failed = (quiet refl, links shows)
of_end t seats m n end.OutOfMemory shows quiet links view failed = tt
of_end t seats m n end.Done shows quiet links view failed = quiet refl

-- and so does a status that comes after it
pub shown : (t : Ledger) (seats : List Slip) (m : Failures) (n : Faults) (why : End) (s : Status) → IsEnd t seats m (HasRisen n.crew) why
    → ComesAfter why (HasRisen n.trace) s → (0 < m.inlets + m.outlet + m.door → HasRisen n.ports) → m.clock ≡ n.view
    → (t.halt ≡ clock_failed → 0 < n.clock) → ShowsServed t seats n s
shown t seats m n why s is comes links view failed = elim comes [
  | inl same ↦ subst (ShowsServed t seats n) (sym same) (of_end t seats m n why is.shows is.halt links view failed)
  | inr (inl short) ↦ subst (ShowsServed t seats n) (sym short) tt
  | inr (inr cut) ↦ subst (ShowsServed t seats n) (sym cut.1) (is.halt (ap is_after_halt cut.0), cut.2)
]

-- it is `Torn` where a seat differs, unless memory was short
pub torn_or_whole : (t : Ledger) (seats : List Slip) (m : Failures) (rose failed : Type 0) (why : End) (s : Status) → IsEnd t seats m rose why → ComesAfter why failed s
    → (s ≡ status.Torn) ⊎ (s ≡ status.OutOfMemory) ⊎ All (IsWhole t) seats
torn_or_whole t seats m rose failed (end.Torn torn) s is comes = elim comes [
  | inl same ↦ inl same
  | inr (inl short) ↦ inr (inl short)
  | inr (inr cut) ↦ (let other = cut.0 in absurd (cc))
]
torn_or_whole t seats m rose failed end.NoThread s is comes = inr (inr is.torn)
torn_or_whole t seats m rose failed (end.ClockFault h) s is comes = inr (inr is.torn)
torn_or_whole t seats m rose failed end.ClockEnd s is comes = inr (inr is.torn)
torn_or_whole t seats m rose failed end.JournalEnd s is comes = inr (inr is.torn)
torn_or_whole t seats m rose failed end.LinkFault s is comes = inr (inr is.torn)
torn_or_whole t seats m rose failed end.OutOfMemory s is comes = inr (inr is.torn)
torn_or_whole t seats m rose failed end.Done s is comes = inr (inr is.torn)

-- and not all seats are whole where it is that of the end
pub torn_differs : (t : Ledger) (seats : List Slip) (m : Failures) (rose : Type 0) (why : End) → IsEnd t seats m rose why → status_of why ≡ status.Torn → All (IsWhole t) seats → ⊥
torn_differs t seats m rose (end.Torn torn) is torn_is whole = not_whole t seats torn is.shows whole
torn_differs t seats m rose end.NoThread is torn_is whole = cc
torn_differs t seats m rose (end.ClockFault h) is torn_is whole = cc
torn_differs t seats m rose end.ClockEnd is torn_is whole = cc
torn_differs t seats m rose end.JournalEnd is torn_is whole = cc
torn_differs t seats m rose end.LinkFault is torn_is whole = cc
torn_differs t seats m rose end.OutOfMemory is torn_is whole = cc
torn_differs t seats m rose end.Done is torn_is whole = cc

-- without seats memory was short
pub without_seats : (a : HandedIn) (b : HandedBack) (seats : List Slip) (failed : Type 0) (s : Status) → EndsWith a b seats → ComesAfter b.why failed s
    → seats ≡ [] → s ≡ status.OutOfMemory
without_seats a b (timer ∷ others) failed s is comes none = absurd (cc)
without_seats a b [] failed s is comes none = elim comes [
  | inl same ↦ same ∙ ap status_of is.why
  | inr (inl short) ↦ short
  | inr (inr cut) ↦ (let other : end.OutOfMemory ≡ end.Done = sym is.why ∙ cut.0 in absurd (cc))
]

-- a status by which all was done but maybe the trace comes after the end `Done`
pub was_done : (why : End) (failed : Type 0) (s : Status) → ComesAfter why failed s → (s ≡ status.Done) ⊎ (s ≡ status.WriteFault) → why ≡ end.Done
was_done why failed s comes is = elim comes [
  | inl same ↦ by why (elim is [ inl d ↦ inl (sym same ∙ d) | inr w ↦ inr (sym same ∙ w) ])
  | inr (inl short) ↦ elim is [ inl d ↦ (let e : status.OutOfMemory ≡ status.Done = sym short ∙ d in absurd (cc)) | inr w ↦ (let e : status.OutOfMemory ≡ status.WriteFault = sym short ∙ w in absurd (cc)) ]
  | inr (inr cut) ↦ cut.0
]
  where
    by : (why : End) → (status_of why ≡ status.Done) ⊎ (status_of why ≡ status.WriteFault) → why ≡ end.Done
    by (end.Torn torn) is = absurd (elim is [ inl d ↦ cc | inr w ↦ cc ])
    by end.NoThread is = absurd (elim is [ inl d ↦ cc | inr w ↦ cc ])
    by (end.ClockFault h) is = absurd (elim is [ inl d ↦ cc | inr w ↦ cc ])
    by end.ClockEnd is = absurd (elim is [ inl d ↦ cc | inr w ↦ cc ])
    by end.JournalEnd is = absurd (elim is [ inl d ↦ cc | inr w ↦ cc ])
    by end.LinkFault is = absurd (elim is [ inl d ↦ cc | inr w ↦ cc ])
    by end.OutOfMemory is = absurd (elim is [ inl d ↦ cc | inr w ↦ cc ])
    by end.Done is = refl

-- a failure of an object that came back is one of the ports
pub links_counted : (before old now inlets outlet door : ℕ) → before ≤ old → (0 < inlets → Rose old now) → (0 < outlet → Rose old now) → (0 < door → Rose old now)
    → 0 < inlets + outlet + door → Rose before now
links_counted before old now inlets outlet door low first second third more = elim (cases_lt 0 inlets) [
  | inl some ↦ rose_from before old now low (first some)
  | inr none ↦ elim (cases_lt 0 outlet) [
    | inl some ↦ rose_from before old now low (second some)
    | inr nor ↦ rose_from before old now low (third (omega (arith, more, none, nor)))
  ]
]

-- a seat that differs, where all before it are whole, is the first that does
pub torn_at : (t : Ledger) (seats : List Slip) (k : ℕ) (s : Slip) (torn : Torn) → k < length seats → s ≡ slice_index_or seats k s → All (IsWhole t) (take k seats) → IsTorn t s torn → IsTornAt t seats k torn
torn_at t seats k s torn inside is before differs = (s, slice_get-get_or seats k s inside ∙ ap (λ (z : Slip). Some z) (sym is), before, differs)
