-- A head and events behind it: bytes without a fault are the trace of the start and the events that are read, and of no
-- others.
use Rattle.std.proofs.Common.{◌≡◌, ℕ, List, [], ◌∷◌, ◌++◌, length, take, drop, Option, None, refl, sym, ap, ◌∙◌, subst, arith}
use Rattle.std.specs.Prelude.{All}
use Rattle.std.specs.List.{flat_map}
use Rattle.std.proofs.lemmas.List.{append-nil, drop_at}
use Rattle.std.proofs.lemmas.List.Elements.{All-from_recursion, recursion_from_All}
use Rattle.gs_units.specs.FirstFault.{first_some}
use Rattle.gs_beacon.specs.Numbers.{AreBytes}
use Rattle.gs_trace.specs.Formats.{Format, fault_from, events_from}
use Rattle.gs_trace.specs.declared.fault.TraceFault.{TraceFault}
use Rattle.gs_trace.proofs.EventsInTurn.{AreRead, IsFormat, events-written, fault-written, read-spelled}
use Rattle.gs_trace.proofs.Spelled.{AreBytes-drop, in_front}

-- how long a head is, what is wrong with it, the start that it tells, and the bytes of a start
pub record Head (S : Type 0) : Type 0 where
  pub long : ℕ
  pub fault : List ℕ → Option TraceFault
  pub start_at : List ℕ → S
  pub bytes_of : S → List ℕ

-- what writes heads and reads them
pub record IsHead {S : Type 0} (head : Head S) (FitsStart : S → Type 0) : Type 0 where
  pub read : (bytes : List ℕ) → AreBytes bytes → head.fault bytes ≡ None → head.bytes_of (head.start_at bytes) ≡ take head.long bytes
  pub fits : (bytes : List ℕ) → head.fault bytes ≡ None → FitsStart (head.start_at bytes)
  pub count : (s : S) → FitsStart s → length (head.bytes_of s) ≡ head.long
  pub back : (s : S) (rest : List ℕ) → FitsStart s → head.start_at (head.bytes_of s ++ rest) ≡ s
  pub allowed : (s : S) (rest : List ℕ) → FitsStart s → head.fault (head.bytes_of s ++ rest) ≡ None

-- the bytes are the trace of this start and these events
pub record IsTrace {S E : Type 0} (head : Head S) (FitsStart : S → Type 0) (event_bytes : E → List ℕ) (Fits : E → Type 0) (s : S) (es : List E) (bytes : List ℕ) : Type 0 where
  pub start : FitsStart s
  pub events : All Fits es
  pub is : bytes ≡ head.bytes_of s ++ flat_map event_bytes es

-- the first thing that keeps bytes from being a trace
abbrev pub trace_fault : {S E : Type 0} → Head S → Format E → List ℕ → Option TraceFault
trace_fault head f bytes = first_some (head.fault bytes ∷ fault_from f head.long 0 (drop head.long bytes) ∷ [])

-- what has no fault is spelled so
pub faultless : {S E : Type 0} (head : Head S) (FitsStart : S → Type 0) (f : Format E) (event_bytes : E → List ℕ) (Fits : E → Type 0)
    → IsHead head FitsStart → IsFormat f event_bytes Fits → (bytes : List ℕ) → AreBytes bytes
    → head.fault bytes ≡ None → fault_from f head.long 0 (drop head.long bytes) ≡ None
    → IsTrace head FitsStart event_bytes Fits (head.start_at bytes) (events_from f 0 (drop head.long bytes)) bytes
faultless {E = E} head FitsStart f event_bytes Fits h format bytes are none events =
    let n : ℕ = head.long in
    let r : AreRead f event_bytes Fits (drop n bytes) =
    read-spelled f event_bytes Fits format (length (drop n bytes)) n (drop n bytes) (omega arith) (AreBytes-drop n bytes are) events in
    let es : List E = events_from f 0 (drop n bytes) in
    record {
      start = h.fits bytes none;
      events = All-from_recursion Fits es r.fits;
      is = in_front n bytes (head.bytes_of (head.start_at bytes)) (flat_map event_bytes es) (h.read bytes are none) r.is;
    }

-- the bytes are read as this start and these events
pub record IsReadBack {S E : Type 0} (head : Head S) (f : Format E) (s : S) (es : List E) (bytes : List ℕ) : Type 0 where
  pub no_fault : trace_fault head f bytes ≡ None
  pub start : head.start_at bytes ≡ s
  pub events : events_from f 0 (drop head.long bytes) ≡ es

written_back : {S E : Type 0} (head : Head S) (FitsStart : S → Type 0) (f : Format E) (event_bytes : E → List ℕ) (Fits : E → Type 0)
    → IsHead head FitsStart → IsFormat f event_bytes Fits → (s : S) (es : List E) → FitsStart s → All Fits es
    → IsReadBack head f s es (head.bytes_of s ++ flat_map event_bytes es)
written_back head FitsStart f event_bytes Fits h format s es start fits =
    let events : List ℕ = flat_map event_bytes es in
    let n : ℕ = head.long in
    let bytes : List ℕ = head.bytes_of s ++ events in
    let behind : drop n bytes ≡ events = drop_at (head.bytes_of s) events n (h.count s start) in
    let fit = recursion_from_All Fits es fits in
    let head_none : head.fault bytes ≡ None = h.allowed s events start in
    let none : fault_from f n 0 (drop n bytes) ≡ None =
    ap (fault_from f n 0) (behind ∙ sym (append-nil events)) ∙ fault-written f event_bytes Fits format n es [] fit in
    record {
      no_fault = rw (head_none, none) refl;
      start = h.back s events start;
      events = ap (events_from f 0) (behind ∙ sym (append-nil events)) ∙ events-written f event_bytes Fits format es [] fit ∙ append-nil es;
    }

-- what is spelled has no fault, and is read
pub read_back : {S E : Type 0} (head : Head S) (FitsStart : S → Type 0) (f : Format E) (event_bytes : E → List ℕ) (Fits : E → Type 0)
    → IsHead head FitsStart → IsFormat f event_bytes Fits → (s : S) (es : List E) (bytes : List ℕ)
    → IsTrace head FitsStart event_bytes Fits s es bytes → IsReadBack head f s es bytes
read_back head FitsStart f event_bytes Fits h format s es bytes t =
    subst (λ (xs : List ℕ). IsReadBack head f s es xs) (sym t.is) (written_back head FitsStart f event_bytes Fits h format s es t.start t.events)
