-- A scan goes on behind its first event.
use Rattle.std.proofs.Common.{◌≡◌, ℕ, ◌+◌, ◌-◌, ◌<◌, List, [], ◌∷◌, length, take, drop, Some, None, sym, ap, ◌∙◌, arith}
use Rattle.std.specs.Prelude.{slice_index}
use Rattle.std.proofs.lemmas.List.{take_rest}
use Rattle.gs_beacon.specs.Numbers.{AreBytes}
use Rattle.gs_trace.specs.Formats.{Format, fault_from, events_from}
use Rattle.gs_trace.specs.inside.Fronts.{BeginsWhole}
use Rattle.gs_trace.proofs.Choices.{same_size}
use Rattle.gs_trace.proofs.EventsInTurn.{IsFormat, events-front, fault-moves, whole-front}

-- the first event that is left is whole
pub begins_whole : {E : Type 0} (f : Format E) (bytes_of : E → List ℕ) (Fits : E → Type 0) (h : IsFormat f bytes_of Fits) (bytes : List ℕ)
    → fault_from f 0 0 bytes ≡ None → 0 < length bytes → BeginsWhole f bytes
begins_whole f bytes_of Fits h [] none some = absurd (omega arith)
begins_whole f bytes_of Fits h (b ∷ bs) none some =
    let w = whole-front f bytes_of Fits h 0 b bs none in
    record { size = w.0; kind = w.1.size; inside = w.1.inside; allowed = w.1.allowed }

-- what is left behind it has no fault
pub goes_on : {E : Type 0} (f : Format E) (bytes_of : E → List ℕ) (Fits : E → Type 0) (h : IsFormat f bytes_of Fits) (n : ℕ) (bytes : List ℕ)
    → fault_from f 0 0 bytes ≡ None → 0 < length bytes → f.size (slice_index bytes 0) ≡ Some n
    → fault_from f 0 0 (take (length bytes - n) (drop n bytes)) ≡ None
goes_on f bytes_of Fits h n [] none some size = absurd (omega arith)
goes_on f bytes_of Fits h n (b ∷ bs) none some size =
    let w = whole-front f bytes_of Fits h 0 b bs none in
    let same : w.0 ≡ n = same_size w.0 n (sym w.1.size ∙ size) in
    let rest : fault_from f (0 + w.0) 0 (drop n (b ∷ bs)) ≡ None = ap (λ (k : ℕ). fault_from f (0 + w.0) 0 (drop k (b ∷ bs))) (sym same) ∙ w.2 in
    ap (fault_from f 0 0) (take_rest (b ∷ bs) n) ∙ fault-moves f (0 + w.0) 0 0 (drop n (b ∷ bs)) rest

-- the first event and those behind it
pub takes_first : {E : Type 0} (f : Format E) (bytes_of : E → List ℕ) (Fits : E → Type 0) (h : IsFormat f bytes_of Fits) (n : ℕ) (bytes : List ℕ)
    → fault_from f 0 0 bytes ≡ None → 0 < length bytes → f.size (slice_index bytes 0) ≡ Some n
    → events_from f 0 bytes ≡ f.event bytes ∷ events_from f 0 (take (length bytes - n) (drop n bytes))
takes_first f bytes_of Fits h n [] none some size = absurd (omega arith)
takes_first {E = E} f bytes_of Fits h n (b ∷ bs) none some size =
    let w = whole-front f bytes_of Fits h 0 b bs none in
    let same : w.0 ≡ n = same_size w.0 n (sym w.1.size ∙ size) in
    let e : E = f.event (b ∷ bs) in
    events-front f b bs w.0 w.1
    ∙ ap (λ (k : ℕ). e ∷ events_from f 0 (drop k (b ∷ bs))) same
    ∙ ap (λ (xs : List ℕ). e ∷ events_from f 0 xs) (sym (take_rest (b ∷ bs) n))

-- a scan from a place on
pub begins : {E : Type 0} (f : Format E) (at : ℕ) (bytes : List ℕ) → fault_from f at 0 (drop at bytes) ≡ None
    → fault_from f 0 0 (take (length bytes - at) (drop at bytes)) ≡ None
begins f at bytes none = ap (fault_from f 0 0) (take_rest bytes at) ∙ fault-moves f at 0 0 (drop at bytes) none

-- the event in front can stand in a trace
pub front_fits : {E : Type 0} (f : Format E) (bytes_of : E → List ℕ) (Fits : E → Type 0) (h : IsFormat f bytes_of Fits) (bytes : List ℕ)
    → AreBytes bytes → BeginsWhole f bytes → Fits (f.event bytes)
front_fits f bytes_of Fits h [] are w = absurd (let some = h.some 0 w.size w.kind in let inside = w.inside in omega (arith, some, inside))
front_fits f bytes_of Fits h (b ∷ bs) are w =
    h.fits b bs w.size are (record { size = w.kind; some = h.some b w.size w.kind; inside = w.inside; allowed = w.allowed })
