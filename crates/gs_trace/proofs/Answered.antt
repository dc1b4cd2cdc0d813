-- What a reader answers to all bytes, where its Ok is a spelling and its Err a fault.
use Rattle.std.proofs.Common.{◌≡◌, Option, Some, None, Result, Ok, Err, ◌⊎◌, inl, inr, refl, sym, ◌∙◌}
use Rattle.std.specs.Prelude.{◌≢◌, IfOk, IfErr}
use Rattle.std.specs.Result.{IsErrAnd, IsOkAnd}
use Rattle.gs_trace.specs.Reads.{Reads, FailsWith}
use Rattle.gs_trace.specs.declared.fault.TraceFault.{TraceFault}
use Rattle.gs_trace.specs.declared.fault.TraceFault.TheVariants.{Header, Plan, Kind, Cut, Beacon, OutOfMemory}

-- of all that these bytes might spell, they spell one start and one list of events at most, and then have no fault
pub record IsOne {S E : Type 0} (Spelled : S → E → Type 0) (fault : Option TraceFault) : Type 0 where
  pub start : S
  pub events : E
  pub start_is : (s : S) (es : E) → Spelled s es → start ≡ s
  pub events_are : (s : S) (es : E) → Spelled s es → events ≡ es
  pub no_fault : (s : S) (es : E) → Spelled s es → fault ≡ None

-- a fault is `OutOfMemory` or another
memory_or : (f : TraceFault) → (f ≡ OutOfMemory) ⊎ (f ≢ OutOfMemory)
memory_or Header = inr (λ e. absurd (cc))
memory_or Plan = inr (λ e. absurd (cc))
memory_or (Kind place) = inr (λ e. absurd (cc))
memory_or (Cut place) = inr (λ e. absurd (cc))
memory_or (Beacon place) = inr (λ e. absurd (cc))
memory_or OutOfMemory = inl refl

-- no spelling is refused by a reader that takes no memory
pub spelling_is_read : {X S E : Type 0} (Spelled : S → E → Type 0) (fault : Option TraceFault) (one : IsOne Spelled fault) (start : X → S) (events : X → E) (r : Result X TraceFault)
    → IfOk r (λ x. Spelled (start x) (events x)) → IfErr r (λ f. fault ≡ Some f)
    → (s : S) (es : E) → Spelled s es → IsOkAnd r (λ x. (start x ≡ s) × (events x ≡ es))
spelling_is_read Spelled fault one start events (Ok x) ok err s es h =
    (sym (one.start_is (start x) (events x) ok) ∙ one.start_is s es h, sym (one.events_are (start x) (events x) ok) ∙ one.events_are s es h)
spelling_is_read Spelled fault one start events (Err f) ok err s es h = absurd (let both : None ≡ Some f = sym (one.no_fault s es h) ∙ err in cc)

-- and no fault is passed over
pub fault_is_named : {X S E : Type 0} (Spelled : S → E → Type 0) (fault : Option TraceFault) (one : IsOne Spelled fault) (start : X → S) (events : X → E) (r : Result X TraceFault)
    → IfOk r (λ x. Spelled (start x) (events x)) → IfErr r (λ f. fault ≡ Some f)
    → (why : TraceFault) → fault ≡ Some why → IsErrAnd r (λ f. f ≡ why)
fault_is_named Spelled fault one start events (Ok x) ok err why e = absurd (let both : None ≡ Some why = sym (one.no_fault (start x) (events x) ok) ∙ e in cc)
fault_is_named Spelled fault one start events (Err f) ok err why e = let both : Some f ≡ Some why = sym err ∙ e in cc

-- no spelling is refused, but where memory runs out
pub every_spelling : {X S E : Type 0} (Spelled : S → E → Type 0) (fault : Option TraceFault) (one : IsOne Spelled fault) (start : X → S) (events : X → E) (r : Result X TraceFault)
    → IfOk r (λ x. Spelled (start x) (events x)) → IfErr r (λ f. f ≢ OutOfMemory → fault ≡ Some f)
    → (s : S) (es : E) → Spelled s es → Reads start events r s es
every_spelling Spelled fault one start events (Ok x) ok err s es h =
    (sym (one.start_is (start x) (events x) ok) ∙ one.start_is s es h, sym (one.events_are (start x) (events x) ok) ∙ one.events_are s es h)
every_spelling Spelled fault one start events (Err f) ok err s es h = elim (memory_or f) [
  | inl memory ↦ memory
  | inr other ↦ absurd (let both : None ≡ Some f = sym (one.no_fault s es h) ∙ err other in cc)
]

-- and no fault is passed over, but where memory runs out
pub every_fault : {X S E : Type 0} (Spelled : S → E → Type 0) (fault : Option TraceFault) (one : IsOne Spelled fault) (start : X → S) (events : X → E) (r : Result X TraceFault)
    → IfOk r (λ x. Spelled (start x) (events x)) → IfErr r (λ f. f ≢ OutOfMemory → fault ≡ Some f)
    → (why : TraceFault) → fault ≡ Some why → FailsWith r why
every_fault Spelled fault one start events (Ok x) ok err why e = absurd (let both : None ≡ Some why = sym (one.no_fault (start x) (events x) ok) ∙ e in cc)
every_fault Spelled fault one start events (Err f) ok err why e = elim (memory_or f) [
  | inl memory ↦ inr memory
  | inr other ↦ inl (let both : Some f ≡ Some why = sym (err other) ∙ e in cc)
]
