-- What a reader answers to bytes, running out of memory aside.
use Rattle.std.specs.Prelude.{◌≡◌, ◌⊎◌, Result, Ok, Err}
use Rattle.gs_trace.specs.declared.fault.TraceFault.{TraceFault}
use Rattle.gs_trace.specs.declared.fault.TraceFault.TheVariants.{OutOfMemory}

-- it reads this start and these events, or memory was refused
abbrev pub Reads : {X S E : Type 0} → (X → S) → (X → E) → Result X TraceFault → S → E → Type 0
Reads start events (Ok x) s es = (start x ≡ s) × (events x ≡ es)
Reads start events (Err f) s es = f ≡ OutOfMemory

-- it refuses the bytes for this fault, or memory was refused
abbrev pub FailsWith : {X : Type 0} → Result X TraceFault → TraceFault → Type 0
FailsWith (Ok x) fault = ⊥
FailsWith (Err f) fault = (f ≡ fault) ⊎ (f ≡ OutOfMemory)
