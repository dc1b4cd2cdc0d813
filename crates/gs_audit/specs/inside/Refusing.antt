-- What an event that the world refuses makes of an audit: for private functions alone.
use Rattle.std.specs.Prelude.{◌≡◌, ◌≢◌, ℕ, Result, Ok, Err}
use Rattle.gs_run.specs.declared.refused.Refused.{Refused}
use Rattle.gs_run.specs.declared.refused.Refused.TheVariants.{OutOfMemory}
use Rattle.gs_audit.specs.declared.verdict.Verdict.{Verdict}
use Rattle.gs_audit.specs.declared.verdict.Verdict.TheVariants as verdict

-- the verdict that names it, or `OutOfMemory` where that is why
abbrev pub Refuses : {E : Type 0} → Result Verdict E → ℕ → Refused → Type 0
Refuses (Ok v) index why = (why ≢ OutOfMemory) × (v ≡ verdict.Refused index why)
Refuses (Err e) index why = why ≡ OutOfMemory
