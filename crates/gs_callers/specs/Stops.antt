-- Why a receiver stopped.
use Rattle.std.specs.Prelude.{Bool, true, false}
use Rattle.gs_callers.specs.declared.receiver.Stop.{Stop}
use Rattle.gs_callers.specs.declared.receiver.Stop.TheVariants.{Ended, Fault, Many, Memory, Open, Quiet, Refused}

-- a reason to stop that a run which was done may have
abbrev pub is_final : Stop → Bool
is_final Open = false
is_final Ended = true
is_final Quiet = true
is_final Many = true
is_final (Refused refusal) = true
is_final Fault = false
is_final Memory = false
