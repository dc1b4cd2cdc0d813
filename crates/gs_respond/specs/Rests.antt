-- Why a responder stopped.
use Rattle.std.specs.Prelude.{Bool, true, false}
use Rattle.gs_respond.specs.declared.rests.Rest.{Rest}
use Rattle.gs_respond.specs.declared.rests.Rest.TheVariants as rest

-- a reason to stop that a run which was done may have
abbrev pub is_at_rest : Rest → Bool
is_at_rest rest.Open = false
is_at_rest rest.Ended = true
is_at_rest rest.Quiet = true
is_at_rest rest.Many = true
is_at_rest rest.Clock = false
is_at_rest rest.Door = false
is_at_rest rest.Owing = false
