-- How a command stops or ends, by its answer.
use Rattle.std.specs.Prelude.{◌≡◌, Result, Ok, Err, ⊤}
use Rattle.gs_cli.specs.Answers.{Answer}
use Rattle.gs_cli.specs.Reply.{answer_in}
use Rattle.gs_cli.specs.declared.reply.Reply.{Reply}
use Rattle.gs_cli.specs.declared.stop.Stop.{Stop}
use Rattle.gs_cli.specs.declared.stop.Stop.TheVariants.{Refused, OutOfMemory}

-- a stop that comes where this is refused, or where memory runs out
abbrev pub StopsAt : {T : Type 0} → Result T Answer → Stop → Type 0
StopsAt wanted (Refused reply) = wanted ≡ Err (answer_in reply)
StopsAt wanted OutOfMemory = ⊤

-- a stop that comes with an answer of this kind, or where memory runs out
abbrev pub StopsWith : (Answer → Type 0) → Stop → Type 0
StopsWith IsWanted (Refused reply) = IsWanted (answer_in reply)
StopsWith IsWanted OutOfMemory = ⊤

-- a command ends with an answer of this kind, stopped or not, or memory runs out
abbrev pub EndsWith : (Answer → Type 0) → Result Reply Stop → Type 0
EndsWith IsWanted (Ok reply) = IsWanted (answer_in reply)
EndsWith IsWanted (Err stop) = StopsWith IsWanted stop
