-- The answer that a reply of the code stands for.
use Rattle.gs_cli.specs.Answers.{Answer}
use Rattle.gs_cli.specs.declared.status.Status.TheVariants.{Done}
use Rattle.gs_cli.specs.declared.reply.Reply.{Reply}
use Rattle.gs_cli.specs.declared.reply.Reply.TheVariants.{Line, Text, File}

-- the answer that a reply stands for
abbrev pub answer_in : Reply → Answer
answer_in (Line status words) = record { status = status; text = words.now }
answer_in (Text status lines) = record { status = status; text = lines }
answer_in (File bytes) = record { status = Done; text = bytes.items }
