-- The command that the code read, as data. These facts are for private functions and proofs.
use Rattle.gs_tool.specs.Commands as spelled
use Rattle.gs_tool.specs.declared.command.Command.{Command}
use Rattle.gs_tool.specs.declared.command.Command.TheVariants.{Plan, Play, Trace, Audit, Replay, Gen, Migrate}
use Rattle.gs_tool.specs.declared.command.Command.TheVariants.{Settle, Slots, Order}

-- a command that was read, its words as bytes
abbrev pub meaning : Command → spelled.Command
meaning (Plan plan) = spelled.Plan plan.now
meaning (Play plan script workers) = spelled.Play plan.now script.now workers
meaning (Trace plan script) = spelled.Trace plan.now script.now
meaning (Audit plan trace) = spelled.Audit plan.now trace.now
meaning (Replay plan node trace) = spelled.Replay plan.now node trace.now
meaning (Gen number size part) = spelled.Gen number size part
meaning (Migrate plan) = spelled.Migrate plan.now
meaning (Settle plan script gamma) = spelled.Settle plan.now script.now gamma
meaning (Slots plan script reach slot) = spelled.Slots plan.now script.now reach slot
meaning (Order plan script every) = spelled.Order plan.now script.now every
