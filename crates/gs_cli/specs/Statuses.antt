-- The exit status of the process, for each way in which a run ends.
use Rattle.std.specs.Prelude.{ℕ}
use Rattle.gs_cli.specs.declared.status.Status.{Status}
use Rattle.gs_cli.specs.declared.status.Status.TheVariants.{Done, Usage, ReadFault, TooLong, PlanRefused}
use Rattle.gs_cli.specs.declared.status.Status.TheVariants.{InputRefused, Breach, WriteFault, OutOfMemory, ClockFault}
use Rattle.gs_cli.specs.declared.status.Status.TheVariants.{LinkFault, NoThread, ClockEnd, JournalEnd, Torn}
use Rattle.gs_cli.specs.declared.status.Status.TheVariants.{StoreFault, StampEnd}

-- the exit status of the process
abbrev pub code_of : Status → ℕ
code_of Done = 0
code_of Usage = 1
code_of ReadFault = 2
code_of TooLong = 3
code_of PlanRefused = 4
code_of InputRefused = 5
code_of Breach = 6
code_of WriteFault = 7
code_of OutOfMemory = 8
code_of ClockFault = 9
code_of LinkFault = 10
code_of NoThread = 11
code_of ClockEnd = 12
code_of JournalEnd = 13
code_of Torn = 14
code_of StoreFault = 16
code_of StampEnd = 17
