-- For private functions and proofs: the status of an end of a node that was served, and of a run after it.
use Rattle.std.specs.Prelude.{◌≡◌, ◌⊎◌, Result, Ok, Err}
use Rattle.gs_cli.specs.declared.status.Status.{Status}
use Rattle.gs_cli.specs.declared.status.Status.TheVariants as status
use Rattle.gs_node.specs.declared.ends.End.{End}
use Rattle.gs_node.specs.declared.ends.End.TheVariants as end
use Rattle.gs_node_run.specs.declared.tracing.TraceStop.{TraceStop}
use Rattle.gs_node_run.specs.declared.tracing.TraceStop.TheVariants as stop

-- the status of an end
abbrev pub status_of : End → Status
status_of (end.Torn torn) = status.Torn
status_of end.NoThread = status.NoThread
status_of (end.ClockFault halt) = status.ClockFault
status_of end.ClockEnd = status.ClockEnd
status_of end.JournalEnd = status.JournalEnd
status_of end.LinkFault = status.LinkFault
status_of end.OutOfMemory = status.OutOfMemory
status_of end.Done = status.Done

-- a fault of the trace counts only where all else was done
abbrev pub after_fault : Status → Status
after_fault status.Done = status.WriteFault
after_fault end = end

-- and running out of memory for it always
abbrev pub after_trace : {T : Type 0} → Status → Result T TraceStop → Status
after_trace end (Ok done) = end
after_trace end (Err stop.OutOfMemory) = status.OutOfMemory
after_trace end (Err stop.Failed) = after_fault end

-- A status that comes after an end: that of the end; `OutOfMemory`; or, where all else was done and a write failed,
-- `WriteFault`.
abbrev pub ComesAfter : End → Type 0 → Status → Type 0
ComesAfter why failed s = (s ≡ status_of why) ⊎ (s ≡ status.OutOfMemory) ⊎ ((why ≡ end.Done) × (s ≡ status.WriteFault) × failed)
