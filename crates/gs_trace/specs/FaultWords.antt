-- The words for why bytes are no trace.
use Rattle.std.specs.Prelude.{ℕ, List, ◌++◌, codes, decimal}
use Rattle.gs_trace.specs.declared.fault.TraceFault.{TraceFault}
use Rattle.gs_trace.specs.declared.fault.TraceFault.TheVariants as fault

-- why, with the place of the event
abbrev pub why_of : TraceFault → List ℕ
why_of fault.Header = codes "header"
why_of fault.Plan = codes "plan"
why_of (fault.Kind place) = codes "kind " ++ decimal place
why_of (fault.Cut place) = codes "cut " ++ decimal place
why_of (fault.Beacon place) = codes "beacon " ++ decimal place
why_of fault.OutOfMemory = codes "out of memory"
