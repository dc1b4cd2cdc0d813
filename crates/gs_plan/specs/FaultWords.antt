-- The words for what is wrong with a plan.
use Rattle.std.specs.Prelude.{ℕ, List, ◌++◌, codes, decimal}
use Rattle.gs_units.specs.FaultWords.{why_of as rate_why}
use Rattle.gs_topo.specs.FaultWords.{why_of as topo_why}
use Rattle.gs_plan.specs.declared.fault.PlanFault.{PlanFault}
use Rattle.gs_plan.specs.declared.fault.PlanFault.TheVariants as fault

-- what is wrong: the words of the rate or of the graph where it is theirs
abbrev pub why_of : PlanFault → List ℕ
why_of (fault.Rate e) = rate_why e
why_of (fault.Topo e) = topo_why e
why_of fault.Tick = codes "tick"
why_of fault.Delay = codes "delay"
why_of (fault.Span i) = codes "span " ++ decimal i
why_of fault.Every = codes "every"
why_of fault.Losses = codes "losses"
why_of fault.Age = codes "age"
why_of fault.Levels = codes "levels"
why_of fault.Port = codes "port"
why_of fault.Weak = codes "weak"
why_of fault.Kappa = codes "kappa"
why_of fault.Wide = codes "wide"
why_of fault.OutOfMemory = codes "out of memory"
