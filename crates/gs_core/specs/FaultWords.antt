-- The words for why a core refuses an event.
use Rattle.std.specs.Prelude.{ℕ, List, ◌++◌, codes, decimal}
use Rattle.gs_core.specs.declared.reply.CoreFault.{CoreFault}
use Rattle.gs_core.specs.declared.reply.CoreFault.TheVariants as fault

-- why an event is refused, with the sender, or with the reading before and the one that is refused
abbrev pub why_of : CoreFault → List ℕ
why_of fault.Cluster = codes "cluster"
why_of (fault.Stranger sender) = codes "stranger " ++ decimal sender
why_of (fault.Backward last now) = codes "backward " ++ decimal last ++ codes " " ++ decimal now
why_of fault.Far = codes "far"
why_of fault.Ahead = codes "ahead"
