-- The words for what is wrong with a script.
use Rattle.std.specs.Prelude.{ℕ, List, ◌++◌, codes, decimal}
use Rattle.gs_script.specs.declared.fault.ScriptFault.{ScriptFault}
use Rattle.gs_script.specs.declared.fault.ScriptFault.TheVariants as fault

-- what is wrong, with the number of the record
abbrev pub why_of : ScriptFault → List ℕ
why_of fault.First = codes "first"
why_of (fault.Csv k) = codes "csv " ++ decimal k
why_of (fault.Word k) = codes "word " ++ decimal k
why_of (fault.Again k) = codes "again " ++ decimal k
why_of (fault.Fields k) = codes "fields " ++ decimal k
why_of (fault.Number k) = codes "number " ++ decimal k
why_of (fault.Node k) = codes "node " ++ decimal k
why_of (fault.Edge k) = codes "edge " ++ decimal k
why_of (fault.Span k) = codes "span " ++ decimal k
why_of (fault.Bound k) = codes "bound " ++ decimal k
why_of fault.Large = codes "large"
why_of fault.OutOfMemory = codes "out of memory"
