-- The words for what is wrong with a plan file.
use Rattle.std.specs.Prelude.{ℕ, List, ◌++◌, codes}
use Rattle.gs_planfile.specs.Keys.{key_name}
use Rattle.gs_planfile.specs.declared.key.PlanFileFault.{PlanFileFault}
use Rattle.gs_planfile.specs.declared.key.PlanFileFault.TheVariants as fault

-- what is wrong, with the name of the key
abbrev pub why_of : PlanFileFault → List ℕ
why_of fault.Utf8 = codes "utf8"
why_of fault.Toml = codes "toml"
why_of (fault.Missing key) = codes "missing " ++ key_name key
why_of (fault.Kind key) = codes "kind " ++ key_name key
why_of (fault.Range key) = codes "range " ++ key_name key
why_of fault.Extra = codes "extra"
why_of fault.OutOfMemory = codes "out of memory"
