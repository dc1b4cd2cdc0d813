-- Inputs that nothing keeps from a command, and how a command ends that nothing keeps.
use Rattle.std.specs.Prelude.{◌≡◌, ℕ, ◌≤◌, ◌⊎◌, false, List, length, Option, Some, Ok}
use Rattle.gs_planfile.specs.declared.text.PlanText.{PlanText}
use Rattle.gs_script.specs.Script.{Said}
use Rattle.gs_cli.specs.declared.status.Status.{Status}
use Rattle.gs_cli.specs.declared.status.Status.TheVariants.{Done, OutOfMemory}
use Rattle.gs_inputs.specs.Plans.{plan_in}
use Rattle.gs_inputs.specs.Scripts.{script_in}
use Rattle.gs_inputs.specs.Sources.{FilesSeen, Source, Count, Text, HasFailed, IsRead, is_built_in}
use Rattle.gs_inputs.specs.declared.source.Kind.{Kind}
use Rattle.gs_inputs.specs.declared.source.Kind.TheVariants as kind

-- the word names this source, and nothing kept it: it is built in, or a file that is there, not too long, and of which
-- no reading failed
abbrev pub IsAtHand : FilesSeen → Kind → List ℕ → Source → Type 0
IsAtHand files kind word (Count count) = IsRead files kind word (Count count)
IsAtHand files kind word (Text bytes) =
    (told : List ℕ → Option (List ℕ)) × (is_built_in kind word ≡ false)
    × (files.content ≡ Some told) × (told word ≡ Some bytes) × (length bytes ≤ 1048576)
    × ¬ (HasFailed files word)

-- the word names an accepted plan of this text
abbrev pub HasPlan : FilesSeen → List ℕ → PlanText → Type 0
HasPlan files word text = (source : Source) × IsAtHand files kind.Plan word source × (plan_in source ≡ Ok text)

-- the word names this script for plans of this text
abbrev pub HasScript : FilesSeen → List ℕ → PlanText → Said → Type 0
HasScript files word text said =
    (source : Source) × IsAtHand files kind.Script word source × (script_in text source ≡ Ok said)

-- all is written, or memory was short
abbrev pub IsCompleted : Status → Type 0
IsCompleted status = (status ≡ Done) ⊎ (status ≡ OutOfMemory)
