-- What is known of a verdict whose report is written: for private functions alone.
use Rattle.std.specs.Prelude.{◌≡◌, ◌+◌, length, ⊤}
use Rattle.gs_plan.specs.Plans.{text_of}
use Rattle.gs_plan.specs.declared.plan.Plan.{Plan}
use Rattle.gs_audit.specs.declared.verdict.Verdict.{Verdict}
use Rattle.gs_audit.specs.declared.verdict.Verdict.TheVariants.{Within, Refused}

-- a report tells all levels of the plan
abbrev pub HasLevels : Plan → Verdict → Type 0
HasLevels plan (Within report) = length report.levels ≡ (text_of plan).levels + 1
HasLevels plan (Refused index why) = ⊤
