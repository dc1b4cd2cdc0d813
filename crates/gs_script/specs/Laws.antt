-- That scripts keep the bounds of their plans.
use Rattle.std.specs.Prelude.{◌≡◌, ℕ, List, IfOk}
use Rattle.gs_planfile.specs.declared.text.PlanText.{PlanText}
use Rattle.gs_plan.specs.Plans.{text_of}
use Rattle.gs_plan.specs.declared.plan.Plan.{Plan}
use Rattle.gs_script.specs.Reading.{script_of, steady_of}
use Rattle.gs_script.specs.Script.{IsScript, Said}

-- a script for the plan of this text, within its bounds
abbrev pub IsReadOf : PlanText → Said → Type 0
IsReadOf t said = (said.text ≡ t) × IsScript said

-- what is read as a script for an accepted plan is one within its bounds
abbrev pub ReadScriptsAreWithin : Type 0
ReadScriptsAreWithin = (p : Plan) (bytes : List ℕ) → IfOk (script_of (text_of p) bytes) (IsReadOf (text_of p))

-- so is a steady script
abbrev pub SteadyScriptsAreWithin : Type 0
SteadyScriptsAreWithin = (p : Plan) (n : ℕ) → IfOk (steady_of (text_of p) n) (IsReadOf (text_of p))
