-- The text of `settle`: what it tells of a plan and a script.
use Rattle.std.specs.Prelude.{ℕ, zero, suc, ◌+◌, List, [], ◌∷◌, ◌++◌, Option, Some, None, codes, decimal, length}
use Rattle.std.specs.Prelude.{slice_index, slice_index_or}
use Rattle.gs_topo.specs.Graph.{Graph}
use Rattle.gs_plan.specs.Plans.{bound_of, graph_of, text_of}
use Rattle.gs_plan.specs.declared.plan.Plan.{Plan}
use Rattle.gs_level.specs.ReportText.{with_fast}
use Rattle.gs_script.specs.Script.{Said}
use Rattle.gs_settle.specs.Plays.{fast_from_gamma, last_upto, rows_from_gamma}
use Rattle.gs_settle.specs.Times.{times_of}

-- a text and then the line of what was played
abbrev pub with_gamma : List ℕ → Graph → ℕ → ℕ → List ℕ
with_gamma text g quanta gamma =
    text ++ codes "nodes " ++ decimal g.nodes ++ codes " edges " ++ decimal (length g.edges)
    ++ codes " quanta " ++ decimal quanta ++ codes " gamma " ++ decimal gamma ++ 10 ∷ []

-- a quantum, or that there is none
abbrev pub quantum_text : Option ℕ → List ℕ
quantum_text (Some t) = decimal t
quantum_text None = codes "none"

-- the line of level s: its time, its bound, and the last quantum at whose end it was above it
abbrev pub with_time : List ℕ → Plan → ℕ → ℕ → Option ℕ → List ℕ
with_time text plan s time last =
    text ++ codes "level " ++ decimal s ++ codes " time " ++ decimal time
    ++ codes " bound " ++ decimal (bound_of plan s)
    ++ codes " last " ++ quantum_text last ++ 10 ∷ []

-- the lines of the first n levels
abbrev pub with_times : List ℕ → Plan → List ℕ → List (Option ℕ) → ℕ → List ℕ
with_times text plan times last zero = text
with_times text plan times last (suc n) =
    with_time (with_times text plan times last n) plan n (slice_index times n) (slice_index_or last n None)

-- the text of how the levels of a plan settled
abbrev pub settled_text : Plan → ℕ → ℕ → List ℕ → List (Option ℕ) → ℕ → List ℕ
settled_text plan quanta gamma times last fast =
    with_fast (with_times (with_gamma [] (graph_of plan) quanta gamma) plan times last ((text_of plan).levels + 1)) fast

-- The text of `settle`, from clocks that are spread from 0 to gamma.
abbrev pub settled : ℕ → Plan → Said → List ℕ
settled gamma plan said =
    settled_text plan said.quanta gamma (times_of plan gamma) (last_upto plan (rows_from_gamma plan said gamma) said.quanta)
    (fast_from_gamma plan said gamma)
