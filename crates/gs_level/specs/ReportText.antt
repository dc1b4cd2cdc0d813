-- The text of a report.
use Rattle.std.specs.Prelude.{ℕ, ◌+◌, List, [], ◌∷◌, ◌++◌, Option, Some, None, codes, decimal, length}
use Rattle.gs_topo.specs.Graph.{Graph}
use Rattle.gs_planfile.specs.declared.text.PlanText.{PlanText}
use Rattle.gs_plan.specs.Bounds.{best_in, global_in, level_in}
use Rattle.gs_level.specs.declared.peak.Peak.{Peak}
use Rattle.gs_level.specs.declared.report.Report.{Report}

-- a text and then the line of what was played
abbrev pub with_size : List ℕ → Graph → ℕ → List ℕ
with_size text g quanta =
    text ++ codes "nodes " ++ decimal g.nodes ++ codes " edges " ++ decimal (length g.edges)
    ++ codes " quanta " ++ decimal quanta ++ 10 ∷ []

-- the line of the global skew
abbrev pub with_global : List ℕ → PlanText → Graph → ℕ → ℕ → List ℕ
with_global text t g skew at =
    text ++ codes "global " ++ decimal skew ++ codes " at " ++ decimal at
    ++ codes " bound " ++ decimal (global_in t g) ++ 10 ∷ []

-- the words of an edge, or that there is none
abbrev pub with_edge : List ℕ → Option (ℕ × ℕ) → List ℕ
with_edge text None = text ++ codes " edge none"
with_edge text (Some e) = text ++ codes " edge " ++ decimal e.0 ++ codes " " ++ decimal e.1

-- the words of the plan's best level and its bound
abbrev pub with_best : List ℕ → PlanText → Graph → List ℕ
with_best text t g =
    text ++ codes " bound " ++ decimal (best_in t g).1 ++ codes " level " ++ decimal (best_in t g).0 ++ 10 ∷ []

-- the line of the neighbour skew
abbrev pub with_near : List ℕ → PlanText → Graph → ℕ → ℕ → Option (ℕ × ℕ) → List ℕ
with_near text t g skew at edge =
    with_best (with_edge (text ++ codes "neighbour " ++ decimal skew ++ codes " at " ++ decimal at) edge) t g

-- the line of the potential of level s
abbrev pub with_level : List ℕ → PlanText → Graph → ℕ → Peak → List ℕ
with_level text t g s peak =
    text ++ codes "level " ++ decimal s ++ codes " potential " ++ decimal peak.value ++ codes " pair "
    ++ decimal peak.v ++ codes " " ++ decimal peak.w
    ++ codes " bound " ++ decimal (level_in t g s) ++ 10 ∷ []

-- the lines of these potentials, from level s on
abbrev pub with_levels : List ℕ → PlanText → Graph → ℕ → List Peak → List ℕ
with_levels text t g s [] = text
with_levels text t g s (peak ∷ peaks) = with_levels (with_level text t g s peak) t g (s + 1) peaks

-- the line of the quanta that nodes took in fast mode
abbrev pub with_fast : List ℕ → ℕ → List ℕ
with_fast text fast = text ++ codes "fast " ++ decimal fast ++ 10 ∷ []

-- The text of a report over a plan.
abbrev pub report_text : PlanText → Graph → Report → List ℕ
report_text t g r =
    with_fast
    (with_levels (with_near (with_global (with_size [] g r.quanta) t g r.global r.global_at) t g r.near r.near_at
    r.near_edge) t g 0 r.levels)
    r.fast
