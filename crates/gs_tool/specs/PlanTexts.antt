-- The text that `plan` writes.
use Rattle.std.specs.Prelude.{ℕ, zero, suc, ◌+◌, List, [], ◌∷◌, ◌++◌, codes, decimal, length}
use Rattle.std.specs.Prelude.{Option, Some, None, slice_get}
use Rattle.gs_topo.specs.Graph.{Graph}
use Rattle.gs_topo.specs.Walks.{diameter_of}
use Rattle.gs_planfile.specs.declared.text.PlanText.{PlanText}
use Rattle.gs_planfile.specs.declared.text.Version.{Version}
use Rattle.gs_planfile.specs.declared.text.Version.TheVariants.{One, Two}
use Rattle.gs_plan.specs.declared.edge.EdgeNumbers.{EdgeNumbers}
use Rattle.gs_plan.specs.Edges.{own_given}
use Rattle.gs_plan.specs.Numbers.{q_in, top_in, sigma_in, r_in, iota_in, kappa_in, delta_in, comp_in, numbers_of}
use Rattle.gs_plan.specs.Bounds.{lambda_in, level_in, local_in, best_in, best_edge_in}

-- a text and then the line of the network's size
abbrev pub with_size : List ℕ → Graph → List ℕ
with_size text g =
    text ++ codes "nodes " ++ decimal g.nodes ++ codes " edges " ++ decimal (length g.edges)
    ++ codes " diameter " ++ decimal (diameter_of g) ++ 10 ∷ []

-- the line of the rate
abbrev pub with_rate : List ℕ → PlanText → List ℕ
with_rate text t =
    text ++ codes "rate lo " ++ decimal t.lo ++ codes " hi " ++ decimal t.hi ++ codes " mu " ++ decimal t.mu
    ++ codes " q " ++ decimal (q_in t) ++ codes " top " ++ decimal (top_in t) ++ codes " sigma " ++ decimal (sigma_in t)
    ++ 10 ∷ []

-- the line of the times, in quanta
abbrev pub with_times : List ℕ → PlanText → List ℕ
with_times text t =
    text ++ codes "tick " ++ decimal t.tick ++ codes " delay " ++ decimal t.delay_min ++ codes " " ++ decimal t.delay_max
    ++ codes " age " ++ decimal t.age ++ 10 ∷ []

-- the line of the plan's own link numbers
abbrev pub with_link : List ℕ → PlanText → List ℕ
with_link text t =
    text ++ codes "kappa " ++ decimal (kappa_in t (own_given t)) ++ codes " delta " ++ decimal (delta_in t (own_given t))
    ++ codes " comp " ++ decimal (comp_in t (own_given t)) ++ 10 ∷ []

-- the line of what the bounds are made of
abbrev pub with_terms : List ℕ → PlanText → Graph → List ℕ
with_terms text t g =
    text ++ codes "iota " ++ decimal (iota_in t) ++ codes " lambda " ++ decimal (lambda_in t g)
    ++ codes " term " ++ decimal (r_in t) ++ 10 ∷ []

-- the line of a level
abbrev pub with_level : List ℕ → PlanText → Graph → ℕ → List ℕ
with_level text t g s =
    text ++ codes "level " ++ decimal s ++ codes " skew " ++ decimal (level_in t g s)
    ++ codes " neighbour " ++ decimal (local_in t g s) ++ 10 ∷ []

-- the lines of the first n levels
abbrev pub with_levels : List ℕ → PlanText → Graph → ℕ → List ℕ
with_levels text t g zero = text
with_levels text t g (suc n) = with_level (with_levels text t g n) t g n

-- the line of the best level
abbrev pub with_best : List ℕ → PlanText → Graph → List ℕ
with_best text t g = text ++ codes "best " ++ decimal (best_in t g).0 ++ codes " " ++ decimal (best_in t g).1 ++ 10 ∷ []

-- the line of an edge: its ends, its delays, its kappa and its best level
abbrev pub edge_line : List ℕ → ℕ × ℕ → EdgeNumbers → ℕ × ℕ → List ℕ
edge_line text ends e best =
    text ++ codes "edge " ++ decimal ends.0 ++ codes " " ++ decimal ends.1
    ++ codes " delay " ++ decimal e.delay_min ++ codes " " ++ decimal e.delay_max
    ++ codes " kappa " ++ decimal e.kappa ++ codes " best " ++ decimal best.0 ++ codes " " ++ decimal best.1 ++ 10 ∷ []

-- that of an edge with its numbers, where there is one
abbrev pub with_numbers : List ℕ → PlanText → Graph → Option (ℕ × ℕ) → Option EdgeNumbers → List ℕ
with_numbers text t g (Some ends) (Some e) = edge_line text ends e (best_edge_in t g e.kappa)
with_numbers text t g (Some ends) None = text
with_numbers text t g None e = text

-- the line of the edge of a number
abbrev pub with_edge : List ℕ → PlanText → Graph → ℕ → List ℕ
with_edge text t g i = with_numbers text t g (slice_get g.edges i) (slice_get (numbers_of t g) i)

-- the lines of the first n edges
abbrev pub with_edges : List ℕ → PlanText → Graph → ℕ → List ℕ
with_edges text t g zero = text
with_edges text t g (suc n) = with_edge (with_edges text t g n) t g n

-- the lines of all edges, which plans of version 2 have
abbrev pub with_spans_of : Version → List ℕ → PlanText → Graph → List ℕ
with_spans_of One text t g = text
with_spans_of Two text t g = with_edges text t g (length g.edges)

abbrev pub with_spans : List ℕ → PlanText → Graph → List ℕ
with_spans text t g = with_spans_of t.version text t g

-- The text of a plan over its graph.
abbrev pub plan_text : PlanText → Graph → List ℕ
plan_text t g =
    with_spans (with_best (with_levels
    (with_terms (with_link (with_times (with_rate (with_size [] g) t) t) t) t g)
    t g (t.levels + 1)) t g) t g
