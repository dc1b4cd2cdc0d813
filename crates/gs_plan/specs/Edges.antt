-- What a plan says of each of its edges.
use Rattle.std.specs.Prelude.{ℕ, List, Option, map}
use Rattle.std.specs.List.{find}
use Rattle.std.specs.Option.{option_map_or}
use Rattle.gs_topo.specs.Graph.{Graph, joins}
use Rattle.gs_planfile.specs.declared.text.EdgeSpan.{EdgeSpan}
use Rattle.gs_planfile.specs.declared.text.PlanText.{PlanText}
use Rattle.gs_plan.specs.declared.edge.EdgeGiven.{EdgeGiven}

-- the plan's own delays and kappa, which are those of each edge without a span
abbrev pub own_given : PlanText → EdgeGiven
own_given t = record { delay_min = t.delay_min; delay_max = t.delay_max; kappa = t.kappa }

-- the delays and the kappa of a span
abbrev pub span_given : EdgeSpan → EdgeGiven
span_given s = record { delay_min = s.delay_min; delay_max = s.delay_max; kappa = s.kappa }

-- the span that names v and w, either way round
abbrev pub span_between : List EdgeSpan → ℕ → ℕ → Option EdgeSpan
span_between spans v w = find (λ s. joins (s.a, s.b) v w) spans

-- the delays and the kappa of an edge
abbrev pub edge_given : PlanText → ℕ × ℕ → EdgeGiven
edge_given t e = option_map_or span_given (span_between t.spans e.0 e.1) (own_given t)

-- those of all edges, in their order
abbrev pub edges_given : PlanText → Graph → List EdgeGiven
edges_given t g = map (edge_given t) g.edges
