-- For the type of plans alone: two plans of the same numbers are the same, as each fact that a plan keeps has one proof at most.
use Rattle.std.specs.Prelude.{◌≡◌, ℕ, List, refl}
use Rattle.std.specs.Coded.{Coded, Coded-set, code_by, coded_list, coded_ℕ, coded×}
use Rattle.gs_topo.specs.Graph.{Graph}
use Rattle.gs_topo.specs.Weights.{Lengths}
use Rattle.gs_plan.specs.declared.edge.EdgeNumbers.{EdgeNumbers}

abbrev coded_graph : Coded Graph
coded_graph = code_by (ℕ × List (ℕ × ℕ)) (coded× coded_ℕ (coded_list (coded× coded_ℕ coded_ℕ)))
    (λ g. (g.nodes, g.edges))
    (λ p. record { nodes = p.0; edges = p.1 }) (λ _. refl)

abbrev coded_lengths : Coded Lengths
coded_lengths = code_by (Graph × List ℕ) (coded× coded_graph (coded_list coded_ℕ))
    (λ l. (l.graph, l.lengths))
    (λ p. record { graph = p.0; lengths = p.1 }) (λ _. refl)

abbrev coded_numbers : Coded EdgeNumbers
coded_numbers = code_by ((ℕ × ℕ) × ((ℕ × ℕ) × (ℕ × ℕ)))
    (coded× (coded× coded_ℕ coded_ℕ) (coded× (coded× coded_ℕ coded_ℕ) (coded× coded_ℕ coded_ℕ)))
    (λ n. ((n.delay_min, n.delay_max), ((n.kappa, n.delta), (n.comp, n.jump))))
    (λ p. record {
      delay_min = p.0.0;
      delay_max = p.0.1;
      kappa = p.1.0.0;
      delta = p.1.0.1;
      comp = p.1.1.0;
      jump = p.1.1.1;
    }) (λ _. refl)

pub graphs-prop : (a b : Graph) → IsProp (a ≡ b)
graphs-prop a b = Coded-set coded_graph a b

pub lengths-prop : (a b : Lengths) → IsProp (a ≡ b)
lengths-prop a b = Coded-set coded_lengths a b

pub numbers-prop : (a b : List EdgeNumbers) → IsProp (a ≡ b)
numbers-prop a b = Coded-set (coded_list coded_numbers) a b
