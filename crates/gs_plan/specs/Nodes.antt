-- What a plan tells a node.
use Rattle.std.specs.Prelude.{ℕ, map}
use Rattle.gs_units.specs.declared.params.Link.{Link}
use Rattle.gs_units.specs.declared.params.NodeParams.{NodeParams}
use Rattle.gs_units.specs.declared.rate.Rate.{Rate}
use Rattle.gs_topo.specs.Graph.{Graph, neighbours_of}
use Rattle.gs_planfile.specs.declared.text.PlanText.{PlanText}
use Rattle.gs_plan.specs.declared.edge.EdgeGiven.{EdgeGiven}
use Rattle.gs_plan.specs.Edges.{edge_given}
use Rattle.gs_plan.specs.Numbers.{comp_in, delta_in, iota_in, jump_in, kappa_in}

-- a link to node x over an edge
abbrev pub link_over : PlanText → EdgeGiven → ℕ → Link
link_over t e x =
    record { node = x; comp = comp_in t e; jump = jump_in t e; kappa = kappa_in t e; delta = delta_in t e }

-- the link of node v to its neighbour x
abbrev pub link_in : PlanText → ℕ → ℕ → Link
link_in t v x = link_over t (edge_given t (v, x)) x

-- what node v is told before it runs
abbrev pub params_in : PlanText → Graph → Rate → ℕ → NodeParams
params_in t g rate v = record {
  cluster = t.cluster;
  node = v;
  links = map (link_in t v) (neighbours_of g v);
  rate = rate;
  iota = iota_in t;
  every = t.every;
}
