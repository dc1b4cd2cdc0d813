-- The net of a plan.
use Rattle.gs_topo.specs.Graph.{Graph, adjacent}
use Rattle.gs_topo.specs.Walks.{diameter_of}
use Rattle.gs_units.specs.declared.rate.Rate.{Rate}
use Rattle.gs_planfile.specs.declared.text.PlanText.{PlanText}
use Rattle.gs_plan.specs.Bounds.{greatest_spread_in}
use Rattle.gs_plan.specs.Edges.{edge_given}
use Rattle.gs_plan.specs.Numbers.{kappa_between}
use Rattle.gs_plan.specs.Plans.{text_of, graph_of, rate_of}
use Rattle.gs_plan.specs.declared.plan.Plan.{Plan}
use Rattle.gs_plan.specs.Weights.{weight_in}
use Rattle.gs_run.specs.Net.{Net}

-- the net of a plan's text over its graph
abbrev pub net_in : PlanText → Graph → Rate → Net
net_in t g rate = record {
  cluster = t.cluster;
  nodes = g.nodes;
  rate = rate;
  tick = t.tick;
  age = t.age;
  every = t.every;
  adjacent = adjacent g;
  delay_min = λ v w. (edge_given t (v, w)).delay_min;
  delay_max = λ v w. (edge_given t (v, w)).delay_max;
  kappa = kappa_between t;
  weight = weight_in t g;
  diameter = diameter_of g;
  widest = greatest_spread_in t g;
}

abbrev pub net_of : Plan → Net
net_of p = net_in (text_of p) (graph_of p) (rate_of p)
