-- The numbers of a plan's rate and of its edges.
use Rattle.std.specs.Prelude.{ℕ, ◌+◌, ◌-◌, ◌*◌, ◌/◌, if◌then◌else◌, List, map, Option, Some, None, unwrap_or}
use Rattle.gs_units.specs.Rates.{delay_comp, delay_jump, delay_spread, delta_at, drift_at, g_at, iota_at, q_at, r_at, sigma_at, top_at}
use Rattle.gs_planfile.specs.declared.text.PlanText.{PlanText}
use Rattle.gs_topo.specs.Graph.{Graph, adjacent}
use Rattle.gs_plan.specs.Edges.{edge_given, edges_given}
use Rattle.gs_plan.specs.declared.edge.EdgeGiven.{EdgeGiven}
use Rattle.gs_plan.specs.declared.edge.EdgeNumbers.{EdgeNumbers}

-- r: how far two hardware clocks may drift apart in one quantum
abbrev pub r_in : PlanText → ℕ
r_in t = r_at t.lo t.hi

-- q: the least boost of one quantum
abbrev pub q_in : PlanText → ℕ
q_in t = q_at t.lo t.mu

-- g: the least creep of one quantum
abbrev pub g_in : PlanText → ℕ
g_in t = g_at t.lo t.hi

-- the greatest that one quantum adds to a logical clock
abbrev pub top_in : PlanText → ℕ
top_in t = top_at t.hi t.mu

-- how often the drift of one quantum goes into the boost
abbrev pub sigma_in : PlanText → ℕ
sigma_in t = sigma_at t.lo t.hi t.mu

-- how far two logical clocks may drift apart in one quantum
abbrev pub drift_in : PlanText → ℕ
drift_in t = drift_at t.lo t.hi t.mu

-- how far ahead the maximum has to be for a node to be fast by itself
abbrev pub iota_in : PlanText → ℕ
iota_in t = iota_at (drift_in t) t.tick

-- j: how far the delays of an edge spread, in clock units
abbrev pub spread_in : PlanText → EdgeGiven → ℕ
spread_in t e = delay_spread t.lo e.delay_min e.delay_max

-- what a beacon's maximum is raised by for its way
abbrev pub jump_in : PlanText → EdgeGiven → ℕ
jump_in t e = delay_jump t.lo e.delay_min

-- what a beacon's clock is raised by for its way
abbrev pub comp_in : PlanText → EdgeGiven → ℕ
comp_in t e = delay_comp t.lo e.delay_min e.delay_max

-- how far an offset may be off when it is used
abbrev pub delta_in : PlanText → EdgeGiven → ℕ
delta_in t e = delta_at (drift_in t) t.age t.tick (spread_in t e)

-- the least kappa that an edge may have
abbrev pub least_kappa_in : PlanText → EdgeGiven → ℕ
least_kappa_in t e = 2 * delta_in t e + 1

-- the skew that one level allows at an edge: the given one, else the least
abbrev pub kappa_in : PlanText → EdgeGiven → ℕ
kappa_in t e = unwrap_or e.kappa (least_kappa_in t e)

-- all numbers of an edge
abbrev pub numbers_in : PlanText → EdgeGiven → EdgeNumbers
numbers_in t e = record {
  delay_min = e.delay_min;
  delay_max = e.delay_max;
  kappa = kappa_in t e;
  delta = delta_in t e;
  comp = comp_in t e;
  jump = jump_in t e;
}

-- the numbers of all edges of a graph, in their order
abbrev pub numbers_of : PlanText → Graph → List EdgeNumbers
numbers_of t g = map (numbers_in t) (edges_given t g)

-- the numbers of the edge between v and w, where there is one
abbrev pub numbers_between : PlanText → Graph → ℕ → ℕ → Option EdgeNumbers
numbers_between t g v w = if adjacent g v w then Some (numbers_in t (edge_given t (v, w))) else None

-- the skew that one level allows between two neighbours
abbrev pub kappa_between : PlanText → ℕ → ℕ → ℕ
kappa_between t v w = kappa_in t (edge_given t (v, w))
