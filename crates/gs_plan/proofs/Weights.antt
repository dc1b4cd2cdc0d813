-- The weights of a plan are least sums, fit its kappas, and are small.
use Rattle.std.proofs.Common.{◌≡◌, ℕ, ◌*◌, ◌<◌, ◌≤◌, ◌^◌, ap, arith}
use Rattle.std.proofs.Math.Nat.{mul-le-mul_left}
use Rattle.gs_topo.specs.Graph.{Adjacent, adjacent}
use Rattle.gs_topo.specs.Walks.{IsTopology, IsLeast, distance_of}
use Rattle.gs_topo.specs.Weights.{Weighs}
use Rattle.gs_topo.proofs.Distances.{both_ways, is_below}
use Rattle.gs_topo.proofs.Weighing.{least_sums_weigh}
use Rattle.gs_plan.specs.declared.plan.Plan.{Plan}
use Rattle.gs_plan.specs.Bounds.{greatest_kappa_in}
use Rattle.gs_plan.specs.Numbers.{kappa_between, kappa_in}
use Rattle.gs_plan.specs.Plans.{graph_of, text_of}
use Rattle.gs_plan.specs.Weights.{weight_in}
use Rattle.gs_plan.proofs.Linking.{same_text}
use Rattle.gs_plan.proofs.Keeping.{kappa_fits}
use Rattle.gs_plan.proofs.Telling.{plan_accepted, plan_is_graph}
use Rattle.gs_plan.proofs.Sums.{kappa_of_neighbours, one_least, weight_is_least}

-- the weight is the least sum of every pair, at most the greatest kappa for each step of the distance
pub least_in_plan : (p : Plan) (v w : ℕ) → v < (graph_of p).nodes → w < (graph_of p).nodes
    → IsLeast (Adjacent (graph_of p)) (graph_of p).nodes (kappa_between (text_of p)) v w (weight_in (text_of p) (graph_of p) v w)
    × (weight_in (text_of p) (graph_of p) v w ≤ greatest_kappa_in (text_of p) (graph_of p) * distance_of (graph_of p) v w)
least_in_plan p v w hv hw =
    let is = plan_accepted p.text p.topo p.accepted p.graph in
    weight_is_least p.text p.topo (plan_is_graph p.text p.topo p.accepted p.graph)
    (λ a b next. (kappa_of_neighbours p.text p.topo is a b next).0) (λ a b next. (kappa_of_neighbours p.text p.topo is a b next).1) v w hv hw

-- what a plan gives as a least sum is the weight
pub given_weight : (p : Plan) (v w d : ℕ) → v < (graph_of p).nodes → w < (graph_of p).nodes
    → IsLeast (Adjacent (graph_of p)) (graph_of p).nodes (kappa_between (text_of p)) v w d → d ≡ weight_in (text_of p) (graph_of p) v w
given_weight p v w d hv hw least =
    one_least (Adjacent (graph_of p)) (graph_of p).nodes (kappa_between (text_of p)) v w d (weight_in (text_of p) (graph_of p) v w) least (least_in_plan p v w hv hw).0

-- and fits into 70 bits
pub weight_fits : (p : Plan) (v w : ℕ) → v < (graph_of p).nodes → w < (graph_of p).nodes → weight_in (text_of p) (graph_of p) v w < 2 ^ 70
weight_fits p v w hv hw =
    let most = (least_in_plan p v w hv hw).1 in
    let kappa = (kappa_fits p.text p.topo (plan_accepted p.text p.topo p.accepted p.graph)).1 in
    let is = plan_is_graph p.text p.topo p.accepted p.graph in
    let few = is.few in
    let steps = is_below p.topo is.connected v w hv hw in
    let some : greatest_kappa_in p.text p.topo * distance_of p.topo v w ≤ greatest_kappa_in p.text p.topo * 512 = mul-le-mul_left (greatest_kappa_in p.text p.topo) (omega (arith, steps, few)) in
    omega (arith, most, kappa, some)

-- the graph of a plan is that of a topology
pub graph_is : (p : Plan) → IsTopology (graph_of p)
graph_is p = plan_is_graph p.text p.topo p.accepted p.graph

-- the weights of a plan fit its kappas
pub weights_fit : (p : Plan) → Weighs (graph_of p).nodes (Adjacent (graph_of p)) (kappa_between (text_of p)) (weight_in (text_of p) (graph_of p))
weights_fit p =
    least_sums_weigh (graph_of p).nodes (adjacent (graph_of p)) (kappa_between (text_of p)) (weight_in (text_of p) (graph_of p)) (record {
      both_ways = both_ways (graph_of p);
      same_length = λ v w. ap (kappa_in (text_of p)) (same_text (text_of p) v w);
      least = λ v w hv hw. (least_in_plan p v w hv hw).0;
    })
