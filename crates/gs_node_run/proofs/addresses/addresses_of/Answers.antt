use Rattle.std.proofs.Common.{arith, ◌≡◌, ◌∙◌, ◌≤◌, ℕ, length, take, map, ap}
use Rattle.std.proofs.lemmas.List.{take_all}
use Rattle.gs_topo.specs.Graph.{Graph, neighbours_of}
use Rattle.gs_plan.specs.Plans.{graph_of, text_of}
use Rattle.gs_node_run.specs.Addresses.{receives_at}
use Rattle.gs_node_run.proofs.addresses.addresses_of.Goals as goal

pub returns-clause-routes : goal.returns-clause-routes
returns-clause-routes c =
    let t = text_of c.args.plan.now in
    let g = graph_of c.args.plan.now in
    let is : c.neighbours-x-items.result.now ≡ neighbours_of g c.args.v = c.neighbours-x-items.ensures ∙ ap (λ (x : Graph). neighbours_of x c.args.v) c.topo.ensures in
    let ended = c.loop-x-test.false in
    let long : length (neighbours_of g c.args.v) ≤ c.loop-x.x-index = rw (← is) (omega (arith, ended)) in
    let all : take c.loop-x.x-index (neighbours_of g c.args.v) ≡ neighbours_of g c.args.v = take_all c.loop-x.x-index (neighbours_of g c.args.v) long in
    c.loop-x.invariant.routes ∙ ap (map (λ (x : ℕ). (x, receives_at t g x c.args.v))) all
