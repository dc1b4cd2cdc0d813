use Rattle.std.proofs.Common.{rules, ℕ, List, ◌≡◌, ◌<◌, ◌≤◌, ◌∙◌, ap, arith, length, slice_index, subst, true}
use Rattle.std.specs.Result.{is_ok}
use Rattle.gs_topo.specs.Graph.{Graph, neighbours_of}
use Rattle.gs_plan.specs.Plans.{text_of}
use Rattle.gs_plan.specs.Shapes.{graph_of_text}
use Rattle.gs_script.specs.inside.Kept.{HasWays}
use Rattle.gs_script.proofs.Keeping.{few_neighbours, ways-more}
use Rattle.gs_script.proofs.kept.ways_from.Goals as goal

pub overflow_cast-k : goal.overflow_cast-k
overflow_cast-k c =
    let g = graph_of_text (text_of c.args.plan.now) in
    let is : c.neighbours-neighbours.result.now ≡ neighbours_of g c.args.v = c.neighbours-neighbours.ensures ∙ ap (λ (x : Graph). neighbours_of x c.args.v) c.graph.ensures in
    let inside : c.loop-k.k < length (neighbours_of g c.args.v) = rw is at c.loop-k-test.true in
    let few : g.nodes ≤ 512 = rw c.graph-2.ensures at c.nodes.ensures.graph.few in
    omega (arith, inside, few, few_neighbours g c.args.v)

pub loop-k-preserved : goal.loop-k-preserved
loop-k-preserved c =
    let t = text_of c.args.plan.now in
    let g = graph_of_text t in
    let k = c.loop-k.k in
    let w = slice_index c.neighbours-neighbours.result.now k in
    let is : c.neighbours-neighbours.result.now ≡ neighbours_of g c.args.v = c.neighbours-neighbours.ensures ∙ ap (λ (x : Graph). neighbours_of x c.args.v) c.graph.ensures in
    let inside : k < length (neighbours_of g c.args.v) = rw is at c.loop-k-test.true in
    let here : w ≡ slice_index (neighbours_of g c.args.v) k = ap (λ (xs : List ℕ). slice_index xs k) is in
    let good : is_ok c.push.result ≡ true = search rules in
    let items = rw good at c.push.ensures.items in
    rw items (ways-more t c.args.lines.now c.args.v k w c.loop-k.index.items c.loop-k.items.items _ inside here c.in_ok-way_to.ensures c.loop-k.invariant)

pub returns : goal.returns
returns c =
    let t = text_of c.args.plan.now in
    let g = graph_of_text t in
    let is : c.neighbours-neighbours.result.now ≡ neighbours_of g c.args.v = c.neighbours-neighbours.ensures ∙ ap (λ (x : Graph). neighbours_of x c.args.v) c.graph.ensures in
    let over : length (neighbours_of g c.args.v) ≤ c.loop-k.k = rw is at c.loop-k-test.false in
    let most : c.loop-k.k ≤ length (neighbours_of g c.args.v) = rw is at c.loop-k.auto.k-end in
    let all : c.loop-k.k ≡ length (neighbours_of g c.args.v) = omega (arith, over, most) in
    subst (λ (n : ℕ). HasWays t c.args.lines.now c.args.v n c.loop-k.index.items c.loop-k.items.items) all c.loop-k.invariant
