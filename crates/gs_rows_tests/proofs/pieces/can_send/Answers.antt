use Rattle.std.proofs.Common.{◌≡◌, ◌<◌, ◌∙◌, arith, ap, sym, true, rules}
use Rattle.std.proofs.lemmas.Bool.{ltb-true}
use Rattle.gs_topo.specs.Graph.{Graph, adjacent}
use Rattle.gs_plan.specs.Plans.{graph_of}
use Rattle.gs_planfile.specs.declared.text.PlanText.{PlanText}
use Rattle.gs_run.specs.Nets.{net_of}
use Rattle.gs_calendar.proofs.OnTheWay.{is_neighbour}
use Rattle.gs_rows_tests.proofs.pieces.can_send.Goals as goal

pub returns : goal.returns
returns c = λ young.
    let net = net_of c.args.plan.now in
    let count = ap (λ (g : Graph). g.nodes) c.topo-topo.ensures in
    let nodes = c.nodes.ensures.value in
    let some = c.if-nodes-lt2.false in
    let answer : c.adjacent.result ≡ true = search rules in
    let near : adjacent (graph_of c.args.plan.now) 0 1 ≡ true = ap (λ (g : Graph). adjacent g 0 1) (sym c.topo-topo.ensures) ∙ sym c.adjacent.ensures ∙ answer in
    let age = ap (λ (t : PlanText). t.age) c.text.ensures in
    let old : 0 < c.text.result.now.age = ltb-true 0 c.text.result.now.age young in
    let two : 1 < net.nodes = omega (arith, count, nodes, some) in
    (two, is_neighbour net 0 1 two near, omega (arith, age, old))
