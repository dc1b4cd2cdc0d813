use Rattle.std.proofs.Common.{◌≡◌, ◌∙◌, sym, ap, Some}
use Rattle.std.proofs.lemmas.Option.{get_or_from_slice_get}
use Rattle.gs_topo.specs.Graph.{number_of}
use Rattle.gs_plan.specs.declared.edge.EdgeNumbers.{EdgeNumbers}
use Rattle.gs_plan.specs.Edges.{edge_given}
use Rattle.gs_plan.specs.Numbers.{numbers_in, numbers_of}
use Rattle.gs_plan.specs.Plans.{graph_of, text_of}
use Rattle.gs_plan.proofs.Linking.{has_number, numbers_at}
use Rattle.gs_world.specs.declared.delay.Delay.{Delay}
use Rattle.gs_world.proofs.delay.between.Goals as goal

pub unreachable-requires : goal.unreachable-requires
unreachable-requires c =
    let found = has_number (graph_of c.args.plan.now) c.args.v c.args.x c.requires in
    let is = found.1 in cc

pub returns : goal.returns
returns c =
    let p = c.args.plan.now in
    let found : number_of (graph_of p) c.args.v c.args.x ≡ Some c.in-Some.e = cc in
    let at = numbers_at (text_of p) (graph_of p) c.args.v c.args.x c.in-Some.e c.edge-edge.result found in
    let here =
    get_or_from_slice_get (numbers_of (text_of p) (graph_of p)) c.in-Some.e c.edge-edge.result c.edge-edge.result
    c.edge-edge.ensures in
    let read : c.edge-edge.result ≡ numbers_in (text_of p) (edge_given (text_of p) (c.args.v, c.args.x)) =
    sym here ∙ at.1 in
    ap (λ (n : EdgeNumbers). let delay : Delay = record { delay_min = n.delay_min; delay_max = n.delay_max } in delay) read
