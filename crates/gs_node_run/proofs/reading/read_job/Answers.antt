use Rattle.std.proofs.Common.{arith, rules, ◌≡◌, ◌∙◌, Some, ap, map, string_bytes}
use Rattle.gs_topo.specs.Graph.{Graph}
use Rattle.gs_cli.specs.declared.stop.Stop.TheVariants.{Refused}
use Rattle.gs_inputs.specs.Sources.{seen}
use Rattle.gs_node_run.specs.Words.{order_of}
use Rattle.gs_node_run.specs.inside.Meaning.{meaning}
use Rattle.gs_node_run.proofs.Refused.{no_node}
use Rattle.gs_node_run.proofs.reading.read_job.Goals as goal

pub returns-then-order-nodes-clause-err : goal.returns-then-order-nodes-clause-err
returns-then-order-nodes-clause-err g c =
    let spelled : order_of (map string_bytes c.args.words.now) ≡ Some (meaning c.in-Some.order) = search rules in
    let nodes = c.nodes.ensures.value ∙ ap (λ (x : Graph). x.nodes) c.topo.ensures in
    let past = c.if-order-nodes.true in
    no_node (seen (g.F.Files.content c.args.files.now) (g.F.Files.faults c.args.files.now) (g.F.Files.faults c.read_plan.new.files)) (map string_bytes c.args.words.now) (meaning c.in-Some.order) c.in_ok-plan.plan (Refused c.in_ok-node_refusal.field-0) spelled c.in_ok-plan.ensures.ok (omega (arith, nodes, past)) c.in_ok-node_refusal.ensures

pub returns-clause-ok : goal.returns-clause-ok
returns-clause-ok g c =
    let spelled : order_of (map string_bytes c.args.words.now) ≡ Some (meaning c.in-Some.order) = search rules in
    let nodes = c.nodes.ensures.value ∙ ap (λ (x : Graph). x.nodes) c.topo.ensures in
    let within = c.if-order-nodes.false in
    (meaning c.in-Some.order, c.in_ok-plan.plan, record { spelled = spelled; plan_is = c.in_ok-plan.ensures.ok; node = omega (arith, nodes, within) }, c.in_ok-job_of.ensures)
