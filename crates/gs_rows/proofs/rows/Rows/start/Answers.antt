use Rattle.std.proofs.Common.{◌≡◌, ◌∙◌, IfOk, ap, List, ℕ, replicate, subst}
use Rattle.gs_topo.specs.Graph.{Graph}
use Rattle.gs_plan.specs.Plans.{graph_of}
use Rattle.gs_run.specs.Nets.{net_of}
use Rattle.gs_rows.specs.Row.{zeros_of}
use Rattle.gs_rows.specs.Stage.{Stage}
use Rattle.gs_run.proofs.Zeros.{zeros_are}
use Rattle.gs_rows.proofs.rows.Rows.start.Goals as goal

pub returns : goal.returns
returns c =
    let p = c.args.plan.now in
    let nodes : c.nodes.result ≡ (graph_of p).nodes = c.nodes.ensures.value ∙ ap (λ (g : Graph). g.nodes) c.topo.ensures in
    let is : c.in_ok-l0s.l0s.items ≡ zeros_of (net_of p) =
    c.in_ok-l0s.ensures ∙ ap (λ (n : ℕ). replicate {A = ℕ} n 0) nodes ∙ zeros_are 0 (graph_of p).nodes in
    subst (λ (l : List ℕ). IfOk c.start_each.result
    (λ (rows : Stage). rows ≡ record { plan = p; said = c.args.script.now; l0s = l; quanta = 0 })) is c.start_each.ensures
