use Rattle.std.proofs.Common.{◌≡◌}
use Rattle.gs_plan.specs.declared.edge.EdgeNumbers.{EdgeNumbers}
use Rattle.gs_plan.specs.Bounds.{best_edge_in, skew_in}
use Rattle.gs_plan.specs.Levels.{IsBest}
use Rattle.gs_plan.proofs.Linking.{edge_fits, if_some}
use Rattle.gs_plan.proofs.plan.Plan.best_edge.Goals as goal

pub best_over-requires : goal.best_over-requires
best_over-requires c =
    let p = c.args.self.now in
    edge_fits p.text p.topo c.args.e c.edge.result p.greatest_kappa c.edge.ensures p.greatest.kappa p.greatest.fits

pub returns-clause-value : goal.returns-clause-value
returns-clause-value c =
    let p = c.args.self.now in
    if_some (λ (edge : EdgeNumbers). c.best_over.result ≡ best_edge_in p.text p.topo edge.kappa) c.edge.ensures c.best_over.ensures.value

pub returns-clause-best : goal.returns-clause-best
returns-clause-best c =
    let p = c.args.self.now in
    if_some (λ (edge : EdgeNumbers). IsBest (skew_in p.text p.topo edge.kappa) p.text.levels c.best_over.result) c.edge.ensures c.best_over.ensures.best
