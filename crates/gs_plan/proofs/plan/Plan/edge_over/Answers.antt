use Rattle.std.proofs.Common.{◌≡◌, ◌∙◌, ap, sym, get_or, List, Some}
use Rattle.gs_plan.specs.declared.edge.EdgeNumbers.{EdgeNumbers}
use Rattle.gs_plan.proofs.Linking.{no_numbers, numbers_found}
use Rattle.gs_plan.proofs.plan.Plan.edge_over.Goals as goal

pub returns-in_err-e : goal.returns-in_err-e
returns-in_err-e c =
    let p = c.args.self.now in
    c.from_residual.ensures ∙ no_numbers p.text p.topo c.args.v c.args.w (sym c.in_err-e.ensures)

pub returns : goal.returns
returns c =
    let p = c.args.self.now in
    let read : c.index.result.now ≡ get_or p.edges.items c.in_ok-e.e c.index.result.now = c.index.ensures in
    ap Some (read ∙ ap (λ (xs : List EdgeNumbers). get_or xs c.in_ok-e.e c.index.result.now) p.each) ∙ numbers_found p.text p.topo c.args.v c.args.w c.in_ok-e.e c.index.result.now (sym c.in_ok-e.ensures)
