use Rattle.std.proofs.Common.{sym, ◌∙◌}
use Rattle.gs_plan.specs.Plans.{graph_of}
use Rattle.gs_level.proofs.Places.{tally_push}
use Rattle.gs_level.proofs.tally.Tally.see.Goals as goal

pub returns-clause-value : goal.returns-clause-value
returns-clause-value c = λ rows is.
    let with_row = rw (c.topo.ensures, is) at c.with.ensures.value in
    with_row ∙ sym (tally_push (graph_of c.args.plan.now) rows c.args.clocks.now)
