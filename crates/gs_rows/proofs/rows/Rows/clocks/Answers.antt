use Rattle.std.proofs.Common.{ap, sym, ◌∙◌}
use Rattle.gs_rows.specs.Row.{Row}
use Rattle.gs_rows.proofs.Fields.{count_inside, row_inside}
use Rattle.gs_rows.proofs.Staging.{answered_below}
use Rattle.gs_rows.proofs.rows.Rows.clocks.Goals as goal

pub returns-clause-value : goal.returns-clause-value
returns-clause-value c =
    c.clocks.ensures
    ∙ sym (ap (λ (r : Row). r.clocks) (row_inside c.self.inside c.args.self.now c.self.invariant c.self.view_is))

pub returns-clause-count : goal.returns-clause-count
returns-clause-count c =
    count_inside c.self.inside c.args.self.now c.clocks.result.now c.self.invariant c.self.view_is c.clocks.ensures

pub returns-clause-below : goal.returns-clause-below
returns-clause-below c =
    answered_below c.self.inside.world.plan c.self.inside.world.world c.clocks.result.now c.quanta-few.ensures.reachable
    c.clocks.ensures
