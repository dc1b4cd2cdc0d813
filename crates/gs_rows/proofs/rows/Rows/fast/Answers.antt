use Rattle.std.proofs.Common.{ap, sym}
use Rattle.gs_rows.specs.Row.{Row}
use Rattle.gs_rows.proofs.Fields.{row_inside}
use Rattle.gs_rows.proofs.rows.Rows.fast.Goals as goal

pub returns : goal.returns
returns c = sym (ap (λ (r : Row). r.fast) (row_inside c.self.inside c.args.self.now c.self.invariant c.self.view_is))
