use Rattle.std.proofs.Common.{◌∙◌, sym, None}
use Rattle.gs_plan.proofs.SpanTable.{bad_at}
use Rattle.gs_plan.proofs.checking.free_edge.Goals as goal

pub returns-then-is_bad_again-clause-bad : goal.returns-then-is_bad_again-clause-bad
returns-then-is_bad_again-clause-bad c = λ earlier table.
    bad_at c.args.version c.args.topo.now earlier c.args.span c.in_ok-e.e c.args.found.now None table (sym c.in_ok-e.ensures) ∙ sym c.is_bad_again.ensures ∙ c.if-is_bad_again.true

pub returns-else-is_bad_again-clause-bad : goal.returns-else-is_bad_again-clause-bad
returns-else-is_bad_again-clause-bad c = λ earlier table.
    bad_at c.args.version c.args.topo.now earlier c.args.span c.in_ok-e.e c.args.found.now None table (sym c.in_ok-e.ensures) ∙ sym c.is_bad_again.ensures ∙ c.if-is_bad_again.false
