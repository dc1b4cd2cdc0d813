use Rattle.std.proofs.Common.{inl}
use Rattle.gs_tool.proofs.tool.migrate_answer.Goals as goal

pub returns-clause-answer : goal.returns-clause-answer
returns-clause-answer g c = inl (c.in_ok-plan.plan, c.in_ok-plan.ensures.ok, c.in_ok-migrated.ensures)
