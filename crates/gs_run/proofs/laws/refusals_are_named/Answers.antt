use Rattle.gs_run.proofs.Reasons.{allowed_where_none_is_refused, none_wants_memory}
use Rattle.gs_run.proofs.laws.refusals_are_named.Goals as goal

pub returns-clause-exact : goal.returns-clause-exact
returns-clause-exact c = λ net i w es. allowed_where_none_is_refused net i w es

pub returns-clause-named : goal.returns-clause-named
returns-clause-named c = λ net i w es first. none_wants_memory net i w es first
