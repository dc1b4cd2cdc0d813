use Rattle.gs_respond.proofs.TimeBytes.{requests-ask, one-spelling, answers-tell, answers-differ}
use Rattle.gs_respond.proofs.laws.time_requests.Goals as goal

pub returns-clause-requests_ask : goal.returns-clause-requests_ask
returns-clause-requests_ask c = requests-ask

pub returns-clause-one_spelling : goal.returns-clause-one_spelling
returns-clause-one_spelling c = one-spelling

pub returns-clause-answers_tell : goal.returns-clause-answers_tell
returns-clause-answers_tell c = answers-tell

pub returns-clause-answers_differ : goal.returns-clause-answers_differ
returns-clause-answers_differ c = answers-differ
