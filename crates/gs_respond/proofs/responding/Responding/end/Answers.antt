use Rattle.gs_respond.proofs.Ending.{door_answers, door_taken, owes}
use Rattle.gs_respond.proofs.responding.Responding.end.Goals as goal

pub returns-clause-answers : goal.returns-clause-answers
returns-clause-answers g c = door_answers _ _ _ _ _ c.args.self.responder.accounts

pub returns-clause-owes : goal.returns-clause-owes
returns-clause-owes g c = owes _ _ _ _ _ _ c.args.self.responder.accounts c.args.self.responder.owing

pub returns-clause-taken : goal.returns-clause-taken
returns-clause-taken g c = door_taken _ _ _ _ _ _ _ _ c.args.self.responder.accounts c.args.self.rests
