use Rattle.gs_callers.proofs.Leaving.{agrees, drops, taken_by}
use Rattle.gs_callers.proofs.listening.Listening.leave.Goals as goal

pub returns-clause-agree : goal.returns-clause-agree
returns-clause-agree g c =
    let r = c.args.self.receiver in
    agrees r.params.now r.neighbour r.seat _ r.left_out r.dropped r.since r.whose r.accounts

pub returns-clause-taken : goal.returns-clause-taken
returns-clause-taken g c = λ final.
    let r = c.args.self.receiver in
    taken_by r.params.now r.neighbour r.seat _ r.left_out r.dropped r.since _ _ r.whose r.accounts c.args.self.stops final

pub returns-clause-dropped : goal.returns-clause-dropped
returns-clause-dropped g c =
    let r = c.args.self.receiver in
    drops r.params.now r.neighbour r.seat _ r.left_out r.dropped r.since r.whose r.accounts
