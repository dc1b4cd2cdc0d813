use Rattle.std.proofs.Common.{suc, arith, rules}
use Rattle.gs_run.specs.Nets.{net_of}
use Rattle.gs_calendar.specs.Stale.{breach_at}
use Rattle.gs_calendar.specs.Stops.{StopsAt}
use Rattle.gs_seat.specs.inside.Freshness.{AreFresh}
use Rattle.gs_play.proofs.Places.{stops_first}
use Rattle.gs_play.proofs.staleness.look_ahead.Goals as goal

pub returns-in-Some-clause-err : goal.returns-in-Some-clause-err
returns-in-Some-clause-err c = λ course by size m u are none le.
    let net = net_of c.args.plan.now in
    let some = c.breach.ensures.some course by size m are in
    let at : StopsAt (breach_at net course (suc c.args.t)) c.in-Some.stop = search rules in
    stops_first net course c.args.t u c.in-Some.stop none le at

pub returns-in-None-clause-ok : goal.returns-in-None-clause-ok
returns-in-None-clause-ok c = λ course by size m are was v i hv hi.
    let net = net_of c.args.plan.now in
    let given = c.breach.ensures.fresh course by size m are in
    let next : AreFresh net course c.args.t (suc c.args.t) = search rules in
    let least = c.safe_until.ensures course by size m c.args.t are in
    let low = next v i hv hi in
    let high = least v i hv hi in
    let result = c.max.ensures in
    omega (arith, low, high, result)
