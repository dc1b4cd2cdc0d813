use Rattle.std.proofs.Common.{◌+◌, ◌*◌, ◌/◌, arith, min, length}
use Rattle.std.proofs.lemmas.Result.{on_ok_weaker}
use Rattle.gs_run.specs.Nets.{net_of}
use Rattle.gs_calendar.specs.Course.{course_of}
use Rattle.gs_calendar.proofs.OnTheWay.{neighbour_is}
use Rattle.gs_play.proofs.Giving.{piece_of, pieces_took}
use Rattle.gs_play.proofs.handing.give.Goals as goal

pub bounds-pieces-to : goal.bounds-pieces-to
bounds-pieces-to c =
    let are = c.requires.pieces.6 in
    let all = are.all in
    let hv = (neighbour_is (net_of c.args.plan.now) c.args.from c.args.to c.requires.neighbours).0 in
    (piece_of c.args.size (length c.args.pieces.now) c.args.to c.requires.size (omega (arith, all, hv))).few

pub take_over-requires-clause-piece : goal.take_over-requires-clause-piece
take_over-requires-clause-piece c =
    let net = net_of c.args.plan.now in
    let course = course_of c.args.script.now in
    let r = c.requires.pieces in
    let size = c.args.size in
    let k = c.args.to / size in
    let are = r.6 in
    let all = are.all in
    let hv = (neighbour_is net c.args.from c.args.to c.requires.neighbours).0 in
    let at = piece_of size (length c.args.pieces.now) c.args.to c.requires.size (omega (arith, all, hv)) in
    let high = at.high in
    (r.0, k * size, min net.nodes (k * size + size), r.1, r.2, r.3, r.4, at.low, omega (arith, high, hv), r.5, are.each k c.index-pieces-to.result at.few)

pub returns-clause-pieces : goal.returns-clause-pieces
returns-clause-pieces c = λ by m t end window sent are.
    let net = net_of c.args.plan.now in
    let course = course_of c.args.script.now in
    let size = c.args.size in
    let k = c.args.to / size in
    let all = are.all in
    let hv = (neighbour_is net c.args.from c.args.to c.requires.neighbours).0 in
    let at = piece_of size (length c.args.pieces.now) c.args.to c.requires.size (omega (arith, all, hv)) in
    let high = at.high in
    on_ok_weaker c.take_over.result (λ is. pieces_took net course by size m t c.args.from c.args.to k c.args.pieces.now c.take_over.new.self at is are)
    (c.take_over.ensures by (k * size) (min net.nodes (k * size + size)) m t end window at.low (omega (arith, high, hv)) sent (are.each k c.index-pieces-to.result at.few))
