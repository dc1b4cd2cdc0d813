use Rattle.std.proofs.Common.{suc, arith, rules, subst}
use Rattle.gs_run.specs.Nets.{net_of}
use Rattle.gs_calendar.specs.Course.{course_of}
use Rattle.gs_seat.specs.Seats.{IsSeatIn}
use Rattle.gs_piece.specs.Nodes.{AddsSeat, AreNodes, none_handed}
use Rattle.gs_piece.proofs.Turns.{nodes_added}
use Rattle.gs_piece.proofs.nodes.Nodes.start.Goals as goal

pub loop-v-preserved : goal.loop-v-preserved
loop-v-preserved c =
    let net = net_of c.args.plan.now in
    let course = course_of c.args.script.now in
    let seat : IsSeatIn net course c.loop-v.v 0 0 c.in_ok-start.field-0 = search rules in
    let adds : AddsSeat c.in_ok-start.field-0 c.loop-v.nodes c.push.new.self = search rules in
    let less = c.loop-v-test.true in
    let inside = c.requires.inside.1 in
    let more : AreNodes net course (none_handed 0) c.args.first (suc c.loop-v.v) 0 (λ i. 0) c.push.new.self =
    nodes_added net course c.args.first c.loop-v.v c.loop-v.nodes c.push.new.self c.in_ok-start.field-0 (omega (arith, less, inside)) adds seat c.loop-v.invariant in
    subst (λ n. AreNodes net course (none_handed 0) c.args.first n 0 (λ i. 0) c.push.new.self) (omega arith) more
