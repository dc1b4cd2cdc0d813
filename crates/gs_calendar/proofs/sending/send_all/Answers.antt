use Rattle.std.proofs.Common.{◌≡◌, ◌<◌, length, rules, arith, ◌∙◌}
use Rattle.std.proofs.lemmas.List.{get_or_default}
use Rattle.gs_run.specs.Nets.{net_of}
use Rattle.gs_calendar.specs.Calendar.{first_turn, turn}
use Rattle.gs_calendar.specs.Course.{course_of}
use Rattle.gs_calendar.proofs.Growing.{grows_on}
use Rattle.gs_calendar.proofs.InTurn.{sent_one_more, turn_one_more}
use Rattle.gs_calendar.proofs.Known.{gap_asked}
use Rattle.gs_calendar.proofs.sending.send_all.Goals as goal

pub loop-v-preserved : goal.loop-v-preserved
loop-v-preserved c =
    let net = net_of c.args.plan.now in
    let course = course_of c.args.script.now in
    let loop = c.loop-v in
    let less = c.loop-v-test.true in
    let counts = c.requires.counts.0 in
    let node : loop.v < net.nodes = omega (arith, less, counts) in
    let before : c.index-turns-v.result ≡ turn net course loop.v c.args.t = c.index-turns-v.is ∙ get_or_default c.args.turns.now loop.v c.index-turns-v.result first_turn less ∙ c.requires.turns loop.v node in
    let turned = c.turn_after-after.ensures course loop.v (gap_asked net course c.args.t loop.v c.args.ahead.now _ c.requires.ahead node) before in
    let inside : loop.v < length loop.next = search rules in
    record {
      grows = grows_on net course c.args.t c.args.waiting.now loop.waiting c.send_given.new.waiting loop.invariant.grows c.in_ok-send_given.ensures.grows;
      turns = turn_one_more net course c.args.t loop.v loop.next c.turn_after-after.result inside turned loop.invariant.turns;
      sent = sent_one_more net course c.args.t loop.v loop.waiting c.send_given.new.waiting c.in_ok-send_given.ensures.grows c.in_ok-send_given.ensures.ok loop.invariant.sent;
    }

pub returns-clause-sent : goal.returns-clause-sent
returns-clause-sent c = λ from less. c.loop-v.invariant.sent from (omega (arith, less, c.loop-v-test.false, c.requires.counts))
