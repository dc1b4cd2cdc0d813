use Rattle.std.proofs.Common.{◌≡◌, length, arith, ap, sym, ◌∙◌}
use Rattle.gs_topo.specs.Graph.{Graph, neighbours_of}
use Rattle.gs_run.specs.Net.{neighbours}
use Rattle.gs_run.specs.Nets.{net_of}
use Rattle.gs_calendar.specs.Course.{course_of}
use Rattle.gs_calendar.proofs.OnTheWay.{item_is, may_send, sends_all, sends_one}
use Rattle.gs_calendar.proofs.sending.send.Goals as goal

pub send_to-requires-clause-nodes : goal.send_to-requires-clause-nodes
send_to-requires-clause-nodes c =
    let item = item_is c.args.plan.now c.topo.result.now c.args.from c.loop-to.to-index c.neighbours-to-items.result.now c.neighbours-to-items.ensures c.topo.ensures c.loop-to-test.true in
    let may = may_send c.args.plan.now c.args.script.now c.args.from _ c.args.t c.requires.read c.requires.sender c.requires.before item.0 in
    (may.sender, may.receiver)

pub send_to-requires-clause-neighbours : goal.send_to-requires-clause-neighbours
send_to-requires-clause-neighbours c =
    let item = item_is c.args.plan.now c.topo.result.now c.args.from c.loop-to.to-index c.neighbours-to-items.result.now c.neighbours-to-items.ensures c.topo.ensures c.loop-to-test.true in
    (may_send c.args.plan.now c.args.script.now c.args.from _ c.args.t c.requires.read c.requires.sender c.requires.before item.0).next

pub send_to-requires-clause-receiver : goal.send_to-requires-clause-receiver
send_to-requires-clause-receiver c =
    let item = item_is c.args.plan.now c.topo.result.now c.args.from c.loop-to.to-index c.neighbours-to-items.result.now c.neighbours-to-items.ensures c.topo.ensures c.loop-to-test.true in
    let node = (may_send c.args.plan.now c.args.script.now c.args.from _ c.args.t c.requires.read c.requires.sender c.requires.before item.0).node in
    let same = c.loop-to.invariant.grows.same in
    omega (arith, node, same, c.requires.lists)

pub send_to-requires-clause-soon : goal.send_to-requires-clause-soon
send_to-requires-clause-soon c =
    let item = item_is c.args.plan.now c.topo.result.now c.args.from c.loop-to.to-index c.neighbours-to-items.result.now c.neighbours-to-items.ensures c.topo.ensures c.loop-to-test.true in
    (may_send c.args.plan.now c.args.script.now c.args.from _ c.args.t c.requires.read c.requires.sender c.requires.before item.0).soon

pub loop-to-preserved : goal.loop-to-preserved
loop-to-preserved c =
    let item = item_is c.args.plan.now c.topo.result.now c.args.from c.loop-to.to-index c.neighbours-to-items.result.now c.neighbours-to-items.ensures c.topo.ensures c.loop-to-test.true in
    let count : length c.loop-to.waiting ≡ (net_of c.args.plan.now).nodes = c.loop-to.invariant.grows.same ∙ c.requires.lists in
    let more = sends_one c.args.plan.now c.args.script.now c.args.from _ c.args.t c.args.seq c.loop-to.to-index c.args.waiting.now c.loop-to.waiting c.send_to.new.waiting
    c.requires.read c.requires.sender c.requires.before c.requires.sent count item.0 item.1 c.loop-to.invariant.grows c.loop-to.invariant.sent c.in_ok-send_to.ensures.ok in
    record { grows = more.0; sent = more.1 }

pub returns-clause-ok : goal.returns-clause-ok
returns-clause-ok c =
    let end : length (neighbours (net_of c.args.plan.now) c.args.from) ≡ length c.neighbours-to-items.result.now = ap length (sym (c.neighbours-to-items.ensures ∙ ap (λ (h : Graph). neighbours_of h c.args.from) c.topo.ensures)) in
    sends_all c.args.plan.now (course_of c.args.script.now) c.args.from _ c.loop-to.waiting (λ j less. c.loop-to.invariant.sent j (let stop = c.loop-to-test.false in omega (arith, end, stop, less)))
