use Rattle.std.proofs.Common.{rules, ◌≡◌, ◌<◌, suc, arith, ◌∙◌, length, length-set, get_or-set_other}
use Rattle.gs_run.specs.Nets.{net_of}
use Rattle.gs_calendar.specs.Course.{course_of}
use Rattle.gs_calendar.specs.inside.Coming.{IsAhead}
use Rattle.gs_calendar.proofs.Known.{each_set}
use Rattle.gs_calendar.proofs.ahead.go_on.Goals as goal

pub loop-v-preserved : goal.loop-v-preserved
loop-v-preserved c =
    let v = c.loop-v.v in
    let was = c.loop-v.invariant in
    let count = was.count in
    let all = c.requires.ahead.count in
    let less = c.loop-v-test.true in
    let nodes : c.nodes-v-end.result ≡ (net_of c.args.plan.now).nodes = search rules in
    let inside : v < length c.loop-v.ahead = omega (arith, count, all, less, nodes) in
    record {
      count = length-set c.loop-v.ahead v c.next.result ∙ count;
      done = each_set (λ u a. IsAhead (course_of c.args.script.now) u (suc c.args.now) a) c.loop-v.ahead v c.next.result inside c.next.ensures was.done;
      rest = λ u d h. get_or-set_other c.loop-v.ahead v u c.next.result d (λ e. omega (arith, e, h)) ∙ was.rest u d (omega (arith, h));
    }
