use Rattle.std.proofs.Common.{◌≡◌, sym, ◌∙◌, None, take, get_or}
use Rattle.gs_topo.specs.Faults.{edge_fault}
use Rattle.gs_topo.specs.Graph.{joined}
use Rattle.gs_topo.specs.inside.Kept.{HasFlags}
use Rattle.gs_topo.proofs.Flagging.{edges_fault-end, edges_fault-stop, edges_fault-more, joined_more}
use Rattle.gs_topo.proofs.flags.flags_of.Goals as goal

pub returns-in-Some-clause-err : goal.returns-in-Some-clause-err
returns-in-Some-clause-err c = λ _.
    let flags : HasFlags c.args.n (joined (take c.loop-i.i c.args.edges.now)) c.deref.result.now = rw c.deref.ensures.value c.loop-i.invariant.flags in
    c.loop-i.invariant.rest ∙ edges_fault-stop c.args.n c.loop-i.i c.args.edges.now (0, 0) c.in-Some.fault c.loop-i-test.true
    (sym (c.in-Some.ensures.fault (take c.loop-i.i c.args.edges.now) flags))

pub loop-i-preserved : goal.loop-i-preserved
loop-i-preserved c =
    let flags : HasFlags c.args.n (joined (take c.loop-i.i c.args.edges.now)) c.deref.result.now = rw c.deref.ensures.value c.loop-i.invariant.flags in
    let sound : edge_fault c.args.n (take c.loop-i.i c.args.edges.now) c.loop-i.i (get_or c.args.edges.now c.loop-i.i (0, 0)) ≡ None =
    sym (c.in_default.ensures.fault (take c.loop-i.i c.args.edges.now) flags) in
    record {
      flags = joined_more c.args.n c.loop-i.i c.args.edges.now (0, 0) c.flag_both_ways.new.flags.items c.loop-i-test.true
          (c.flag_both_ways.ensures (joined (take c.loop-i.i c.args.edges.now)) c.loop-i.invariant.flags);
      rest = c.loop-i.invariant.rest ∙ edges_fault-more c.args.n c.loop-i.i c.args.edges.now (0, 0) c.loop-i-test.true sound;
    }

pub returns-clause-ok : goal.returns-clause-ok
returns-clause-ok c = c.loop-i.invariant.rest ∙ edges_fault-end c.args.n c.loop-i.i c.args.edges.now c.loop-i-test.false
