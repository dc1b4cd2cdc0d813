use Rattle.std.proofs.Common.{◌<◌, ◌∙◌, sym, refl, arith, length}
use Rattle.std.specs.Prelude.{slice_index}
use Rattle.gs_trace.specs.Worlds.{world_format}
use Rattle.gs_trace.proofs.EventsInTurn.{fault-at}
use Rattle.gs_trace.proofs.WorldEvents.{world_is_format}
use Rattle.gs_trace.proofs.scan.admit_events.Goals as goal

pub loop-at-preserved : goal.loop-at-preserved
loop-at-preserved c =
    let at = c.loop-at.at in
    let n = c.in_ok-at.field-0 in
    let ok = c.in_ok-at.ensures.ok in
    let below : at < length c.args.bytes.now = omega (arith, c.loop-at-test.true) in
    let some = (world_is_format c.args.nodes).some (slice_index c.args.bytes.now at) n ok.0 in
    record {
      inside = ok.1;
      same = sym (fault-at (world_format c.args.nodes) at n c.args.bytes.now below ok.0 some ok.1 refl) ∙ c.loop-at.invariant.same;
    }
