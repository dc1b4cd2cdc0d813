use Rattle.std.proofs.Common.{◌≡◌, ◌<◌, ◌∙◌, ap, sym, false, arith, length, drop, List, ℕ}
use Rattle.std.specs.Prelude.{slice_index}
use Rattle.std.proofs.lemmas.List.{get_or-drop}
use Rattle.gs_trace.specs.Nodes.{is_refused, node_format}
use Rattle.gs_trace.proofs.EventsInTurn.{fault-at}
use Rattle.gs_trace.proofs.NodeEvents.{node_is_format}
use Rattle.gs_trace.proofs.node_scan.admit_events.Goals as goal

pub loop-at-preserved : goal.loop-at-preserved
loop-at-preserved c =
    let at : ℕ = c.loop-at.at in
    let bytes : List ℕ = c.args.bytes.now in
    let n = c.in_ok-at.field-0 in
    let ok = c.in_ok-at.ensures.ok in
    let below : at < length bytes = omega (arith, c.loop-at-test.true) in
    let first : slice_index (drop at bytes) 0 ≡ slice_index bytes at = get_or-drop at bytes 0 0 ∙ ap (slice_index bytes) (omega arith) in
    let allowed : node_format.refused (drop at bytes) ≡ false = ap (λ (k : ℕ). is_refused k (drop at bytes)) first ∙ c.in_ok-at.ensures.allowed in
    let some = node_is_format.some (slice_index bytes at) n ok.0 in
    record {
      inside = ok.1;
      same = sym (fault-at node_format at n bytes below ok.0 some ok.1 allowed) ∙ c.loop-at.invariant.same;
    }
