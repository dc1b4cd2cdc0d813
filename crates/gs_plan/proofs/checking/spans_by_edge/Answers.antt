use Rattle.std.proofs.Common.{◌∙◌, ◌≡◌, ap, arith, length, refl, replicate, None, get_or, take, false}
use Rattle.gs_planfile.specs.declared.text.EdgeSpan.{EdgeSpan}
use Rattle.gs_plan.specs.Faults.{is_bad_span}
use Rattle.gs_plan.proofs.Chain.{spans-more}
use Rattle.gs_plan.proofs.SpanTable.{no_spans, table_next}
use Rattle.gs_plan.proofs.checking.spans_by_edge.Goals as goal

abbrev zeros : EdgeSpan
zeros = record { a = 0; b = 0; delay_min = 0; delay_max = 0; kappa = None }

pub loop-i-init : goal.loop-i-init
loop-i-init c = record {
  rest = refl;
  table = c.in_ok-found.ensures ∙ ap (λ es. replicate (length es) None) c.edges.ensures.value ∙ no_spans c.args.topo.now;
  few = omega arith;
}

pub loop-i-preserved : goal.loop-i-preserved
loop-i-preserved c =
    let free : get_or c.loop-i.found.items c.in-Some.e None ≡ None = rw c.deref.ensures.value at c.in-Some.ensures.free in
    let good : is_bad_span c.args.text.now.version c.args.topo.now (take c.loop-i.i c.as_slice-spans.result.now) (get_or c.as_slice-spans.result.now c.loop-i.i zeros) ≡ false =
    c.in-Some.ensures.bad (take c.loop-i.i c.as_slice-spans.result.now) (c.deref.ensures.value ∙ c.loop-i.invariant.table) in
    let next = table_next c.args.topo.now c.as_slice-spans.result.now c.loop-i.i c.in-Some.e c.loop-i.found.items zeros c.edges.ensures.graph c.loop-i-test.true c.loop-i.invariant.table c.in-Some.ensures.edge free in
    record {
      rest = c.loop-i.invariant.rest ∙ spans-more c.args.text.now.version c.args.topo.now c.loop-i.i c.as_slice-spans.result.now zeros c.loop-i-test.true good;
      table = next.0;
      few = omega (arith, next.1, c.loop-i.invariant.few);
    }
