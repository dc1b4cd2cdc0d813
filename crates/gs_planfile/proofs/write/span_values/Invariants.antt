use Rattle.std.proofs.Common.{◌≡◌, map, take}
use Rattle.std.specs.List.{AllByRecursion}
use Rattle.toml.specs.View.{view}
use Rattle.gs_planfile.specs.Writing.{SpanFits, span_data}
use Rattle.gs_planfile.proofs.write.span_values.Given as goal

abbrev pub invariant-loop-span : goal.invariant-loop-span
invariant-loop-span l = record {
  seen : map view l.items.items ≡ map span_data (take l.span-index l.spans);
  fit : AllByRecursion SpanFits (take l.span-index l.spans);
}
