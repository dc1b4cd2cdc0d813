use Rattle.std.proofs.Common.{◌≡◌, map, take}
use Rattle.std.specs.Option.{option_map_or}
use Rattle.gs_plan.specs.Edges.{own_given, span_given}
use Rattle.gs_plan.proofs.edge.edges_given.Given as goal

abbrev pub invariant-loop-span : goal.invariant-loop-span
invariant-loop-span l = l.texts.items ≡ map (λ o. option_map_or span_given o (own_given l.text)) (take l.span-index l.spans)
