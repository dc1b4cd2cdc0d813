use Rattle.std.proofs.Common.{◌≡◌, All, drop, map}
use Rattle.toml.specs.View.{view}
use Rattle.gs_planfile.specs.Texts.{KappaFits}
use Rattle.gs_planfile.specs.Lists.{each, span_of}
use Rattle.gs_planfile.proofs.Views.{after}
use Rattle.gs_planfile.proofs.lists.each_span.Given as goal

abbrev pub invariant-loop-item : goal.invariant-loop-item
invariant-loop-item l = record {
  read : each span_of (map view l.items) ≡ after l.spans.items (each span_of (map view (drop l.item-index l.items)));
  fit : All KappaFits l.spans.items;
}
