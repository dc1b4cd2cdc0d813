use Rattle.std.proofs.Common.{All}
use Rattle.std.specs.List.{zip}
use Rattle.std.specs.Iterator.Adapters.{zip_first, zip_second}
use Rattle.std.specs.Slice.Iter.{iter_rest}
use Rattle.gs_units.specs.Offsets.{IsOffset}
use Rattle.gs_units.specs.Params.{HasMargin}
use Rattle.gs_trigger.proofs.Passes.{AsTheRest}
use Rattle.gs_trigger.proofs.levels.some_reach.Given as goal

abbrev pub invariant-loop-link : goal.invariant-loop-link
invariant-loop-link l =
    let links = iter_rest (zip_first l.link-iterator) in
    let offsets = iter_rest (zip_second l.link-iterator) in
    All HasMargin links × All IsOffset offsets × AsTheRest l.trigger l.s (zip l.links l.offsets) (zip links offsets)
