use Rattle.std.proofs.Common.{◌≡◌, ◌<◌, ◌≤◌, ◌^◌, All}
use Rattle.std.specs.Iterator.Adapters.{zip_first, zip_second}
use Rattle.std.specs.Slice.Iter.{iter_rest}
use Rattle.gs_units.specs.Params.{HasMargin}
use Rattle.gs_core.specs.inside.Quiet.{is_quiet}
use Rattle.gs_core.proofs.quiet.is_quiet.Given as goal

abbrev pub invariant-loop-link : goal.invariant-loop-link
invariant-loop-link l =
    let links = iter_rest (zip_first l.link-iterator) in
    let entries = iter_rest (zip_second l.link-iterator) in
    All HasMargin links × All (λ e. e.at ≤ l.now) entries × All (λ e. e.value < 2 ^ 62) entries
    × (is_quiet l.l l.now l.links l.entries ≡ is_quiet l.l l.now links entries)
