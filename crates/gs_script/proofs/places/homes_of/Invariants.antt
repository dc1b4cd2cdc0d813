use Rattle.std.proofs.Common.{◌≡◌, take}
use Rattle.gs_script.specs.inside.Kept.{homes_in}
use Rattle.gs_script.proofs.places.homes_of.Given as goal

abbrev pub invariant-loop-line : goal.invariant-loop-line
invariant-loop-line l = l.homes.items ≡ homes_in (take l.line-index l.lines)
