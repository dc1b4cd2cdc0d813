use Rattle.std.proofs.Common.{◌≡◌, filter, take}
use Rattle.gs_script.specs.inside.Kept.{is_at, is_in}
use Rattle.gs_script.proofs.places.places_in.Given as goal

abbrev pub invariant-loop-place : goal.invariant-loop-place
invariant-loop-place l = l.items.items ≡ filter (is_at (is_in l.part) l.lines) (take l.place-index l.places)
