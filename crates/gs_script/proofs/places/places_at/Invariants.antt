use Rattle.std.proofs.Common.{◌≡◌, drop}
use Rattle.gs_script.specs.inside.Kept.{home, is_same, latest}
use Rattle.gs_script.proofs.places.places_at.Given as goal

abbrev pub invariant-loop-i : goal.invariant-loop-i
invariant-loop-i l = l.items.items ≡ latest (λ s. is_same (home s) l.who) l.i (drop l.i l.lines)
