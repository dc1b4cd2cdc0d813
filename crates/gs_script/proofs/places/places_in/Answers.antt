use Rattle.std.proofs.Common.{◌≡◌, ◌∙◌, arith, take}
use Rattle.std.proofs.lemmas.List.{take_all}
use Rattle.gs_script.proofs.Latest.{chosen}
use Rattle.gs_script.proofs.places.places_in.Goals as goal

pub returns : goal.returns
returns c =
    let done : take c.loop-place.place-index c.args.places.now ≡ c.args.places.now = take_all c.loop-place.place-index c.args.places.now (omega arith) in
    c.loop-place.invariant ∙ rw (done, c.requires) (chosen c.args.part c.args.lines.now)
