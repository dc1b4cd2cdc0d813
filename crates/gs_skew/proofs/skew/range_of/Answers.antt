use Rattle.std.proofs.Common.{◌∷◌, take}
use Rattle.std.proofs.lemmas.List.{take_more}
use Rattle.gs_skew.proofs.skew.range_of.Goals as goal

pub loop-clock-preserved : goal.loop-clock-preserved
loop-clock-preserved c =
    let more = take_more c.args.rest.now c.loop-clock.clock-index 0 c.loop-clock-test.true in
    rw more (c.add.ensures (c.args.first ∷ take c.loop-clock.clock-index c.args.rest.now) c.loop-clock.invariant)
