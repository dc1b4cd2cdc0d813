use Rattle.std.proofs.Common.{◌<◌, arith, length, List, subst, sym, take, ℕ}
use Rattle.std.proofs.lemmas.List.{take_more}
use Rattle.gs_skew.specs.Ranges.{AreEnds}
use Rattle.gs_world.proofs.clocks.range.Goals as goal

pub loop-v-preserved : goal.loop-v-preserved
loop-v-preserved c =
    let clocks = c.args.clocks.now in
    let v = c.loop-v.v in
    let inside : v < length clocks = omega arith in
    subst (λ (xs : List ℕ). AreEnds xs c.add.new.self.least c.add.new.self.greatest)
    (sym (take_more clocks v 0 inside))
    (c.add.ensures (take v clocks) c.loop-v.invariant)
