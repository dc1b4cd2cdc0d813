use Rattle.std.proofs.Common.{◌≡◌, ◌+◌, arith, ◌++◌, ◌∷◌, [], rules}
use Rattle.gs_settle.specs.Plays.{first_clock}
use Rattle.gs_settle.proofs.Marking.{all_within}
use Rattle.gs_settle.proofs.Timely.{times_more}
use Rattle.gs_settle.proofs.settling.first_clocks.Goals as goal

pub loop-v-preserved : goal.loop-v-preserved
loop-v-preserved c =
    let h = c.loop-v.invariant in
    let clock = c.first_clock.result in
    let pushed : c.push.new.self.items ≡ c.loop-v.clocks.items ++ clock ∷ [] = search rules in
    let value = times_more (first_clock c.args.gamma c.args.nodes) c.loop-v.v clock c.loop-v.clocks.items c.push.new.self.items h.value
    c.first_clock.ensures.value pushed in
    record { value = value; within = all_within c.args.gamma c.args.nodes (c.loop-v.v + 1) c.push.new.self.items (let t = c.loop-v-test.true in omega (arith, t)) value }
