use Rattle.std.proofs.Common.{◌<◌, arith, length, refl}
use Rattle.std.proofs.lemmas.List.{take_more_set}
use Rattle.gs_trace.proofs.Spelled.{numbers_more}
use Rattle.gs_trace.proofs.numbers.read_all_u32.Goals as goal

pub loop-i-preserved : goal.loop-i-preserved
loop-i-preserved c =
    let i = c.loop-i.i in
    let below : i < length c.loop-i.numbers = omega (arith, c.loop-i-test.true, c.loop-i.auto.numbers) in
    rw (take_more_set c.loop-i.numbers i c.u32_at.result below, numbers_more 4 i c.args.bytes.now, c.loop-i.invariant, c.u32_at.ensures) refl
