use Rattle.std.proofs.Common.{◌<◌, ◌≤◌, ◌∙◌, ◌+◌, arith}
use Rattle.std.proofs.lemmas.Result.{on_ok_weaker}
use Rattle.gs_stamp.specs.Format.{raised, stamped}
use Rattle.gs_stamp.specs.Slots.{top_of}
use Rattle.gs_stamp.proofs.Known.{agree, stamped_high, stamped_low, unchanged}
use Rattle.gs_stamp.proofs.slots.cover.Goals as goal

pub returns-then-stamp-ceiling-clause-bytes : goal.returns-then-stamp-ceiling-clause-bytes
returns-then-stamp-ceiling-clause-bytes g c =
    let low : c.args.stamp < top_of c.args.slots = omega (arith, c.if-stamp-ceiling.true, c.ceiling.ensures) in
    unchanged (stamped c.args.stamp) (g.S.Store.seen c.args.store.now) (λ d told. stamped_low c.args.slots c.args.stamp d (c.requires.known d (g.met.S.Store.seen_may_stay c.args.store.now d told)) low)

pub returns-clause-bytes : goal.returns-clause-bytes
returns-clause-bytes g c =
    let high : top_of c.args.slots ≤ c.args.stamp = omega (arith, c.if-stamp-ceiling.false, c.ceiling.ensures) in
    on_ok_weaker c.raise.result
    (λ is. is ∙ agree (raised (c.args.stamp + 1048576)) (stamped c.args.stamp) (g.S.Store.seen c.args.store.now)
    (λ d told. stamped_high c.args.slots c.args.stamp d (c.requires.known d (g.met.S.Store.seen_may_stay c.args.store.now d told)) high))
    c.raise.ensures.bytes
