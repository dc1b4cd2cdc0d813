use Rattle.std.proofs.Common.{◌≡◌, OnOk, List, ℕ, subst}
use Rattle.gs_gen.proofs.Joining.{record_whole}
use Rattle.gs_gen.proofs.records.write_record.Goals as goal

pub returns : goal.returns
returns c =
    subst (λ (t : List ℕ). OnOk c.end.result (c.end.new.self ≡ t))
    (record_whole c.args.text.now c.args.word.now c.loop-i.text c.args.numbers.now c.loop-i.i c.loop-i-test.false c.loop-i.invariant)
    c.end.ensures.ok
