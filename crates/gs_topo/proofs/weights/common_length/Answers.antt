use Rattle.std.proofs.Common.{rules, ◌≡◌, get_or}
use Rattle.std.proofs.lemmas.List.{take_all}
use Rattle.std.proofs.lemmas.List.Elements.{All-more}
use Rattle.gs_topo.proofs.weights.common_length.Goals as goal

pub loop-length-preserved : goal.loop-length-preserved
loop-length-preserved c =
    let here : get_or c.args.lengths.now c.loop-length.length-index 0 ≡ c.unwrap_or-common.result = search rules in
    All-more (λ length. length ≡ c.unwrap_or-common.result) c.args.lengths.now c.loop-length.length-index 0 c.loop-length-test.true c.loop-length.invariant here

pub returns : goal.returns
returns c = rw (take_all c.loop-length.length-index c.args.lengths.now c.loop-length-test.false) at c.loop-length.invariant
