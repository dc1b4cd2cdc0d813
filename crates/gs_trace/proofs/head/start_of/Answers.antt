use Rattle.std.proofs.Common.{◌∙◌, ap}
use Rattle.std.proofs.lemmas.List.{take_rest}
use Rattle.gs_trace.specs.Numbers.{numbers_at}
use Rattle.gs_trace.proofs.head.start_of.Goals as goal

pub returns : goal.returns
returns c =
    let hw = c.from_vec.ensures ∙ c.in_ok-hw.ensures ∙ ap (numbers_at 8 c.args.nodes) (take_rest c.args.bytes.now 24) in
    λ i. record { l0 = c.u64_at.ensures i; hw = hw i }
