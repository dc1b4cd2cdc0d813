use Rattle.std.proofs.Common.{rules}
use Rattle.gs_text.specs.Numbers.{number_of}
use Rattle.gs_text.proofs.Decimals.{number_of-every}
use Rattle.gs_text.proofs.number.read_u64.Goals as goal

pub returns-then-is_plain-clause-every : goal.returns-then-is_plain-clause-every
unfolding number_of
returns-then-is_plain-clause-every c = number_of-every c.args.text.now c.value.result (search rules)

pub returns-else-is_plain-clause-every : goal.returns-else-is_plain-clause-every
unfolding number_of
returns-else-is_plain-clause-every c = number_of-every c.args.text.now _ (search rules)
