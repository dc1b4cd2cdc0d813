use Rattle.std.proofs.Common.{rules, nat_eq}
use Rattle.gs_units.proofs.Equal.{params_decided}
use Rattle.gs_units.proofs.params.NodeParamsPartialEq.eq.Goals as goal

pub returns-then-self-other-3-clause-exact : goal.returns-then-self-other-3-clause-exact
returns-then-self-other-3-clause-exact c =
    let a = c.args.self.now in
    let b = c.args.other.now in
    params_decided (nat_eq a.every b.every) a b (search rules)
