use Rattle.std.proofs.Common.{◌+◌, ◌*◌, true, false, get_or-set_other}
use Rattle.std.proofs.lemmas.Nat.{same_from_place}
use Rattle.gs_topo.proofs.flags.set_flag.Goals as goal

pub returns-clause-others : goal.returns-clause-others
returns-clause-others c = λ a b ha hb other. get_or-set_other c.args.flags.now.items (c.args.v * c.args.side + c.args.w) (a * c.args.side + b) true false
    (λ e. other (same_from_place a b c.args.v c.args.w c.args.side hb c.requires.nodes.1 e))
