use Rattle.std.proofs.Common.{rules}
use Rattle.gs_units.proofs.Equal.{links_decided}
use Rattle.gs_units.proofs.params.LinksPartialEq.eq.Goals as goal

pub returns-clause-exact : goal.returns-clause-exact
returns-clause-exact c = links_decided c.eq.result c.args.self.now c.args.other.now (search rules)
