use Rattle.std.proofs.Common.{rules, ◌≡◌}
use Rattle.gs_topo.specs.Walks.{diameter_of}
use Rattle.gs_topo.proofs.Tables.{at_most_diameter}
use Rattle.gs_topo.proofs.topology.Topology.diameter.Goals as goal

pub returns-clause-most : goal.returns-clause-most
returns-clause-most c = λ v w hv hw.
    let value : c.from.result ≡ diameter_of c.args.self.now = search rules in
    rw value (at_most_diameter c.args.self.now v w hv hw)
