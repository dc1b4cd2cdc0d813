use Rattle.std.proofs.Common.{length, rules}
use Rattle.gs_node_run.proofs.Getting.{all_asked, got_inlets, got_outlet}
use Rattle.gs_node_run.proofs.asking.ask.Goals as goal

pub returns-in-Err-clause-some : goal.returns-in-Err-clause-some
returns-in-Err-clause-some g c = got_inlets c.args.at.now.inlets.items _ _ _ _ _ (search rules) (search rules)

pub returns-in-Err-outlet-clause-some : goal.returns-in-Err-outlet-clause-some
returns-in-Err-outlet-clause-some g c = got_inlets c.args.at.now.inlets.items _ _ _ _ _ (search rules) (search rules)

pub returns-in-Ok-door-clause-all : goal.returns-in-Ok-door-clause-all
returns-in-Ok-door-clause-all g c =
    all_asked c.args.at.now.inlets.items c.args.at.now.routes.items c.args.at.now.door (length c.ask_inlets.new.inlets.items) _ (g.P.Ports.asked c.ask_inlets.new.ports) (g.P.Ports.asked c.outlet.new.self) _
    (search rules) (search rules) (search rules) (search rules)

pub returns-in-Err-door-clause-some : goal.returns-in-Err-door-clause-some
returns-in-Err-door-clause-some g c =
    got_outlet c.args.at.now.inlets.items c.args.at.now.routes.items _ _ _ _ (g.P.Ports.asked c.ask_inlets.new.ports) _ (search rules) (search rules) (search rules)
