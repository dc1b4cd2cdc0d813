use Rattle.std.proofs.Common.{rules, refl, subst, ◌≡◌, ◌∙◌, ◌++◌, length, map, Some}
use Rattle.std.specs.List.{AllZip}
use Rattle.gs_net.specs.Lending.{Holds}
use Rattle.gs_net.specs.Tales.{OnTold}
use Rattle.gs_node.specs.Handing.{HandedIn, handed_in}
use Rattle.gs_node_run.specs.Addresses.{asks_for}
use Rattle.gs_node_run.specs.Lending.{in_order}
use Rattle.gs_node_run.specs.Served.{IsHanded, Serves}
use Rattle.gs_board.specs.Boards.{ledger_in}
use Rattle.gs_node_run.proofs.Getting.{borrowed_all, borrowed_some}
use Rattle.gs_node_run.proofs.Handed.{served_as}
use Rattle.gs_node_run.proofs.run.run_board.Goals as goal

pub returns-in-Ok-clause-ports : goal.returns-in-Ok-clause-ports
returns-in-Ok-clause-ports g c =
    let r = c.serve_node.ensures.returned in
    let at = c.args.addresses.now in
    let count : length c.in-Ok.field-0.inlets.items ≡ length at.inlets.items = search rules in
    let asked : g.P.Ports.asked c.ask.new.ports ≡ OnTold (g.P.Ports.asked c.args.ports.now) (λ before. before ++ asks_for at.inlets.items at.routes.items at.door) = search rules in
    borrowed_all at.inlets.items at.routes.items at.door r.0 r.1 r.2 _ _ _ _ (r.3 ∙ count) (c.serve_node.ensures.asked ∙ asked)
    (subst (λ back. g.P.Ports.back c.serve_node.new.ports ≡ OnTold back (λ before. before ++ in_order r.0 (Some r.1) (Some r.2))) c.ask.ensures.back r.4)

pub returns-in-Err-clause-ports : goal.returns-in-Err-clause-ports
returns-in-Err-clause-ports g c =
    let o = c.in-Err.objects in
    borrowed_some _ (in_order o.inlets.items o.outlet o.door) _ (g.P.Ports.asked c.ask.new.ports) _ _ _ (search rules) c.give_back.ensures.asked
    (subst (λ back. g.P.Ports.back c.give_back.new.ports ≡ OnTold back (λ before. before ++ in_order o.inlets.items o.outlet o.door)) c.ask.ensures.back c.give_back.ensures.back)

pub returns-in-Ok-clause-ended : goal.returns-in-Ok-clause-ended
returns-in-Ok-clause-ended g c =
    served_as c.serve_node.result.left _ _ (λ ledger seats is. is (g.P.Ports.faults c.args.ports.now) c.ask.ensures.never_falls) c.serve_node.ensures.ended

pub returns-in-Ok-clause-served : goal.returns-in-Ok-clause-served
returns-in-Ok-clause-served g c =
    let at = c.args.addresses.now in
    let held = g.P.Ports.held c.args.ports.now in
    let handed : HandedIn = handed_in g.C.Clock g.P.In.Inlet g.P.Asked.Inlet c.args.board c.in-Ok.field-0.inlets.items c.in-Ok.field-0.door c.args.ticks in
    let lent : AllZip (Holds held) at.inlets.items (map g.P.In.Inlet.tale c.in-Ok.field-0.inlets.items) = search rules in
    let asked : Holds held at.door (g.P.Asked.Inlet.tale c.in-Ok.field-0.door) = search rules in
    served_as c.serve_node.result.left
    (Serves g.P.In.Inlet.tale g.P.Out.Outlet.sent g.P.Asked.Inlet.tale g.P.Asked.Inlet.replies handed (g.P.Ports.back c.ask.new.ports) (g.P.Ports.back c.serve_node.new.ports) c.serve_node.result.status)
    (λ ledger seats. (x : HandedIn) × IsHanded (ledger_in c.args.board).core.params c.args.ticks held at.inlets.items at.door x × Serves g.P.In.Inlet.tale g.P.Out.Outlet.sent g.P.Asked.Inlet.tale g.P.Asked.Inlet.replies x (g.P.Ports.back c.args.ports.now) (g.P.Ports.back c.serve_node.new.ports) c.serve_node.result.status ledger seats)
    (λ ledger seats is. (
      handed,
      record { params_are = refl; ticks_are = refl; start = c.requires.start; inlets = lent; door_holds = asked },
      subst (λ back. Serves g.P.In.Inlet.tale g.P.Out.Outlet.sent g.P.Asked.Inlet.tale g.P.Asked.Inlet.replies handed back (g.P.Ports.back c.serve_node.new.ports) c.serve_node.result.status ledger seats) c.ask.ensures.back is,
    ))
    c.serve_node.ensures.serves
