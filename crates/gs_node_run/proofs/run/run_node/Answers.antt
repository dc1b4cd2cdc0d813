use Rattle.std.proofs.Common.{refl, sym, subst, ap, ◌≡◌, ◌∙◌, ◌++◌, List, [], inl, inr}
use Rattle.gs_net.specs.Tales.{OnTold}
use Rattle.gs_node_run.specs.Statuses.{Faults, IsLate, ShowsUnserved, count, faults}
use Rattle.gs_node_run.specs.Served.{clock_left}
use Rattle.gs_node_run.specs.inside.Told.{board_status}
use Rattle.gs_net.specs.declared.lending.Ask.{Ask}
use Rattle.gs_board.specs.Boards.{ledger_in}
use Rattle.gs_board.specs.Ledger.{Ledger}
use Rattle.gs_node_run.specs.Addresses.{asks_for}
use Rattle.gs_node_run.specs.Lending.{Borrowed}
use Rattle.gs_node_run.specs.Nodes.{asks_for_node, params_of}
use Rattle.gs_node_run.proofs.Getting.{borrowed_none}
use Rattle.gs_node_run.specs.declared.ends.Left.TheVariants as left
use Rattle.gs_node_run.proofs.Completing.{completed}
use Rattle.gs_node_run.proofs.Handed.{both_served, clock_as, handed_as}
use Rattle.gs_node_run.proofs.Unserved.{board_shows, refused_ends, unlent_shows}
use Rattle.gs_node_run.proofs.run.run_node.Goals as goal

pub returns-in-Err-clause-ports : goal.returns-in-Err-clause-ports
returns-in-Err-clause-ports g c = ([], inl refl, borrowed_none _ _)

pub returns-clause-ports : goal.returns-clause-ports
returns-clause-ports g c = ([], inl refl, borrowed_none _ _)

pub returns-in-Ok-new-clause-ports : goal.returns-in-Ok-new-clause-ports
returns-in-Ok-new-clause-ports g c =
    let ok = c.in-Ok.ensures.ok in
    let job = ok.3 in
    let all : List Ask = asks_for_node ok.1 ok.0.node in
    let same : asks_for c.in-Ok.job.addresses.inlets.items c.in-Ok.job.addresses.routes.items c.in-Ok.job.addresses.door ≡ all = λ i. asks_for (job.inlets i) (job.routes i) (job.door i) in (
      all,
      inr (ok.0, ok.1, ok.2, refl),
      subst (λ (z : List Ask). Borrowed z (g.P.Ports.asked c.args.ports.now) (g.P.Ports.asked c.run_board.new.ports) (g.P.Ports.back c.args.ports.now) (g.P.Ports.back c.run_board.new.ports)) same c.run_board.ensures.ports,
    )

pub returns-in-Ok-new-clause-served : goal.returns-in-Ok-new-clause-served
returns-in-Ok-new-clause-served g c =
    let ok = c.in-Ok.ensures.ok in
    let job = ok.3 in
    let params : (ledger_in c.in-Ok-new.board).core.params ≡ params_of ok.1 ok.0.node = ap (λ (t : Ledger). t.core.params) c.in-Ok-new.ensures.ok ∙ job.params in
    let all : List Ask = asks_for_node ok.1 ok.0.node in
    let same : asks_for c.in-Ok.job.addresses.inlets.items c.in-Ok.job.addresses.routes.items c.in-Ok.job.addresses.door ≡ all = λ i. asks_for (job.inlets i) (job.routes i) (job.door i) in
    both_served c.run_board.result.left _ _ _
    (λ ledger seats lent is. (
      ok.0,
      ok.1,
      is.0,
      ok.2,
      subst (λ (z : List Ask). g.P.Ports.asked c.run_board.new.ports ≡ OnTold (g.P.Ports.asked c.args.ports.now) (λ before. before ++ z)) same lent,
      handed_as _ _ _ _ _ _ _ _ _ is.0 params job.turns job.inlets job.door is.1,
      is.2,
    ))
    c.run_board.ensures.lent c.run_board.ensures.served

pub returns-in-Err-clause-unserved : goal.returns-in-Err-clause-unserved
returns-in-Err-clause-unserved g c =
    let ports = g.P.Ports.faults c.args.ports.now in
    let crew = g.W.Crew.faults c.args.crew.now in
    let trace = g.K.Sink.faults c.args.trace.now in
    let n : Faults = faults (g.C.Clock.faults c.args.clock) (g.V.Clock.faults c.args.view_clock) (count ports ports) (count crew crew) (count trace trace) in
    refused_ends _ _ n _ c.refuse.result c.in-Err.stop _ _ _ _ c.in-Err.ensures.err c.refuse.ensures

pub returns-clause-unserved : goal.returns-clause-unserved
returns-clause-unserved g c =
    let ok = c.in-Ok.ensures.ok in
    let ports = g.P.Ports.faults c.args.ports.now in
    let crew = g.W.Crew.faults c.args.crew.now in
    let trace = g.K.Sink.faults c.args.trace.now in
    let n : Faults = faults (g.C.Clock.faults c.in-Err-new.clock) (g.V.Clock.faults c.args.view_clock) (count ports ports) (count crew crew) (count trace trace) in
    let late : Type 0 = IsLate (g.C.Clock.left c.args.clock) (g.C.Clock.left c.in-Err-new.clock) in
    let is : c.stopped.result ≡ board_status c.in-Err-new.stop = c.stopped.ensures.status ∙ c.board_status.ensures in
    let shows : ShowsUnserved n late c.stopped.result = subst (ShowsUnserved n late) (sym is) (board_shows n _ _ _ c.in-Err-new.stop c.in-Err-new.ensures.cause) in
    inr (inl (ok.0, ok.1, ok.2, shows, c.stopped.ensures.said))

pub returns-in-Ok-new-clause-unserved : goal.returns-in-Ok-new-clause-unserved
returns-in-Ok-new-clause-unserved g c =
    let ok = c.in-Ok.ensures.ok in
    let n : Faults = faults (g.C.Clock.faults (clock_left c.run_board.result.left)) (g.V.Clock.faults c.run_board.result.view_clock)
    (count (g.P.Ports.faults c.args.ports.now) (g.P.Ports.faults c.run_board.new.ports)) (count (g.W.Crew.faults c.args.crew.now) (g.W.Crew.faults c.run_board.new.crew))
    (count (g.K.Sink.faults c.args.trace.now) (g.K.Sink.faults c.run_board.new.trace)) in
    clock_as c.run_board.result.left _ _
    (λ clock is. inr (inl (ok.0, ok.1, ok.2, unlent_shows n _ c.run_board.result.status is.0, is.1)))
    c.run_board.ensures.unlent

pub returns-in-Err-clause-completes : goal.returns-in-Err-clause-completes
returns-in-Err-clause-completes g c = completed {c = g.C.Clock} _ _ _ (left.Clock c.args.clock) _ _ c.refuse.result (returns-in-Err-clause-unserved g c) tt

pub returns-clause-completes : goal.returns-clause-completes
returns-clause-completes g c = completed {c = g.C.Clock} _ _ _ (left.Clock c.in-Err-new.clock) _ _ c.stopped.result (returns-clause-unserved g c) tt

pub returns-in-Ok-new-clause-completes : goal.returns-in-Ok-new-clause-completes
returns-in-Ok-new-clause-completes g c = completed {c = g.C.Clock} _ _ _ c.run_board.result.left _ _ c.run_board.result.status (returns-in-Ok-new-clause-unserved g c) c.run_board.ensures.ended
