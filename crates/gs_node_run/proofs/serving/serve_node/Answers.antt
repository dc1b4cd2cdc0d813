use Rattle.std.proofs.Common.{arith, refl, subst, All, List}
use Rattle.std.specs.List.{sum_by}
use Rattle.std.proofs.lemmas.List.{length-map}
use Rattle.gs_board.specs.Boards.{ledger_in}
use Rattle.gs_board.specs.Slips.{Slip}
use Rattle.gs_board.specs.Torn.{IsWhole}
use Rattle.gs_node.specs.Handing.{failures_in, handed_back, handed_in}
use Rattle.gs_node_run.specs.Lines.{IsAnswerOf}
use Rattle.gs_node_run.proofs.Ended.{halt_counts, links_counted, shown, torn_differs, torn_or_whole, was_done, without_seats}
use Rattle.gs_node_run.proofs.Handed.{as_many}
use Rattle.gs_node_run.proofs.serving.serve_node.Goals as goal

pub give_back-requires-clause-inlets : goal.give_back-requires-clause-inlets
give_back-requires-clause-inlets g c =
    let many = as_many (handed_in g.C.Clock g.P.In.Inlet g.P.Asked.Inlet c.args.board c.args.inlets.items c.args.door c.args.ticks) (handed_back g.C.Clock g.P.In.Inlet g.P.Out.Outlet g.P.Asked.Inlet c.serve-end.result) _ c.serve-end.ensures.every in
    let before = length-map c.args.inlets.items (g.P.In.Inlet.tale) in
    let after = length-map c.serve-end.result.inlets.items (g.P.In.Inlet.tale) in
    let out = c.requires.inlets_out in
    omega (arith, many, before, after, out)

pub conclude-status-requires : goal.conclude-status-requires
conclude-status-requires g c =
    let t = ledger_in c.serve-end.result.board in
    record {
      torn = λ is whole. torn_differs t c.serve-end.result.seats.items _ _ c.serve-end.result.end c.serve-end.ensures.end is
          (subst (λ (seats : List Slip). All (IsWhole t) seats) c.deref.ensures.value whole);
    }

pub returns-clause-serves : goal.returns-clause-serves
returns-clause-serves g c = record {
  inlets = c.serve-end.result.inlets.items;
  outlet = c.serve-end.result.outlet;
  door = c.serve-end.result.door;
  over = handed_back g.C.Clock g.P.In.Inlet g.P.Out.Outlet g.P.Asked.Inlet c.serve-end.result;
  returned = c.give_back.ensures.back;
  inlets_are = refl;
  sent_is = refl;
  door_is = refl;
  replies_are = refl;
  ledger_is = refl;
  seats_are = refl;
  every = c.serve-end.ensures.every;
  done = λ is. c.serve-end.ensures.done (was_done c.serve-end.result.end _ c.conclude-status.result c.conclude-status.ensures.status is);
}

pub returns-clause-ended : goal.returns-clause-ended
returns-clause-ended g c = λ before low.
    let r = c.serve-end.result in
    let links = links_counted before (g.P.Ports.faults c.args.ports.now) (g.P.Ports.faults c.give_back.new.ports)
    (sum_by g.P.In.Inlet.faults r.inlets.items) (g.P.Out.Outlet.faults r.outlet) (g.P.Asked.Inlet.faults r.door) low
    c.give_back.ensures.inlet_counted c.give_back.ensures.outlet_counted c.give_back.ensures.door_counted in
    let said = c.conclude-status.ensures.said in
    record {
      shows = shown (ledger_in r.board) r.seats.items (failures_in g.C.Clock g.V.Clock g.P.In.Inlet g.P.Out.Outlet g.P.Asked.Inlet r) _ r.end c.conclude-status.result c.serve-end.ensures.end c.conclude-status.ensures.status links refl (halt_counts r.board);
      torn = torn_or_whole (ledger_in r.board) r.seats.items _ _ _ r.end c.conclude-status.result c.serve-end.ensures.end c.conclude-status.ensures.status;
      seatless = without_seats _ (handed_back g.C.Clock g.P.In.Inlet g.P.Out.Outlet g.P.Asked.Inlet r) r.seats.items _ c.conclude-status.result c.serve-end.ensures.every c.conclude-status.ensures.status;
      answer = said.0;
      answer_is = subst (λ (seats : List Slip). IsAnswerOf (ledger_in r.board) seats c.conclude-status.result said.0) c.deref.ensures.value said.1;
      said = said.2;
    }

pub returns-clause-inlets_out : goal.returns-clause-inlets_out
returns-clause-inlets_out g c =
    let many = as_many (handed_in g.C.Clock g.P.In.Inlet g.P.Asked.Inlet c.args.board c.args.inlets.items c.args.door c.args.ticks) (handed_back g.C.Clock g.P.In.Inlet g.P.Out.Outlet g.P.Asked.Inlet c.serve-end.result) _ c.serve-end.ensures.every in
    let before = length-map c.args.inlets.items (g.P.In.Inlet.tale) in
    let after = length-map c.serve-end.result.inlets.items (g.P.In.Inlet.tale) in
    let out = c.give_back.ensures.inlets_out in
    omega (arith, many, before, after, out)

pub returns-clause-returned : goal.returns-clause-returned
returns-clause-returned g c =
    let many = as_many (handed_in g.C.Clock g.P.In.Inlet g.P.Asked.Inlet c.args.board c.args.inlets.items c.args.door c.args.ticks) (handed_back g.C.Clock g.P.In.Inlet g.P.Out.Outlet g.P.Asked.Inlet c.serve-end.result) _ c.serve-end.ensures.every in
    let before = length-map c.args.inlets.items (g.P.In.Inlet.tale) in
    let after = length-map c.serve-end.result.inlets.items (g.P.In.Inlet.tale) in
    (c.serve-end.result.inlets.items, c.serve-end.result.outlet, c.serve-end.result.door, omega (arith, many, before, after), c.give_back.ensures.back)
