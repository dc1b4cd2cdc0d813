use Rattle.std.proofs.Common.{◌∙◌, ◌≤◌, ◌+◌, arith, ap, sym, subst, vec_len, List, All}
use Rattle.std.specs.Vec.{vec_capacity}
use Rattle.gs_units.specs.Params.{AreValid}
use Rattle.gs_units.specs.declared.params.NodeParams.{NodeParams}
use Rattle.gs_board.specs.Boards.{ledger_in}
use Rattle.gs_board.specs.Slips.{Slip}
use Rattle.gs_node.specs.inside.Begun.{IsNewSeat}
use Rattle.gs_node.proofs.Issuing.{all_new, as_many_seats, new_whose}
use Rattle.gs_node.proofs.Passing.{end_as, from_timer, reasons_from, run_from}
use Rattle.gs_node.proofs.Starting.{as_many, map_as_many}
use Rattle.gs_node.proofs.serving.run.Goals as goal

pub beside-ran-requires-clause-ready : goal.beside-ran-requires-clause-ready
beside-ran-requires-clause-ready g c κs within =
    let t = ledger_in c.args.board in
    let n = as_many_seats t t.core.params.links c.args.ready.seats.items c.requires.seats in
    record {
      valid = subst (λ (p : NodeParams). AreValid p) (sym c.requires.params) c.args.board.ledger.valid;
      new_seats = subst (λ (z : List Slip). All IsNewSeat z) (sym c.requires.seats) (all_new t t.core.params.links);
      fresh_inlets = c.requires.inlets;
      count = n ∙ (sym c.requires.count ∙ sym (map_as_many g.I.Inlet.tale c.args.inlets.items));
      few = (let m = map_as_many g.I.Inlet.tale c.args.inlets.items in omega (arith, m, c.requires.count, c.args.board.ledger.valid.few));
      fresh_door = c.requires.door;
      silent = c.requires.silent;
      whose = ap (λ (s : Slip). s.whose) c.requires.timer;
      empty = ap (λ (s : Slip). s.told) c.requires.timer;
      params = ap (λ (s : Slip). s.params) c.requires.timer ∙ sym c.requires.params;
      unsent = c.requires.unsent;
    }

pub finish-requires : goal.finish-requires
finish-requires g c =
    let t = ledger_in c.args.board in
    let n = as_many_seats t t.core.params.links c.args.ready.seats.items c.requires.seats in
    let m = as_many (λ (s : Slip). s.whose) (λ (s : Slip). s.whose) c.beside-ran.result.others.items c.args.ready.seats.items c.beside-ran.ensures.ran.owners in
    let le : vec_len c.beside-ran.result.others + 1 ≤ vec_capacity c.args.ready.all = omega (arith, n, m, c.requires.count, c.requires.all.1) in
    (c.requires.all.0, le)

pub returns-clause-every : goal.returns-clause-every
returns-clause-every g c =
    let t = ledger_in c.args.board in
    c.finish.ensures.every _ (run_from _ _ _ _ (from_timer t _ _ _ _ _ c.requires.params c.requires.timer) (new_whose t _ _ c.requires.seats) c.beside-ran.ensures.ran)

pub returns-clause-done : goal.returns-clause-done
returns-clause-done g c = λ done.
    let t = ledger_in c.args.board in
    let same = from_timer t _ _ _ _ _ c.requires.params c.requires.timer in
    c.finish.ensures.done _ (run_from _ _ _ _ same (new_whose t _ _ c.requires.seats) c.beside-ran.ensures.ran) (reasons_from _ _ _ _ _ same c.beside-ran.ensures.reasons) done

pub returns-clause-end : goal.returns-clause-end
returns-clause-end g c = end_as _ _ _ _ _ _ c.beside-ran.ensures.refused (c.finish.ensures.end _ c.beside-ran.ensures.reasons)

pub returns-clause-owing : goal.returns-clause-owing
returns-clause-owing g c = c.finish.ensures.owing _ c.beside-ran.ensures.reasons
