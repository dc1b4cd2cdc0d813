use Rattle.std.proofs.Common.{◌∙◌, ap, sym, Some, None, map, length}
use Rattle.gs_core.specs.State.{State}
use Rattle.gs_board.specs.Boards.{ledger_in}
use Rattle.gs_board.specs.Slips.{new_slip}
use Rattle.gs_node.proofs.Issuing.{same_slip, same_slips}
use Rattle.gs_node.proofs.Passing.{done_from, every_from, from_board}
use Rattle.gs_node.proofs.serving.serve.Goals as goal

pub run-requires-clause-timer : goal.run-requires-clause-timer
run-requires-clause-timer g c κs within =
    c.in-Ok.ensures.timer ∙ same_slip (ledger_in c.args.board) (ledger_in c.prepare.new.board) None c.in-Ok.ensures.core c.in-Ok.ensures.begun

pub run-requires-clause-seats : goal.run-requires-clause-seats
run-requires-clause-seats g c κs within =
    let t = ledger_in c.args.board in
    let u = ledger_in c.prepare.new.board in
    c.in-Ok.ensures.seats ∙ (same_slips t u t.core.params.links c.in-Ok.ensures.core c.in-Ok.ensures.begun ∙ ap (λ (s : State). map (λ link. new_slip u (Some link.node)) s.params.links) (sym c.in-Ok.ensures.core))

pub run-requires-clause-params : goal.run-requires-clause-params
run-requires-clause-params g c κs within = c.in-Ok.ensures.params ∙ ap (λ (s : State). s.params) (sym c.in-Ok.ensures.core)

pub run-requires-clause-count : goal.run-requires-clause-count
run-requires-clause-count g c κs within = c.requires.count ∙ ap (λ (s : State). length s.params.links) (sym c.in-Ok.ensures.core)

pub returns-in-Ok-clause-every : goal.returns-in-Ok-clause-every
returns-in-Ok-clause-every g c =
    every_from _ _ _ (from_board (ledger_in c.args.board) (ledger_in c.prepare.new.board) _ _ _ c.in-Ok.ensures.core c.in-Ok.ensures.begun) c.run.ensures.every

pub returns-in-Ok-clause-done : goal.returns-in-Ok-clause-done
returns-in-Ok-clause-done g c = λ done.
    done_from _ _ _ (from_board (ledger_in c.args.board) (ledger_in c.prepare.new.board) _ _ _ c.in-Ok.ensures.core c.in-Ok.ensures.begun) (c.run.ensures.done done)

pub returns-in-Err-clause-every : goal.returns-in-Err-clause-every
returns-in-Err-clause-every g c =
    every_from _ _ _ (from_board (ledger_in c.args.board) (ledger_in c.prepare.new.board) _ _ _ c.in-Err.ensures.core c.in-Err.ensures.begun) c.without_seats.ensures.every
