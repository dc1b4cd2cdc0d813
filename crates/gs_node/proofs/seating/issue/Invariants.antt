use Rattle.std.proofs.Common.{◌≡◌, ◌∷◌, map, take, Some, None}
use Rattle.gs_board.specs.Boards.{ledger_in}
use Rattle.gs_board.specs.Slips.{new_slip}
use Rattle.gs_node.proofs.seating.issue.Given as goal

abbrev pub invariant-loop-link : goal.invariant-loop-link
invariant-loop-link g l = record {
  links : l.link-items ≡ l.fn.params.links;
  table : ledger_in l.board ≡ record (ledger_in l.fn.board) { issued = None ∷ map (λ x. Some x) (map (λ link. link.node) (take l.link-index l.fn.params.links)) };
  seats : l.seats.items ≡ map (λ link. new_slip (ledger_in l.fn.board) (Some link.node)) (take l.link-index l.fn.params.links);
}
