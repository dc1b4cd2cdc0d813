use Rattle.std.proofs.Common.{rules, arith, ◌≡◌, ◌<◌, ◌++◌, ◌∷◌, ◌∙◌, [], ℕ, map, length, List, Option, Some, Contains, slice_index_or, ap, sym, subst}
use Rattle.std.specs.List.Sorted.{IsStrictlyIncreasing}
use Rattle.gs_units.specs.declared.params.Link.{Link}
use Rattle.gs_units.specs.declared.params.NodeParams.{NodeParams}
use Rattle.gs_board.specs.Boards.{ledger_in}
use Rattle.gs_board.specs.Ledger.{Ledger}
use Rattle.gs_board.specs.Slips.{Slip, new_slip}
use Rattle.gs_node.proofs.Issuing.{issued_more, not_yet, seats_more}
use Rattle.gs_node.proofs.seating.issue.Goals as goal

abbrev none : Link
none = record { node = 0; comp = 0; jump = 0; kappa = 0; delta = 0 }

pub seat-requires-in-loop-link-clause-once : goal.seat-requires-in-loop-link-clause-once
seat-requires-in-loop-link-clause-once g c = λ h.
    let i = c.loop-link.link-index in
    let links = c.args.params.now.links in
    let is : slice_index_or c.as_slice-link-items.result.now i none ≡ slice_index_or links i none = ap (λ (z : List Link). slice_index_or z i none) c.loop-link.invariant.links in
    let n : length c.as_slice-link-items.result.now ≡ length links = ap length c.loop-link.invariant.links in
    let lt : i < length links = omega (arith, c.loop-link-test.true, n) in
    let up : IsStrictlyIncreasing (map (λ (l : Link). l.node) links) = subst (λ (p : NodeParams). IsStrictlyIncreasing (map (λ (l : Link). l.node) p.links)) (sym c.requires.params) c.args.board.now.ledger.valid.ascending in
    not_yet links i (slice_index_or c.as_slice-link-items.result.now i none) none up lt is
    (subst (λ (z : List (Option ℕ)). Contains z (Some (slice_index_or c.as_slice-link-items.result.now i none).node)) (ap (λ (t : Ledger). t.issued) c.loop-link.invariant.table) h)

pub loop-link-preserved : goal.loop-link-preserved
loop-link-preserved g c =
    let i = c.loop-link.link-index in
    let links = c.args.params.now.links in
    let t = ledger_in c.args.board.now in
    let link = slice_index_or c.as_slice-link-items.result.now i none in
    let is : link ≡ slice_index_or links i none = ap (λ (z : List Link). slice_index_or z i none) c.loop-link.invariant.links in
    let n : length c.as_slice-link-items.result.now ≡ length links = ap length c.loop-link.invariant.links in
    let lt : i < length links = omega (arith, c.loop-link-test.true, n) in
    let pushed : c.push.new.self.items ≡ c.loop-link.seats.items ++ c.in_ok-seat.field-0 ∷ [] = search rules in
    record {
      links = c.loop-link.invariant.links;
      table = issued_more (ledger_in c.loop-link.board) _ t links i link none lt is c.loop-link.invariant.table c.in_ok-seat.ensures.issued;
      seats = pushed ∙ (ap (λ (z : Slip). c.loop-link.seats.items ++ z ∷ []) (c.in_ok-seat.ensures.seat ∙ ap (λ (z : Ledger). new_slip z (Some link.node)) c.loop-link.invariant.table) ∙ seats_more t links i link none c.loop-link.seats.items lt is c.loop-link.invariant.seats);
    }
