use Rattle.std.proofs.Common.{arith, rules, ◌≡◌, ◌<◌, ◌≤◌, length, slice_index_or}
use Rattle.gs_board.specs.Boards.{ledger_in}
use Rattle.gs_board.specs.Torn.{IsWhole}
use Rattle.gs_node.proofs.Completing.{all_whole, first_of, whole_more}
use Rattle.gs_node.proofs.ends.first_torn.Goals as goal

pub returns-in-Some : goal.returns-in-Some
returns-in-Some g c =
    let lt : c.loop-seat.seat-index < length c.args.seats.now = omega (arith, c.loop-seat-test.true) in
    let is : c.seat-item.result ≡ slice_index_or c.args.seats.now c.loop-seat.seat-index c.seat-item.result = search rules in
    first_of (ledger_in c.args.board.now) c.args.seats.now c.loop-seat.seat-index c.seat-item.result c.in-Some.torn lt is c.loop-seat.invariant c.in-Some.ensures

pub loop-seat-preserved : goal.loop-seat-preserved
loop-seat-preserved g c =
    let lt : c.loop-seat.seat-index < length c.args.seats.now = omega (arith, c.loop-seat-test.true) in
    let is : c.seat-item.result ≡ slice_index_or c.args.seats.now c.loop-seat.seat-index c.seat-item.result = search rules in
    let whole : IsWhole (ledger_in c.args.board.now) c.seat-item.result = search rules in
    whole_more (ledger_in c.args.board.now) c.args.seats.now c.loop-seat.seat-index c.seat-item.result lt is c.loop-seat.invariant whole

pub returns : goal.returns
returns g c =
    let le : length c.args.seats.now ≤ c.loop-seat.seat-index = omega (arith, c.loop-seat-test.false) in
    all_whole (ledger_in c.args.board.now) c.args.seats.now c.loop-seat.seat-index le c.loop-seat.invariant
