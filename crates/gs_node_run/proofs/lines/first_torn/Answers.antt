use Rattle.std.proofs.Common.{arith, rules, ◌≡◌, ◌<◌, ◌≤◌, length, slice_index_or}
use Rattle.gs_board.specs.Boards.{ledger_in}
use Rattle.gs_board.specs.Torn.{IsWhole}
use Rattle.gs_node.proofs.Completing.{all_whole, whole_more}
use Rattle.gs_node_run.proofs.Ended.{torn_at}
use Rattle.gs_node_run.proofs.lines.first_torn.Goals as goal

pub returns-in-Some-clause-some : goal.returns-in-Some-clause-some
returns-in-Some-clause-some g c =
    let lt : c.loop-place.place < length c.args.seats.now = omega (arith, c.loop-place-test.true) in
    let is : c.index-seats-place.result ≡ slice_index_or c.args.seats.now c.loop-place.place c.index-seats-place.result = search rules in
    torn_at (ledger_in c.args.board.now) c.args.seats.now c.loop-place.place c.index-seats-place.result c.in-Some.torn lt is c.loop-place.invariant c.in-Some.ensures

pub loop-place-preserved : goal.loop-place-preserved
loop-place-preserved g c =
    let lt : c.loop-place.place < length c.args.seats.now = omega (arith, c.loop-place-test.true) in
    let is : c.index-seats-place.result ≡ slice_index_or c.args.seats.now c.loop-place.place c.index-seats-place.result = search rules in
    let whole : IsWhole (ledger_in c.args.board.now) c.index-seats-place.result = search rules in
    whole_more (ledger_in c.args.board.now) c.args.seats.now c.loop-place.place c.index-seats-place.result lt is c.loop-place.invariant whole

pub returns-clause-none : goal.returns-clause-none
returns-clause-none g c =
    let le : length c.args.seats.now ≤ c.loop-place.place = omega (arith, c.loop-place-test.false) in
    all_whole (ledger_in c.args.board.now) c.args.seats.now c.loop-place.place le c.loop-place.invariant
