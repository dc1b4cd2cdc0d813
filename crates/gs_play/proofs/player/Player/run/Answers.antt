use Rattle.std.proofs.Common.{◌≡◌, ℕ, ◌+◌, ◌≤◌, arith, ap, sym, ◌∙◌, subst, List, length, rules}
use Rattle.std.specs.Vec.{with_items}
use Rattle.std.proofs.lemmas.List.{with_items_is}
use Rattle.gs_run.specs.Nets.{net_of}
use Rattle.gs_calendar.specs.Course.{course_of}
use Rattle.gs_seat.proofs.Aging.{fresh_window}
use Rattle.gs_piece.specs.declared.piece.Piece.{Piece}
use Rattle.gs_play.specs.inside.Pieces.{ArePiecesIn, HaveRows}
use Rattle.gs_play.specs.inside.Player.{IsPlayerAt}
use Rattle.gs_play.specs.inside.Totals.{AreTotals}
use Rattle.gs_play.specs.declared.player.Player.{Player}
use Rattle.gs_play.proofs.OneWindow.{calm_of, for_own, ready_of, run_of, some_pieces, window_of}
use Rattle.gs_play.proofs.player.Player.run.Goals as goal

pub share-some-requires : goal.share-some-requires
share-some-requires g c =
    let some = some_pieces c.args.plan.now c.args.script.now c.requires.0 c.args.self.now c.requires.1.at in
    let len = c.len.ensures in
    omega (arith, some, len)

pub run_pieces-requires-clause-ready : goal.run_pieces-requires-clause-ready
run_pieces-requires-clause-ready g c =
    let own = for_own c.args.plan.now c.args.script.now c.requires.0 c.args.n c.args.self.now c.requires.1 in
    λ κs alive. ready_of c.args.plan.now c.args.script.now c.args.self.now.quanta c.args.n c.args.self.now c.deref_mut.result.now c.deref_mut.ensures.value own

pub add_window-requires-clause-rows : goal.add_window-requires-clause-rows
add_window-requires-clause-rows g c =
    let p = c.args.plan.now in
    let s = c.args.script.now in
    let x = c.args.self.now in
    let own = for_own p s c.requires.0 c.args.n x c.requires.1 in
    let new : List Piece = c.run_pieces.new.pieces in
    let done = run_of p s x.quanta c.args.n x c.deref_mut.result.now new c.deref_mut.ensures.value c.run_pieces.ensures.count c.run_pieces.ensures.run own in
    let long : length new ≡ x.pieces.len = search rules in
    let all : c.deref.result.now ≡ new = c.deref.ensures.value ∙ with_items_is x.pieces new long in
    (s, x.size, x.quanta, calm_of p s x.quanta c.args.n x own, subst (HaveRows (net_of p) (course_of s) x.size x.quanta c.args.n) (sym all) done.1, own.at.totals)

pub hand_over-requires-clause-pieces : goal.hand_over-requires-clause-pieces
hand_over-requires-clause-pieces g c =
    let p = c.args.plan.now in
    let s = c.args.script.now in
    let x = c.args.self.now in
    let own = for_own p s c.requires.0 c.args.n x c.requires.1 in
    let new : List Piece = c.run_pieces.new.pieces in
    let done = run_of p s x.quanta c.args.n x c.deref_mut.result.now new c.deref_mut.ensures.value c.run_pieces.ensures.count c.run_pieces.ensures.run own in
    let long : length new ≡ x.pieces.len = search rules in
    let all : c.deref_mut-2.result.now ≡ new = c.deref_mut-2.ensures.value ∙ with_items_is x.pieces new long in
    (x.quanta, x.quanta + c.args.n, omega arith, own.end, window_of p s x.quanta c.args.n x own, subst (ArePiecesIn (net_of p) (course_of s) x.size x.quanta (x.quanta + c.args.n)) (sym all) done.0)

pub returns : goal.returns
returns g c = λ t is.
    let p = c.args.plan.now in
    let s = c.args.script.now in
    let net = net_of p in
    let course = course_of s in
    let x = c.args.self.now in
    let n = c.args.n in
    let own = for_own p s t n x is in
    let now = is.at.quanta in
    let new : List Piece = c.run_pieces.new.pieces in
    let done = run_of p s x.quanta n x c.deref_mut.result.now new c.deref_mut.ensures.value c.run_pieces.ensures.count c.run_pieces.ensures.run own in
    let long : length new ≡ x.pieces.len = search rules in
    let seen : c.deref.result.now ≡ new = c.deref.ensures.value ∙ with_items_is x.pieces new long in
    let all : c.deref_mut-2.result.now ≡ new = c.deref_mut-2.ensures.value ∙ with_items_is x.pieces new long in
    let added = c.add_window.ensures s x.size x.quanta (calm_of p s x.quanta n x own) (subst (HaveRows net course x.size x.quanta n) (sym seen) done.1) own.at.totals in
    let totals : AreTotals p course (x.quanta + n) c.add_window.new.self = search rules in
    let handed = c.hand_over.ensures.pieces x.quanta (x.quanta + n) (omega arith) own.end (window_of p s x.quanta n x own) (subst (ArePiecesIn net course x.size x.quanta (x.quanta + n)) (sym all) done.0) in
    let pieces : ArePiecesIn net course x.size (x.quanta + n) (x.quanta + n) c.hand_over.new.pieces = search rules in
    let last_long : length c.hand_over.new.pieces ≡ (with_items x.pieces new).len = search rules in
    let items : (with_items (with_items x.pieces new) c.hand_over.new.pieces).items ≡ c.hand_over.new.pieces = with_items_is (with_items x.pieces new) c.hand_over.new.pieces last_long in
    let many = c.hand_over.ensures.count ∙ ap length all ∙ c.run_pieces.ensures.count ∙ ap length c.deref_mut.ensures.value in
    let few = is.at.few in
    let calm = fresh_window net course x.quanta n x.safe own.at.fresh own.safe own.at.calm in
    let next : Player = record {
      pieces = with_items (with_items x.pieces new) c.hand_over.new.pieces;
      size = x.size;
      window = x.window;
      quanta = x.quanta + n;
      safe = x.safe;
      totals = c.add_window.new.self;
      buffer = c.hand_over.new.buffer;
      load = c.of_window-self.result;
    } in
    let result : IsPlayerAt p s (x.quanta + n) next = record {
      read = is.at.read;
      end = own.end;
      calm = calm.1;
      quanta = omega arith;
      size = is.at.size;
      few = subst (λ (l : List Piece). length l ≤ 64) (sym items) (omega (arith, many, few));
      window = is.at.window;
      fresh = calm.0;
      pieces = subst (ArePiecesIn net course x.size (x.quanta + n) (x.quanta + n)) (sym items) pieces;
      totals = totals;
    } in
    subst (λ (u : ℕ). IsPlayerAt p s (u + n) next) now result
