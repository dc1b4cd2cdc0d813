use Rattle.std.proofs.Common.{ℕ, suc, ◌≤◌, arith, sym, subst, rules}
use Rattle.std.proofs.lemmas.Result.{err_from_is_err_and}
use Rattle.gs_run.specs.Nets.{net_of}
use Rattle.gs_calendar.specs.Course.{course_of}
use Rattle.gs_calendar.specs.Stale.{breach_upto}
use Rattle.gs_calendar.specs.Stops.{StopsAt}
use Rattle.gs_seat.specs.inside.Freshness.{AreFresh}
use Rattle.gs_piece.specs.Nodes.{none_handed}
use Rattle.gs_play.specs.inside.Pieces.{ArePiecesIn}
use Rattle.gs_play.proofs.OneWindow.{at_own}
use Rattle.gs_play.proofs.player.Player.next_window.Goals as goal

pub returns-in_err-self-clause-err : goal.returns-in_err-self-clause-err
returns-in_err-self-clause-err c = λ t less at.
    let p = c.args.plan.now in
    let s = c.args.script.now in
    let net = net_of p in
    let course = course_of s in
    let x = c.args.self.now in
    let own = at_own p s t x at in
    let now = at.quanta in
    let are : ArePiecesIn net course x.size x.quanta x.quanta c.deref.result.now = subst (ArePiecesIn net course x.size x.quanta x.quanta) (sym c.deref.ensures.value) own.pieces in
    let given = c.look_ahead.ensures.err course (none_handed x.quanta) x.size x.quanta s.quanta are own.calm (omega (arith, less, now)) in
    let stop : StopsAt (breach_upto net course s.quanta) c.in_err-self.field-0.0 = search rules in
    let answer = err_from_is_err_and c.from_residual.result c.from_residual.ensures.1 in
    rw (answer.1, answer.2) stop

pub returns-clause-ok : goal.returns-clause-ok
returns-clause-ok c = λ t less at.
    let p = c.args.plan.now in
    let s = c.args.script.now in
    let net = net_of p in
    let course = course_of s in
    let x = c.args.self.now in
    let own = at_own p s t x at in
    let now = at.quanta in
    let are : ArePiecesIn net course x.size x.quanta x.quanta c.deref.result.now = subst (ArePiecesIn net course x.size x.quanta x.quanta) (sym c.deref.ensures.value) own.pieces in
    let given = c.look_ahead.ensures.ok course (none_handed x.quanta) x.size x.quanta are own.fresh in
    let fresh : AreFresh net course x.quanta c.in_ok-self.field-0 = search rules in
    let later : suc x.quanta ≤ c.in_ok-self.field-0 = search rules in
    let longest = at.window in
    let all = c.quanta.ensures.value in
    let first = c.min-n.ensures in
    let result = c.min.ensures in
    record {
      at = record {
        read = at.read;
        end = at.end;
        calm = at.calm;
        quanta = at.quanta;
        size = at.size;
        few = at.few;
        window = at.window;
        fresh = subst (λ (u : ℕ). AreFresh net course u c.in_ok-self.field-0) now fresh;
        pieces = at.pieces;
        totals = at.totals;
      };
      some = omega (arith, result, first, longest, all, less, now, later);
      end = omega (arith, result, first, all, less, now);
      window = omega (arith, result, first, longest);
      safe = omega (arith, result, now, later);
    }
