use Rattle.std.proofs.Common.{◌<◌, ◌+◌, ℕ, arith, sym, subst, rules}
use Rattle.gs_play.specs.inside.Player.{HasPlayed, IsPlayerAt, IsPlayerFor}
use Rattle.gs_play.proofs.player.Player.window.Goals as goal

pub returns-clause-ok : goal.returns-clause-ok
returns-clause-ok g c = λ t less at.
    let p = c.args.plan.now in
    let s = c.args.script.now in
    let given = c.next_window.ensures.ok t less at in
    let may : IsPlayerFor p s t c.in_ok-n.n c.next_window.new.self = search rules in
    let ran = c.run.ensures t may in
    let done : IsPlayerAt p s (t + c.in_ok-n.n) c.run.new.self = search rules in
    let some = may.some in
    let now = done.quanta in
    record {
      more = omega (arith, now, some);
      at = subst (λ (u : ℕ). IsPlayerAt p s u c.run.new.self) (sym done.quanta) done;
    }
