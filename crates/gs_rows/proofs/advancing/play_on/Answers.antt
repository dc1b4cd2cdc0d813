use Rattle.std.proofs.Common.{◌≡◌, rules, is_some, true, None}
use Rattle.gs_rows.proofs.Onward.{takes_held}
use Rattle.gs_rows.proofs.advancing.play_on.Goals as goal

pub returns-then-is_some-clause-ok : goal.returns-then-is_some-clause-ok
returns-then-is_some-clause-ok c =
    let taken = c.in_ok-passed.ensures in
    let some : is_some c.hold.new.held ≡ true = search rules in
    takes_held _ _ _ _ _ _ _ _ c.hold.new.held _ _ c.loop-world.invariant.plan c.loop-world.invariant.on c.in_ok-hold.ensures.same
    some taken.allowed taken.effect taken.fast taken.empty

pub loop-world-preserved : goal.loop-world-preserved
loop-world-preserved c =
    let taken = c.in_ok-passed.ensures in
    let some : is_some c.hold.new.held ≡ true = search rules in
    let none : c.in_ok-passed.passed ≡ None = search rules in
    let on = takes_held _ _ _ _ _ _ _ _ c.hold.new.held _ _ c.loop-world.invariant.plan c.loop-world.invariant.on c.in_ok-hold.ensures.same
    some taken.allowed taken.effect taken.fast taken.empty in
    record { plan = search rules; on = rw none at on }
