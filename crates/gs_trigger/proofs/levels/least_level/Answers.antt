use Rattle.std.proofs.Common.{◌≡◌, ℕ, ◌≤◌, arith, true, sym}
use Rattle.std.specs.List.{zip}
use Rattle.gs_trigger.specs.inside.Sides.{TriggerAt}
use Rattle.gs_trigger.proofs.Candidate.{HaveMargins-zip, lowest_holds, none_from, none_holds}
use Rattle.gs_trigger.proofs.Exact.{trigger_level-least, trigger_level-none}
use Rattle.gs_trigger.proofs.levels.least_level.Goals as goal

pub returns-then-some_reach-clause-least : goal.returns-then-some_reach-clause-least
returns-then-some_reach-clause-least c t one holds = c.lowest_allowed-s.ensures.least t one holds.1

pub returns-then-some_reach-clause-exact : goal.returns-then-some_reach-clause-exact
returns-then-some_reach-clause-exact c =
    let xs = zip c.args.links.now c.args.offsets.now in
    let lowest = c.lowest_allowed-s.ensures in
    sym (trigger_level-least c.args.trigger c.lowest_allowed-s.result xs (HaveMargins-zip c.args.links.now c.args.offsets.now c.requires.links) lowest.first
    (lowest_holds c.args.trigger c.lowest_allowed-s.result xs lowest (c.some_reach-2.ensures.0 c.if-some_reach.true)) (λ t one holds. lowest.least t one holds.1))

-- no level at all, where the only candidate fails
never : (c : goal.Else-some_reach) → (t : ℕ) → 1 ≤ t → ¬ TriggerAt c.args.trigger (zip c.args.links.now c.args.offsets.now) t
never c =
    none_holds c.args.trigger c.lowest_allowed-s.result (zip c.args.links.now c.args.offsets.now) c.lowest_allowed-s.ensures
    (λ some. let yes : c.some_reach-2.result ≡ true = c.some_reach-2.ensures.1 some in cc (yes, c.if-some_reach.false))

pub returns-else-some_reach-clause-none : goal.returns-else-some_reach-clause-none
returns-else-some_reach-clause-none c = never c

pub returns-else-some_reach-clause-exact : goal.returns-else-some_reach-clause-exact
returns-else-some_reach-clause-exact c = sym (trigger_level-none c.args.trigger (zip c.args.links.now c.args.offsets.now) (never c))

-- nor where nobody reaches the first
never_first : (c : goal.Then-not-some_reach) → (t : ℕ) → 1 ≤ t → ¬ TriggerAt c.args.trigger (zip c.args.links.now c.args.offsets.now) t
never_first c =
    none_from c.args.trigger 1 (zip c.args.links.now c.args.offsets.now)
    (λ some. let yes : c.some_reach.result ≡ true = c.some_reach.ensures.1 some in grind (arith, yes, c.if-not-some_reach.true))

pub returns-then-not-some_reach-clause-none : goal.returns-then-not-some_reach-clause-none
returns-then-not-some_reach-clause-none c = never_first c

pub returns-then-not-some_reach-clause-exact : goal.returns-then-not-some_reach-clause-exact
returns-then-not-some_reach-clause-exact c = sym (trigger_level-none c.args.trigger (zip c.args.links.now c.args.offsets.now) (never_first c))
