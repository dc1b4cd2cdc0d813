use Rattle.std.proofs.Common.{◌∙◌, List, subst, sym, ℕ}
use Rattle.gs_world.specs.inside.Members.{AreSlowClocks}
use Rattle.gs_world.proofs.Seating.{all_slow}
use Rattle.gs_world.proofs.clocks.advance_clocks.Goals as goal

pub renew-requires-clause-slow : goal.renew-requires-clause-slow
renew-requires-clause-slow c =
    subst (λ (xs : List ℕ). AreSlowClocks c.args.members.now xs) (sym c.add.ensures) c.requires.slow

pub returns-then-fast-eq0 : goal.returns-then-fast-eq0
returns-then-fast-eq0 c =
    c.add.ensures
    ∙ all_slow c.args.members.now _ c.requires.slow (c.requires.none_fast c.if-fast-eq0.true)
