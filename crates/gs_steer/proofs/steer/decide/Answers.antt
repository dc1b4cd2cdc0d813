use Rattle.std.proofs.Common.{◌≡◌, ◌∙◌, rules}
use Rattle.std.specs.List.{zip}
use Rattle.gs_units.specs.declared.rate.Mode.TheVariants.{Slow, Fast}
use Rattle.gs_trigger.proofs.Candidate.{HaveMargins-zip}
use Rattle.gs_steer.specs.Modes.{mode_of}
use Rattle.gs_steer.proofs.Deciding.{fast_by_trigger, slow_by_trigger, fast_far_behind, slow_near_maximum}
use Rattle.gs_steer.proofs.steer.decide.Goals as goal

pub returns-then-is_some-clause-slow : goal.returns-then-is_some-clause-slow
returns-then-is_some-clause-slow c s one holds =
    let rule : Fast ≡ mode_of c.args.iota (zip c.args.links.now c.args.offsets.now) c.args.m c.args.l = search rules in
    rule ∙ slow_by_trigger c.args.iota c.args.m c.args.l s (zip c.args.links.now c.args.offsets.now) (HaveMargins-zip c.args.links.now c.args.offsets.now c.requires.links) one holds

pub returns-then-is_some-clause-near : goal.returns-then-is_some-clause-near
returns-then-is_some-clause-near c none near =
    let rule : Fast ≡ mode_of c.args.iota (zip c.args.links.now c.args.offsets.now) c.args.m c.args.l = search rules in
    rule ∙ slow_near_maximum c.args.iota c.args.m c.args.l (zip c.args.links.now c.args.offsets.now) none near

pub returns-then-is_some-2-clause-fast : goal.returns-then-is_some-2-clause-fast
returns-then-is_some-2-clause-fast c s one holds =
    let rule : Slow ≡ mode_of c.args.iota (zip c.args.links.now c.args.offsets.now) c.args.m c.args.l = search rules in
    rule ∙ fast_by_trigger c.args.iota c.args.m c.args.l s (zip c.args.links.now c.args.offsets.now) (HaveMargins-zip c.args.links.now c.args.offsets.now c.requires.links) one holds

pub returns-then-is_some-2-clause-far : goal.returns-then-is_some-2-clause-far
returns-then-is_some-2-clause-far c none far =
    let rule : Slow ≡ mode_of c.args.iota (zip c.args.links.now c.args.offsets.now) c.args.m c.args.l = search rules in
    rule ∙ fast_far_behind c.args.iota c.args.m c.args.l (zip c.args.links.now c.args.offsets.now) none far

pub returns-else-is_some-2-clause-fast : goal.returns-else-is_some-2-clause-fast
returns-else-is_some-2-clause-fast c s one holds =
    let rule : c.follow_maximum.result ≡ mode_of c.args.iota (zip c.args.links.now c.args.offsets.now) c.args.m c.args.l = search rules in
    rule ∙ fast_by_trigger c.args.iota c.args.m c.args.l s (zip c.args.links.now c.args.offsets.now) (HaveMargins-zip c.args.links.now c.args.offsets.now c.requires.links) one holds

pub returns-else-is_some-2-clause-slow : goal.returns-else-is_some-2-clause-slow
returns-else-is_some-2-clause-slow c s one holds =
    let rule : c.follow_maximum.result ≡ mode_of c.args.iota (zip c.args.links.now c.args.offsets.now) c.args.m c.args.l = search rules in
    rule ∙ slow_by_trigger c.args.iota c.args.m c.args.l s (zip c.args.links.now c.args.offsets.now) (HaveMargins-zip c.args.links.now c.args.offsets.now c.requires.links) one holds
