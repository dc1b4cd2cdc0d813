use Rattle.std.proofs.Common.{rules, arith, ◌≡◌, ◌≢◌, ◌≤◌, length, Option, Some, MatchOption, true, false, sym, subst, ◌∙◌}
use Rattle.std.specs.Prelude.{filter}
use Rattle.gs_board.specs.Entries.{is_of, told_from}
use Rattle.gs_board.specs.Torn.{DifferBy}
use Rattle.gs_board.specs.declared.faults.Torn.{Torn}
use Rattle.gs_board.proofs.Entering.{length-told_from}
use Rattle.gs_board.proofs.Walking.{skips, goes_on, differs, ends_long, all_same}
use Rattle.gs_board.proofs.compare.first_torn.Goals as goal

pub loop-place-preserved-then-not-is_of : goal.loop-place-preserved-then-not-is_of
loop-place-preserved-then-not-is_of c =
    let other : is_of c.args.whose c.entry-kept.result.event ≡ false = search rules in
    skips (λ k. is_of c.args.whose k.event) _ _ c.loop-place.place c.loop-place.index c.entry-kept.result c.loop-place.invariant c.entry-kept.ensures other

pub returns-then-not-is_told : goal.returns-then-not-is_told
returns-then-not-is_told c =
    let own : is_of c.args.whose c.entry-kept.result.event ≡ true = search rules in
    let differ : c.entry_told-told.result ≢ Some c.entry-kept.result = search rules in
    differs (λ k. is_of c.args.whose k.event) _ _ c.loop-place.place c.loop-place.index c.entry-kept.result c.entry_told-told.result
    c.loop-place.invariant c.entry-kept.ensures own (sym c.entry_told-told.ensures) differ

pub loop-place-preserved : goal.loop-place-preserved
loop-place-preserved c =
    let own : is_of c.args.whose c.entry-kept.result.event ≡ true = search rules in
    let same : c.entry_told-told.result ≡ Some c.entry-kept.result = search rules in
    goes_on (λ k. is_of c.args.whose k.event) _ _ c.loop-place.place c.loop-place.index c.entry-kept.result
    c.loop-place.invariant c.entry-kept.ensures own (sym c.entry_told-told.ensures ∙ same)

pub returns-in_err-entry : goal.returns-in_err-entry
returns-in_err-entry c =
    let n = length-told_from 0 c.args.journal.now c.args.replies.now c.requires in
    let end : length (told_from 0 c.args.journal.now c.args.replies.now) ≤ c.loop-place.place = omega arith in
    subst (λ (torn : Option Torn). MatchOption torn (c.args.told.now ≡ filter (λ k. is_of c.args.whose k.event) (told_from 0 c.args.journal.now c.args.replies.now)) (DifferBy c.args.told.now (filter (λ k. is_of c.args.whose k.event) (told_from 0 c.args.journal.now c.args.replies.now))))
    (sym c.from_residual.ensures)
    (all_same (λ k. is_of c.args.whose k.event) _ _ c.loop-place.place c.loop-place.index c.loop-place.invariant end (sym c.entry_told.ensures ∙ c.in_err-entry.was))

pub returns : goal.returns
returns c =
    let n = length-told_from 0 c.args.journal.now c.args.replies.now c.requires in
    let end : length (told_from 0 c.args.journal.now c.args.replies.now) ≤ c.loop-place.place = omega arith in
    ends_long (λ k. is_of c.args.whose k.event) _ _ c.loop-place.place c.loop-place.index _ c.loop-place.invariant end (search rules)
