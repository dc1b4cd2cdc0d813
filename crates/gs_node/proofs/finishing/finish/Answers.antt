use Rattle.std.proofs.Common.{◌∙◌, ap, sym, subst, List, All, MatchOption}
use Rattle.gs_board.specs.Boards.{ledger_in}
use Rattle.gs_board.specs.Ledger.{Ledger}
use Rattle.gs_board.specs.Slips.{Slip}
use Rattle.gs_board.specs.Torn.{IsWhole}
use Rattle.gs_node.specs.Ends.{IsFirstTorn}
use Rattle.gs_node.proofs.Ending.{by_signs, done_end, done_short, every_end, is_end, one_failed}
use Rattle.gs_node.proofs.finishing.finish.Goals as goal

pub returns-clause-end : goal.returns-clause-end
returns-clause-end g c = λ a why.
    let s = c.signs_of-signs in
    let t = ledger_in c.close.new.self in
    let torn = subst (λ (z : List Slip). MatchOption s.result.torn (All (IsWhole t) z) (IsFirstTorn t z)) c.as_slice.ensures.value s.ensures.torn in
    is_end t _ _ _ s.result _ c.choose.ensures torn (λ h. sym s.ensures.no_thread ∙ h) s.ensures.halt (λ h. why.clock_fault (s.ensures.view h)) s.ensures.length (λ h. one_failed _ _ _ _ _ _ why.inlet_fault why.door_fault why.outlet_fault (s.ensures.link h))

pub returns-clause-every : goal.returns-clause-every
returns-clause-every g c = λ a ran.
    let s = c.signs_of-signs in
    let t = ledger_in c.close.new.self in
    let torn = subst (λ (z : List Slip). MatchOption s.result.torn (All (IsWhole t) z) (IsFirstTorn t z)) c.as_slice.ensures.value s.ensures.torn in
    let first = by_signs t _ s.result _ c.choose.ensures torn in
    every_end a _ _ t _ (ap (λ (z : Ledger). z.closed) c.close.ensures.ledger) c.gather.ensures first ran

pub returns-clause-done : goal.returns-clause-done
returns-clause-done g c = λ a ran why done.
    let s = c.signs_of-signs in
    let t = ledger_in c.close.new.self in
    let torn = subst (λ (z : List Slip). MatchOption s.result.torn (All (IsWhole t) z) (IsFirstTorn t z)) c.as_slice.ensures.value s.ensures.torn in
    let first = by_signs t _ s.result _ c.choose.ensures torn in
    done_end a _ _ _ _ t _ c.gather.ensures first ran why done (s.ensures.short (done_short s.result _ c.choose.ensures done))
