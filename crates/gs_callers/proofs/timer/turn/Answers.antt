use Rattle.std.proofs.Common.{◌≡◌, ◌∙◌, ◌++◌, ◌∷◌, [], refl, Some, List, ap}
use Rattle.gs_board.specs.declared.told.Told.{Told}
use Rattle.gs_callers.proofs.Steps.{cut_more, in_step_more, on_err_both, on_ok_both}
use Rattle.gs_callers.proofs.timer.turn.Goals as goal

pub returns-in-Ok-clause-ok : goal.returns-in-Ok-clause-ok
returns-in-Ok-clause-ok g c =
    let r = c.in-Ok.receipt in
    let k : Told = record { place = r.place; event = r.event; ticked = Some r.reply } in
    let more : c.tick_locked.new.seat.told ≡ c.args.seat.now.told ++ k ∷ [] = c.in-Ok.ensures.ok ∙ ap (λ (z : List Told). z ++ k ∷ []) c.has_room.ensures.told in
    on_ok_both c.tell.result _ _ _ (λ sent shown. in_step_more c.args.links.now c.args.seat.now c.tick_locked.new.seat _ _ _ _ k r.reply more (c.in-Ok.ensures.same.begun ∙ c.has_room.ensures.same.begun) refl c.requires.step sent shown) c.tell.ensures.sent c.tell.ensures.shown

pub returns-in-Ok-clause-err : goal.returns-in-Ok-clause-err
returns-in-Ok-clause-err g c =
    let r = c.in-Ok.receipt in
    let k : Told = record { place = r.place; event = r.event; ticked = Some r.reply } in
    let more : c.tick_locked.new.seat.told ≡ c.args.seat.now.told ++ k ∷ [] = c.in-Ok.ensures.ok ∙ ap (λ (z : List Told). z ++ k ∷ []) c.has_room.ensures.told in
    on_err_both c.tell.result _ _ _ (λ sent shown. cut_more c.args.links.now c.args.seat.now c.tick_locked.new.seat _ _ _ _ k r.reply more (c.in-Ok.ensures.same.begun ∙ c.has_room.ensures.same.begun) refl c.requires.step sent shown) c.tell.ensures.cut c.tell.ensures.kept
