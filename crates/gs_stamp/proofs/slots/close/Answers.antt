use Rattle.std.proofs.Common.{◌≡◌, [], ◌∷◌, None, subst, sym}
use Rattle.std.proofs.lemmas.Result.{on_ok_weaker}
use Rattle.gs_stamp.specs.Disk.{Torn, put}
use Rattle.gs_stamp.specs.Format.{With}
use Rattle.gs_stamp.proofs.Moments.{weaker}
use Rattle.gs_stamp.proofs.Parts.{closes, closing}
use Rattle.gs_stamp.proofs.slots.close.Goals as goal

pub returns-clause-during : goal.returns-clause-during
returns-clause-during g c =
    let slot = c.args.slot in
    let old = c.args.store.now in
    weaker g.S.Store.moment g.S.Store.left_since old c.write_down.new.store _ _
    (λ f (d, may, torn). (d, may, closing slot d f (g.met.S.Store.size old d may) (c.requires d may) (subst (λ p. Torn p 1 d f) c.place.ensures torn)))
    c.write_down.ensures.during

pub returns-clause-closed : goal.returns-clause-closed
returns-clause-closed g c =
    let slot = c.args.slot in
    on_ok_weaker c.write_down.result
    (λ written f left.
    let was = written f left in
    let is = subst (λ p. f ≡ put p (0 ∷ []) was.0) c.place.ensures was.2 in
    (was.0, was.1, subst (λ l. With slot None was.0 l) (sym is) (closes slot was.0 (g.met.S.Store.size c.args.store.now was.0 was.1))))
    c.write_down.ensures.written
