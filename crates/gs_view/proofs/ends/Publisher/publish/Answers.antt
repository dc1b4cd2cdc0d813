use Rattle.std.proofs.Common.{◌≡◌, List, ◌∷◌, Some, Option, ap, ◌∙◌, sym, subst, ◌≤◌, le_trans}
use Rattle.gs_view.proofs.Beginnings.{last_place_up}
use Rattle.gs_view.specs.Lists.{last_place, or_none}
use Rattle.gs_view.specs.declared.snaps.Snap.{Snap}
use Rattle.gs_view.proofs.ends.Publisher.publish.Goals as goal

pub publish-desk-requires : goal.publish-desk-requires
publish-desk-requires g c =
    let desk : c.self.inside.desk ≡ Some c.in-Some.desk = sym c.take.ensures.value ∙ c.in-Some.is in
    let snaps : (c.self.inside.first ∷ c.in-Some.desk) ≡ c.args.self.now =
    ap (λ (o : Option (List Snap)). c.self.inside.first ∷ or_none o) (sym desk) ∙ c.self.view_is in
    let below = subst (λ (xs : List Snap). last_place 0 xs ≤ c.args.snap.place) (sym snaps) c.requires in
    le_trans (last_place_up c.self.inside.first.place c.in-Some.desk) below
