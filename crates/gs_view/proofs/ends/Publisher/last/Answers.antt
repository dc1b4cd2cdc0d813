use Rattle.std.proofs.Common.{◌≡◌, ◌∷◌, ◌∙◌, List, Option, ap, sym}
use Rattle.gs_view.proofs.Beginnings.{last_place_of}
use Rattle.gs_view.specs.Lists.{last_place, last_or, or_none}
use Rattle.gs_view.specs.declared.snaps.Snap.{Snap}
use Rattle.gs_view.proofs.ends.Publisher.last.Goals as goal

pub returns : goal.returns
returns c =
    let first = c.self.inside.first in
    let snaps : (first ∷ c.in-Some.desk) ≡ c.args.self.now = ap (λ (o : Option (List Snap)). first ∷ or_none o) (sym c.in-Some.is) ∙ c.self.view_is in
    ap (λ (s : Snap). s.place) (c.last_or.ensures ∙ ap (last_or first) (sym c.shown-shown.ensures.1))
    ∙ (sym (last_place_of first c.in-Some.desk) ∙ ap (last_place 0) snaps)
