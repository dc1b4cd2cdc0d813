use Rattle.std.proofs.Common.{◌≡◌, ◌∙◌, ◌<◌, ℕ, ap, subst, List, length, slice_index_or}
use Rattle.gs_script.specs.inside.Kept.{is_same}
use Rattle.gs_script.specs.declared.line.Who.{Who}
use Rattle.gs_script.proofs.Latest.{home_at}
use Rattle.gs_script.proofs.places.is_kept_by.Goals as goal

pub returns : goal.returns
returns c = λ lines l same.
    c.is_same.ensures ∙ ap (λ (w : Who). is_same w c.args.who) (home_at c.args.homes.now lines c.args.i l _ same c.requires)
