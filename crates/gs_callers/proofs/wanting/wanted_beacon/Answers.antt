use Rattle.std.proofs.Common.{◌∙◌, ap}
use Rattle.gs_callers.specs.Wanted.{only_wanted}
use Rattle.gs_callers.proofs.Spelled.{only_wanted_are, wanted_passes}
use Rattle.gs_callers.proofs.wanting.wanted_beacon.Goals as goal

pub returns-clause-wanted : goal.returns-clause-wanted
returns-clause-wanted c =
    only_wanted_are _ _ _ _ (c.only_wanted.ensures.value ∙ ap (only_wanted c.args.params.now c.args.neighbour) c.spelled_by.ensures.value)

pub returns-clause-every_wanted : goal.returns-clause-every_wanted
returns-clause-every_wanted c = λ b w.
    (c.only_wanted.ensures.value ∙ ap (only_wanted c.args.params.now c.args.neighbour) c.spelled_by.ensures.value) ∙ wanted_passes _ _ _ b w
