use Rattle.std.proofs.Common.{◌∙◌, ap, fold}
use Rattle.gs_view.proofs.Steps.{publishes}
use Rattle.gs_view.proofs.Beginnings.{of_ok, publishes_one}
use Rattle.gs_view.proofs.desks.show.Goals as goal

pub publish_as-out-requires : goal.publish_as-out-requires
publish_as-out-requires g c next is =
    publishes _ _ c.args.out.desk.shown.value next c.args.snap c.requires.shown
    (is ∙ ap (λ ops. fold (λ _ op. op) c.args.out.desk.shown.value ops) c.requires.pending) c.requires.place

pub returns-clause-known : goal.returns-clause-known
returns-clause-known g c =
    let done = c.publish_as-out.ensures.succeeds tt in
    let values = (of_ok _ _ c.publish_as-out.result.1 done c.publish_as-out.ensures.values).1 in
    let rule = (of_ok _ _ c.publish_as-out.result.1 done c.publish_as-out.ensures.rule).1 in
    publishes_one _ _ c.args.out.desk.shown.value c.publish_as-out.result.0.desk.shown.value c.args.snap c.requires.shown
    (values.0 ∙ ap (λ ops. fold (λ _ op. op) c.args.out.desk.shown.value ops) c.requires.pending) rule
