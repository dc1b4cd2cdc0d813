use Rattle.std.proofs.Common.{◌∙◌, inr, subst, sym}
use Rattle.gs_stamp_run.proofs.Going.{opened}
use Rattle.gs_stamp_run.proofs.run.run_stamp.Goals as goal

pub returns-in-Ok-clause-went : goal.returns-in-Ok-clause-went
returns-in-Ok-clause-went g c =
    let left_over = c.issue_all-status.new.stamper in
    inr (
      c.in-Some.count,
      sym c.count_of.ensures ∙ c.in-Some.is,
      opened c.in-Some.count c.in-Ok.stamper.next left_over.next (g.T.Store.seen c.args.store) (g.C.Clock.left c.args.clock)
          (g.T.Store.may_leave c.into_store.result) c.issue_all-status.result (g.K.Sink.bytes c.args.out.now) (g.K.Sink.bytes c.issue_all-status.new.out)
          c.in-Ok.ensures.next c.issue_all-status.ensures.went
          (λ f left. left_over.above f (subst (λ s. g.T.Store.may_leave s f) c.into_store.ensures left)),
    )
