use Rattle.std.proofs.Common.{◌+◌, ◌∙◌, ap, nat_le, position}
use Rattle.gs_planfile.specs.declared.text.PlanText.{PlanText}
use Rattle.gs_run.specs.Nets.{net_of}
use Rattle.gs_seat.proofs.Looking.{stale_read}
use Rattle.gs_seat.proofs.seat.Seat.first_stale.Goals as goal

pub returns : goal.returns
returns c = λ course v by m hv is.
    let age = c.text.result.now.age in
    c.first_old.ensures
    ∙ ap (position (λ sent. nat_le (sent + age) c.args.t)) c.heard.ensures
    ∙ stale_read (net_of c.args.plan.now) course v c.args.t age c.args.self.now.node (ap (λ (t : PlanText). t.age) c.text.ensures) hv is.node
