use Rattle.gs_run.specs.Nets.{net_of}
use Rattle.gs_record.proofs.Recording.{refused_is_breach}
use Rattle.gs_record.proofs.record.admit.Goals as goal

pub returns-in-Err-Stale-clause-stop : goal.returns-in-Err-Stale-clause-stop
returns-in-Err-Stale-clause-stop c =
    refused_is_breach (net_of c.args.world.now.plan) c.args.world.now.world c.args.event.now c.in-Err-Stale.field-0
    c.requires (c.in-Err-Stale.ensures.err (λ e. absurd (let is = c.in-Err-Stale.field-0-is in cc)))
