use Rattle.std.proofs.Common.{◌≡◌, ◌≤◌, ◌*◌, ◌∙◌, ap, arith}
use Rattle.gs_units.specs.Rates.{q_of, r_of}
use Rattle.gs_units.specs.declared.rate.Rate.{Rate}
use Rattle.gs_plan.specs.Plans.{rate_of}
use Rattle.gs_run.proofs.PlanNumbers.{plan_has_numbers}
use Rattle.gs_settle.proofs.timing.first_time.Goals as goal

pub overflow_sub-q : goal.overflow_sub-q
overflow_sub-q c =
    let p = c.args.plan.now in
    let strong : 2 * r_of (rate_of p) ≤ q_of (rate_of p) = (plan_has_numbers p).strong in
    let r : c.r.result ≡ r_of (rate_of p) = c.r.ensures ∙ ap (λ (x : Rate). r_of x) c.rate-rate.ensures in
    let q : c.q.result ≡ q_of (rate_of p) = c.q.ensures ∙ ap (λ (x : Rate). q_of x) c.rate-rate.ensures in
    omega (arith, strong, r, q)

pub caught_up-requires : goal.caught_up-requires
caught_up-requires c =
    let p = c.args.plan.now in
    let strong : 2 * r_of (rate_of p) ≤ q_of (rate_of p) = (plan_has_numbers p).strong in
    let r : c.r.result ≡ r_of (rate_of p) = c.r.ensures ∙ ap (λ (x : Rate). r_of x) c.rate-rate.ensures in
    let q : c.q.result ≡ q_of (rate_of p) = c.q.ensures ∙ ap (λ (x : Rate). q_of x) c.rate-rate.ensures in
    let above = (rate_of p).accepted.above in
    omega (arith, strong, r, q, above)
