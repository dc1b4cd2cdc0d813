use Rattle.std.proofs.Common.{◌≡◌, ◌∙◌, arith, length, None, Some, subst, sym}
use Rattle.std.proofs.lemmas.Result.{err_from_is_err_and}
use Rattle.gs_world.specs.inside.Late.{due_in, stale_in}
use Rattle.std.proofs.lemmas.List.Quantifiers.{position-Some}
use Rattle.gs_core.specs.declared.event.Event.TheVariants.{Quantum}
use Rattle.gs_run.specs.Nets.{net_of}
use Rattle.gs_world.specs.Placed.{Placed}
use Rattle.gs_world.specs.inside.Seen.{world_in}
use Rattle.gs_run.specs.Why.{drifts, why}
use Rattle.gs_run.specs.declared.refused.Refused.TheVariants.{Drift, End, Shape}
use Rattle.gs_world.proofs.Advancing.{at_end, drift_read, drifting, else_stale, few_nodes, tick_due, wrong_count}
use Rattle.gs_world.proofs.Placing.{room_inside}
use Rattle.gs_world.proofs.world.World.admit_quantum.Goals as goal

pub returns-then-incs-len-clause-err : goal.returns-then-incs-len-clause-err
returns-then-incs-len-clause-err c =
    let a = c.self.inside in
    let nodes = room_inside a c.self.invariant in
    subst (λ (p : Placed). why (net_of p.plan) p.world (Quantum c.args.incs.now) ≡ Some Shape) c.self.view_is
    (wrong_count (net_of a.plan.now) (world_in a) c.args.incs.now (λ same. c.if-incs-len.true (same ∙ sym nodes ∙ sym c.len.ensures)))

pub returns-then-self-ge-MAX_QUANTA-clause-err : goal.returns-then-self-ge-MAX_QUANTA-clause-err
returns-then-self-ge-MAX_QUANTA-clause-err c =
    let a = c.self.inside in
    let nodes = room_inside a c.self.invariant in
    let count : length c.args.incs.now ≡ (net_of a.plan.now).nodes = c.if-incs-len.false ∙ c.len.ensures ∙ nodes in
    subst (λ (p : Placed). why (net_of p.plan) p.world (Quantum c.args.incs.now) ≡ Some End) c.self.view_is
    (at_end (net_of a.plan.now) (world_in a) c.args.incs.now count c.if-self-ge-MAX_QUANTA.true)

pub overflow_cast-result : goal.overflow_cast-result
overflow_cast-result c =
    let a = c.self.inside in
    let nodes = room_inside a c.self.invariant in
    let count : length c.args.incs.now ≡ (net_of a.plan.now).nodes = c.if-incs-len.false ∙ c.len.ensures ∙ nodes in
    let drift =
    drift_read a c.rate-rate.result.now c.lo.result c.hi.result c.args.incs.now c.first_drift.result
    c.rate-rate.ensures c.lo.ensures c.hi.ensures c.first_drift.ensures
    ∙ c.in-Some.is in
    let found = (position-Some (drifts (net_of a.plan.now)) c.args.incs.now c.in-Some.v 0 drift).0 in
    let few = few_nodes a in
    omega (arith, found, count, few)

pub returns-in-Some-clause-err : goal.returns-in-Some-clause-err
returns-in-Some-clause-err c =
    let a = c.self.inside in
    let nodes = room_inside a c.self.invariant in
    let count : length c.args.incs.now ≡ (net_of a.plan.now).nodes = c.if-incs-len.false ∙ c.len.ensures ∙ nodes in
    let drift =
    drift_read a c.rate-rate.result.now c.lo.result c.hi.result c.args.incs.now c.first_drift.result
    c.rate-rate.ensures c.lo.ensures c.hi.ensures c.first_drift.ensures
    ∙ c.in-Some.is in
    subst (λ (p : Placed). why (net_of p.plan) p.world (Quantum c.args.incs.now) ≡ Some (Drift c.in-Some.v))
    c.self.view_is
    (drifting (net_of a.plan.now) (world_in a) c.args.incs.now c.in-Some.v count c.if-self-ge-MAX_QUANTA.false drift)

pub returns-in_err-due-clause-err : goal.returns-in_err-due-clause-err
returns-in_err-due-clause-err c =
    let a = c.self.inside in
    let nodes = room_inside a c.self.invariant in
    let count : length c.args.incs.now ≡ (net_of a.plan.now).nodes = c.if-incs-len.false ∙ c.len.ensures ∙ nodes in
    let drift =
    drift_read a c.rate-rate.result.now c.lo.result c.hi.result c.args.incs.now c.first_drift.result
    c.rate-rate.ensures c.lo.ensures c.hi.ensures c.first_drift.ensures
    ∙ c.in_default.is in
    let due : due_in (net_of a.plan.now) (world_in a) ≡ Some c.in_err-due.field-0.0 =
    subst (λ (p : Placed). due_in (net_of p.plan) p.world ≡ Some c.in_err-due.field-0.0) (sym c.self.view_is)
    c.in_err-due.ensures.err in
    let refused : why (net_of a.plan.now) (world_in a) (Quantum c.args.incs.now) ≡ Some c.in_err-due.field-0.0 =
    tick_due (net_of a.plan.now) (world_in a) c.args.incs.now c.in_err-due.field-0.0 count
    c.if-self-ge-MAX_QUANTA.false drift due in
    let answer = err_from_is_err_and c.from_residual.result c.from_residual.ensures.1 in
    rw (answer.1, answer.2)
    (subst (λ (p : Placed). why (net_of p.plan) p.world (Quantum c.args.incs.now) ≡ Some c.in_err-due.field-0.0) c.self.view_is refused)

pub returns-in_err-stale-clause-err : goal.returns-in_err-stale-clause-err
returns-in_err-stale-clause-err c =
    let a = c.self.inside in
    let nodes = room_inside a c.self.invariant in
    let count : length c.args.incs.now ≡ (net_of a.plan.now).nodes = c.if-incs-len.false ∙ c.len.ensures ∙ nodes in
    let drift =
    drift_read a c.rate-rate.result.now c.lo.result c.hi.result c.args.incs.now c.first_drift.result
    c.rate-rate.ensures c.lo.ensures c.hi.ensures c.first_drift.ensures
    ∙ c.in_default.is in
    let due : due_in (net_of a.plan.now) (world_in a) ≡ None =
    subst (λ (p : Placed). due_in (net_of p.plan) p.world ≡ None) (sym c.self.view_is) c.in_ok-due.ensures.ok in
    let stale =
    subst
    (λ (p : Placed). why (net_of p.plan) p.world (Quantum c.args.incs.now) ≡ stale_in (net_of p.plan) p.world)
    c.self.view_is
    (else_stale (net_of a.plan.now) (world_in a) c.args.incs.now count c.if-self-ge-MAX_QUANTA.false drift due) in
    let answer = err_from_is_err_and c.from_residual-in_err-stale.result c.from_residual-in_err-stale.ensures.1 in
    rw (answer.1, answer.2) (stale ∙ c.in_err-stale.ensures.err)

pub returns-clause-ok : goal.returns-clause-ok
returns-clause-ok c =
    let a = c.self.inside in
    let nodes = room_inside a c.self.invariant in
    let count : length c.args.incs.now ≡ (net_of a.plan.now).nodes = c.if-incs-len.false ∙ c.len.ensures ∙ nodes in
    let drift =
    drift_read a c.rate-rate.result.now c.lo.result c.hi.result c.args.incs.now c.first_drift.result
    c.rate-rate.ensures c.lo.ensures c.hi.ensures c.first_drift.ensures
    ∙ c.in_default.is in
    let due : due_in (net_of a.plan.now) (world_in a) ≡ None =
    subst (λ (p : Placed). due_in (net_of p.plan) p.world ≡ None) (sym c.self.view_is) c.in_ok-due.ensures.ok in
    let stale =
    subst
    (λ (p : Placed). why (net_of p.plan) p.world (Quantum c.args.incs.now) ≡ stale_in (net_of p.plan) p.world)
    c.self.view_is
    (else_stale (net_of a.plan.now) (world_in a) c.args.incs.now count c.if-self-ge-MAX_QUANTA.false drift due) in
    stale ∙ c.in_ok-stale.ensures.ok
