use Rattle.std.proofs.Common.{◌≡◌, ◌<◌, ◌≤◌, ◌+◌, ◌∙◌, [], ◌∷◌, ap, sym, arith, List, length, drop}
use Rattle.std.proofs.lemmas.List.{drop_all, drop_more}
use Rattle.gs_core.specs.declared.event.Event.{Event}
use Rattle.gs_trace.specs.Scans.{event_told}
use Rattle.gs_audit.specs.inside.Running.{IsAuditing}
use Rattle.gs_audit.proofs.Exact.{refused_is, within_is}
use Rattle.gs_audit.proofs.Onward.{same_left}
use Rattle.gs_audit.proofs.audits.audit_all.Goals as goal

pub step-requires : goal.step-requires
step-requires c =
    let p = c.args.plan.now in
    let s = c.args.start.now in
    let all : List Event = c.args.events.now in
    let i = c.loop-event.event-index in
    let below : i < length all = omega (arith, c.loop-event-test.true) in
    let first : drop i all ≡ event_told c.told-next.result.0 c.told-next.result.1.now ∷ drop (i + 1) all =
    drop_more all i c.event-item.result below ∙ ap (λ (e : Event). e ∷ drop (i + 1) all) (sym c.event-item.is ∙ sym c.told-next.ensures) in
    (p, s, all, drop (i + 1) all, same_left p s all _ _ c.loop-event.auditing first c.loop-event.invariant)

pub returns-in-Err : goal.returns-in-Err
returns-in-Err c =
    let p = c.args.plan.now in
    let s = c.args.start.now in
    let all : List Event = c.args.events.now in
    let i = c.loop-event.event-index in
    let below : i < length all = omega (arith, c.loop-event-test.true) in
    let first : drop i all ≡ event_told c.told-next.result.0 c.told-next.result.1.now ∷ drop (i + 1) all =
    drop_more all i c.event-item.result below ∙ ap (λ (e : Event). e ∷ drop (i + 1) all) (sym c.event-item.is ∙ sym c.told-next.ensures) in
    let h = same_left p s all _ _ c.loop-event.auditing first c.loop-event.invariant in
    refused_is c.refused.result c.step.new.self.index c.in-Err.why p s all c.refused.ensures (c.in-Err.ensures.err p s all (drop (i + 1) all) h)

pub loop-event-preserved : goal.loop-event-preserved
loop-event-preserved c =
    let p = c.args.plan.now in
    let s = c.args.start.now in
    let all : List Event = c.args.events.now in
    let i = c.loop-event.event-index in
    let below : i < length all = omega (arith, c.loop-event-test.true) in
    let first : drop i all ≡ event_told c.told-next.result.0 c.told-next.result.1.now ∷ drop (i + 1) all =
    drop_more all i c.event-item.result below ∙ ap (λ (e : Event). e ∷ drop (i + 1) all) (sym c.event-item.is ∙ sym c.told-next.ensures) in
    let h = same_left p s all _ _ c.loop-event.auditing first c.loop-event.invariant in
    c.in_default.ensures.ok p s all (drop (i + 1) all) h

pub report-requires : goal.report-requires
report-requires c =
    let p = c.args.plan.now in
    let s = c.args.start.now in
    let all : List Event = c.args.events.now in
    let past : length all ≤ c.loop-event.event-index = omega (arith, c.loop-event-test.false) in
    (p, s, all, same_left p s all _ _ c.loop-event.auditing (drop_all c.loop-event.event-index all past) c.loop-event.invariant)

pub returns : goal.returns
returns c =
    let p = c.args.plan.now in
    let s = c.args.start.now in
    let all : List Event = c.args.events.now in
    let past : length all ≤ c.loop-event.event-index = omega (arith, c.loop-event-test.false) in
    let h : IsAuditing p s all [] c.loop-event.auditing = same_left p s all _ _ c.loop-event.auditing (drop_all c.loop-event.event-index all past) c.loop-event.invariant in
    within_is p s all c.in_ok-report.field-0 h.under_way.refused (c.in_ok-report.ensures.ok p s all h)
