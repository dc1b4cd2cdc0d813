use Rattle.std.proofs.Common.{◌≡◌, ◌∷◌, [], ◌∙◌, ap, sym, List, ℕ, length, rules}
use Rattle.std.specs.Vec.{with_items}
use Rattle.std.proofs.lemmas.List.{with_items_is}
use Rattle.gs_core.specs.declared.event.Event.{Event}
use Rattle.gs_trace.specs.Scans.{event_told}
use Rattle.gs_audit.specs.inside.Running.{IsAuditing}
use Rattle.gs_audit.proofs.Exact.{refused_is, within_is}
use Rattle.gs_audit.proofs.Onward.{same_left}
use Rattle.gs_audit.proofs.audits.audit_left.Goals as goal

pub step-requires : goal.step-requires
step-requires c =
    let p = c.args.plan.now in
    let s = c.args.start.now in
    let all : List Event = c.args.scan.events in
    let incs : List ℕ = c.next.new.incs in
    let long : length incs ≡ c.loop-next.incs.len = search rules in
    let written : (with_items c.loop-next.incs incs).items ≡ incs = with_items_is c.loop-next.incs incs long in
    let told : c.deref.result.now ≡ incs = c.deref.ensures.value ∙ written in
    let first : c.loop-next.scan.events ≡ event_told c.in-Some.next c.deref.result.now ∷ c.next.new.self.events =
    c.in-Some.ensures.some ∙ ap (λ (l : List ℕ). event_told c.in-Some.next l ∷ c.next.new.self.events) (sym told) in
    (p, s, all, c.next.new.self.events, same_left p s all _ _ c.loop-next.auditing first c.loop-next.invariant.under_way)

pub returns-in-Err : goal.returns-in-Err
returns-in-Err c =
    let p = c.args.plan.now in
    let s = c.args.start.now in
    let all : List Event = c.args.scan.events in
    let incs : List ℕ = c.next.new.incs in
    let long : length incs ≡ c.loop-next.incs.len = search rules in
    let written : (with_items c.loop-next.incs incs).items ≡ incs = with_items_is c.loop-next.incs incs long in
    let told : c.deref.result.now ≡ incs = c.deref.ensures.value ∙ written in
    let first : c.loop-next.scan.events ≡ event_told c.in-Some.next c.deref.result.now ∷ c.next.new.self.events =
    c.in-Some.ensures.some ∙ ap (λ (l : List ℕ). event_told c.in-Some.next l ∷ c.next.new.self.events) (sym told) in
    let h = same_left p s all _ _ c.loop-next.auditing first c.loop-next.invariant.under_way in
    refused_is c.refused.result c.step.new.self.index c.in-Err.why p s all c.refused.ensures (c.in-Err.ensures.err p s all c.next.new.self.events h)

pub loop-next-preserved : goal.loop-next-preserved
loop-next-preserved c =
    let p = c.args.plan.now in
    let s = c.args.start.now in
    let all : List Event = c.args.scan.events in
    let incs : List ℕ = c.next.new.incs in
    let long : length incs ≡ c.loop-next.incs.len = search rules in
    let written : (with_items c.loop-next.incs incs).items ≡ incs = with_items_is c.loop-next.incs incs long in
    let told : c.deref.result.now ≡ incs = c.deref.ensures.value ∙ written in
    let first : c.loop-next.scan.events ≡ event_told c.in-Some.next c.deref.result.now ∷ c.next.new.self.events =
    c.in-Some.ensures.some ∙ ap (λ (l : List ℕ). event_told c.in-Some.next l ∷ c.next.new.self.events) (sym told) in
    let h = same_left p s all _ _ c.loop-next.auditing first c.loop-next.invariant.under_way in
    record {
      under_way = c.in_default-step.ensures.ok p s all c.next.new.self.events h;
      nodes = search rules;
      places = ap length written ∙ (let few : length incs ≡ c.next.new.self.nodes = search rules in few);
    }

pub report-requires : goal.report-requires
report-requires c =
    let p = c.args.plan.now in
    let s = c.args.start.now in
    let all : List Event = c.args.scan.events in
    let none : c.loop-next.scan.events ≡ [] = c.in_default.ensures.none in
    (p, s, all, same_left p s all _ _ c.loop-next.auditing none c.loop-next.invariant.under_way)

pub returns : goal.returns
returns c =
    let p = c.args.plan.now in
    let s = c.args.start.now in
    let all : List Event = c.args.scan.events in
    let none : c.loop-next.scan.events ≡ [] = c.in_default.ensures.none in
    let h : IsAuditing p s all [] c.loop-next.auditing = same_left p s all _ _ c.loop-next.auditing none c.loop-next.invariant.under_way in
    within_is p s all c.in_ok-report.field-0 h.under_way.refused (c.in_ok-report.ensures.ok p s all h)
