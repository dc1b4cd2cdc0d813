use Rattle.std.proofs.Common.{◌≡◌, ◌∷◌, List}
use Rattle.gs_core.specs.declared.event.NodeEvent.{NodeEvent}
use Rattle.gs_audit.proofs.NodeSteps.{same_events}
use Rattle.gs_audit.proofs.replays.replay_left.Goals as goal

pub step-requires-clause-first : goal.step-requires-clause-first
step-requires-clause-first c =
    let p = c.args.params.now in
    let s = c.args.start.now in
    let all : List NodeEvent = c.args.scan in
    let first : c.loop-event.scan ≡ c.in-Some.event ∷ c.next.new.self = c.in-Some.ensures.some in
    (p, s, all, c.next.new.self, same_events p s all _ _ c.loop-event.replaying first c.loop-event.invariant)

pub loop-event-preserved : goal.loop-event-preserved
loop-event-preserved c =
    let p = c.args.params.now in
    let s = c.args.start.now in
    let all : List NodeEvent = c.args.scan in
    let first : c.loop-event.scan ≡ c.in-Some.event ∷ c.next.new.self = c.in-Some.ensures.some in
    c.in_default-step.ensures.ok p s all c.next.new.self
    (same_events p s all _ _ c.loop-event.replaying first c.loop-event.invariant)
