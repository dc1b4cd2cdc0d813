use Rattle.std.proofs.Common.{◌≡◌, ◌<◌, ◌+◌, ◌∷◌, arith, List, length, drop, get_or}
use Rattle.std.proofs.lemmas.List.{drop_more}
use Rattle.gs_core.specs.declared.event.NodeEvent.{NodeEvent}
use Rattle.gs_core.specs.declared.event.NodeEvent.TheVariants.{Tick}
use Rattle.gs_audit.proofs.NodeSteps.{same_events}
use Rattle.gs_audit.proofs.replays.replay_all.Goals as goal

pub step-requires-clause-first : goal.step-requires-clause-first
step-requires-clause-first c =
    let p = c.args.params.now in
    let s = c.args.start.now in
    let all : List NodeEvent = c.args.events.now in
    let i = c.loop-event.event-index in
    let below : i < length all = omega (arith, c.loop-event-test.true) in
    let first : drop i all ≡ get_or all i (Tick 0) ∷ drop (i + 1) all = drop_more all i (Tick 0) below in
    (p, s, all, drop (i + 1) all, same_events p s all _ _ c.loop-event.replaying first c.loop-event.invariant)

pub returns-in-Err : goal.returns-in-Err
returns-in-Err c =
    let p = c.args.params.now in
    let s = c.args.start.now in
    let all : List NodeEvent = c.args.events.now in
    let i = c.loop-event.event-index in
    let below : i < length all = omega (arith, c.loop-event-test.true) in
    let first : drop i all ≡ get_or all i (Tick 0) ∷ drop (i + 1) all = drop_more all i (Tick 0) below in
    c.in-Err.ensures.err p s all (drop (i + 1) all)
    (same_events p s all _ _ c.loop-event.replaying first c.loop-event.invariant)

pub loop-event-preserved : goal.loop-event-preserved
loop-event-preserved c =
    let p = c.args.params.now in
    let s = c.args.start.now in
    let all : List NodeEvent = c.args.events.now in
    let i = c.loop-event.event-index in
    let below : i < length all = omega (arith, c.loop-event-test.true) in
    let first : drop i all ≡ get_or all i (Tick 0) ∷ drop (i + 1) all = drop_more all i (Tick 0) below in
    c.in_default.ensures.ok p s all (drop (i + 1) all)
    (same_events p s all _ _ c.loop-event.replaying first c.loop-event.invariant)
