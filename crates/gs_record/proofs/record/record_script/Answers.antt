use Rattle.std.proofs.Common.{◌≡◌, ◌∙◌, [], ◌∷◌, List, ℕ, ap, rules, replicate}
use Rattle.std.proofs.lemmas.Result.{err_from_is_err_and}
use Rattle.gs_core.specs.declared.event.Event.{Event}
use Rattle.gs_plan.specs.declared.plan.Plan.{Plan}
use Rattle.gs_run.specs.Net.{Net}
use Rattle.gs_run.specs.Nets.{net_of}
use Rattle.gs_run.specs.World.{world_at_start}
use Rattle.gs_run.proofs.PlanNumbers.{plan_has_numbers}
use Rattle.gs_calendar.specs.Calm.{Calm}
use Rattle.gs_calendar.specs.Course.{course_of}
use Rattle.gs_calendar.specs.Events.{events_of}
use Rattle.gs_calendar.specs.Scripts.{start_of}
use Rattle.gs_calendar.proofs.Calm.{scripts_are_calm}
use Rattle.gs_calendar.proofs.Fitting.{fits}
use Rattle.gs_record.specs.Recorded.{trace_of}
use Rattle.gs_run.proofs.Zeros.{zeros_are}
use Rattle.gs_record.proofs.Recording.{begins, ends_whole, head_cut_ends, held_is_front, none_is_front, same_left}
use Rattle.gs_record.proofs.record.record_script.Goals as goal

pub loop-world-init : goal.loop-world-init
loop-world-init g c =
    let p : Plan = c.args.plan.now in
    let s = c.args.script.now in
    let net : Net = net_of p in
    let all : List Event = events_of net (course_of s) in
    let calm : Calm net (start_of net) all =
    scripts_are_calm net (course_of s) (plan_has_numbers p) (fits p s c.requires c.quanta-within_bounds.ensures.within) in
    let whole : c.in_ok-feed.feed ≡ all = search rules in
    let zeros : c.in_ok-readings.readings.items ≡ replicate net.nodes 0 = search rules in
    let plan_is : c.in_ok-world.world.plan ≡ p = search rules in
    let starts : c.in_ok-world.world.world ≡ world_at_start net (replicate net.nodes 0) 0 = search rules in
    let start : c.in_ok-world.world.world ≡ start_of net = starts ∙ ap (λ (hw : List ℕ). world_at_start net hw 0) (zeros_are 0 net.nodes) in
    begins p s c.in_ok-world.world.plan c.in_ok-world.world.world c.in_ok-feed.feed
    (g.K.Sink.bytes c.args.out.now) (g.K.Sink.bytes c.write_head.new.out) (g.K.Sink.faults c.args.out.now) (g.K.Sink.faults c.write_head.new.out)
    plan_is start whole calm c.in_ok-write_head.ensures.written c.write_head.ensures.later

pub returns-in_err-write_head-clause-stop : goal.returns-in_err-write_head-clause-stop
returns-in_err-write_head-clause-stop g c =
    let answer = err_from_is_err_and c.from_residual-in_err-write_head.result c.from_residual-in_err-write_head.ensures.1 in
    rw (answer.1, answer.2) (head_cut_ends c.args.plan.now c.args.script.now
    (g.K.Sink.bytes c.args.out.now) (g.K.Sink.bytes c.write_head.new.out) (g.K.Sink.faults c.args.out.now) (g.K.Sink.faults c.write_head.new.out)
    c.in_err-write_head.field-0.0 c.in_err-write_head.ensures.stop)

pub returns-in_err-feed-clause-stop : goal.returns-in_err-feed-clause-stop
returns-in_err-feed-clause-stop g c =
    let answer = err_from_is_err_and c.from_residual.result c.from_residual.ensures.1 in
    rw (answer.1, answer.2) (none_is_front (g.K.Sink.bytes c.args.out.now) (trace_of c.args.plan.now c.args.script.now))

pub returns-in_err-readings-clause-stop : goal.returns-in_err-readings-clause-stop
returns-in_err-readings-clause-stop g c =
    let answer = err_from_is_err_and c.from_residual-in_err-readings.result c.from_residual-in_err-readings.ensures.1 in
    rw (answer.1, answer.2) (none_is_front (g.K.Sink.bytes c.args.out.now) (trace_of c.args.plan.now c.args.script.now))

pub returns-in_err-world-clause-stop : goal.returns-in_err-world-clause-stop
returns-in_err-world-clause-stop g c =
    let answer = err_from_is_err_and c.from_residual-in_err-world.result c.from_residual-in_err-world.ensures.1 in
    rw (answer.1, answer.2) (none_is_front (g.K.Sink.bytes c.args.out.now) (trace_of c.args.plan.now c.args.script.now))

pub returns-in_err-event-clause-stop : goal.returns-in_err-event-clause-stop
returns-in_err-event-clause-stop g c =
    let answer = err_from_is_err_and c.from_residual-in_err-event.result c.from_residual-in_err-event.ensures.1 in
    rw (answer.1, answer.2) (held_is_front c.args.plan.now c.args.script.now c.loop-world.world.plan c.loop-world.world.world c.loop-world.feed
    (g.K.Sink.bytes c.args.out.now) (g.K.Sink.bytes c.loop-world.out) (g.K.Sink.faults c.args.out.now) (g.K.Sink.faults c.loop-world.out) c.loop-world.invariant)

pub take-requires : goal.take-requires
take-requires g c =
    let first : c.loop-world.feed ≡ c.in-Some.event ∷ c.next.new.self = search rules in (
      c.args.plan.now,
      c.args.script.now,
      c.next.new.self,
      g.K.Sink.bytes c.args.out.now,
      g.K.Sink.faults c.args.out.now,
      same_left c.args.plan.now c.args.script.now _ _ _ _ _ _ _ _ first c.loop-world.invariant,
    )

pub returns-in_err-take-clause-stop : goal.returns-in_err-take-clause-stop
returns-in_err-take-clause-stop g c =
    let first : c.loop-world.feed ≡ c.in-Some.event ∷ c.next.new.self = search rules in
    let answer = err_from_is_err_and c.from_residual-in_err-take.result c.from_residual-in_err-take.ensures.1 in
    rw (answer.1, answer.2) (c.in_err-take.ensures.stop c.args.plan.now c.args.script.now c.next.new.self (g.K.Sink.bytes c.args.out.now) (g.K.Sink.faults c.args.out.now)
    (same_left c.args.plan.now c.args.script.now _ _ _ _ _ _ _ _ first c.loop-world.invariant))

pub loop-world-preserved : goal.loop-world-preserved
loop-world-preserved g c =
    let first : c.loop-world.feed ≡ c.in-Some.event ∷ c.next.new.self = search rules in
    c.in_ok-take.ensures.ok c.args.plan.now c.args.script.now c.next.new.self (g.K.Sink.bytes c.args.out.now) (g.K.Sink.faults c.args.out.now)
    (same_left c.args.plan.now c.args.script.now _ _ _ _ _ _ _ _ first c.loop-world.invariant)

pub loop-world-preserved-in_ok-take : goal.loop-world-preserved-in_ok-take
loop-world-preserved-in_ok-take g c =
    let first : c.loop-world.feed ≡ c.in-Some.event ∷ c.next.new.self = search rules in
    c.in_ok-take.ensures.ok c.args.plan.now c.args.script.now c.next.new.self (g.K.Sink.bytes c.args.out.now) (g.K.Sink.faults c.args.out.now)
    (same_left c.args.plan.now c.args.script.now _ _ _ _ _ _ _ _ first c.loop-world.invariant)

pub returns-clause-no_breach : goal.returns-clause-no_breach
returns-clause-no_breach g c =
    let none : c.loop-world.feed ≡ [] = search rules in
    (ends_whole c.args.plan.now c.args.script.now _ _ _ _ _ _
    (same_left c.args.plan.now c.args.script.now _ _ _ _ _ _ _ _ none c.loop-world.invariant)).0

pub returns-clause-written : goal.returns-clause-written
returns-clause-written g c =
    let none : c.loop-world.feed ≡ [] = search rules in
    (ends_whole c.args.plan.now c.args.script.now _ _ _ _ _ _
    (same_left c.args.plan.now c.args.script.now _ _ _ _ _ _ _ _ none c.loop-world.invariant)).1
