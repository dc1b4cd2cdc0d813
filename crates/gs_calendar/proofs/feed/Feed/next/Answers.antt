use Rattle.std.proofs.Common.{◌≡◌, suc, ◌+◌, ap, length, rules, subst, sym, ◌∙◌, Result, Ok, Err, OnErr, Vec, Global}
use Rattle.std.specs.Vec.{with_items}
use Rattle.std.proofs.lemmas.List.{with_items_is}
use Rattle.gs_run.specs.Nets.{net_of}
use Rattle.gs_calendar.specs.Calendar.{Turn}
use Rattle.gs_calendar.specs.Course.{course_of}
use Rattle.gs_calendar.specs.inside.Coming.{AreAhead}
use Rattle.gs_calendar.proofs.Beginning.{slow}
use Rattle.gs_calendar.proofs.Known.{ahead_later}
use Rattle.gs_calendar.proofs.Stepping.{begun_one, delivered_one, ended, idle, kept_one, tick_one}
use Rattle.gs_calendar.proofs.feed.Feed.next.Goals as goal

on_err : {A E : Type 0} (r : Result A E) {P : Type 0} → P → OnErr r P
on_err (Ok x) p = tt
on_err (Err e) p = p

pub invariant_of-self : goal.invariant_of-self
invariant_of-self c =
    let count : length c.take_due.new.waiting ≡ c.self.inside.waiting.len = search rules in
    let now = with_items_is c.self.inside.waiting c.take_due.new.waiting count in
    record {
      read = c.self.invariant.read;
      nodes = c.self.invariant.nodes;
      quanta = c.self.invariant.quanta;
      ahead = c.self.invariant.ahead;
      feed = (delivered_one _ _ _ _ _ _ _ c.self.inside.waiting.items _ _ _ _ _ c.deref_mut.ensures.value now c.self.invariant.feed c.in-Some.ensures.some).0;
    }

pub returns-in-Some-clause-event : goal.returns-in-Some-clause-event
returns-in-Some-clause-event c =
    let count : length c.take_due.new.waiting ≡ c.self.inside.waiting.len = search rules in
    let now = with_items_is c.self.inside.waiting c.take_due.new.waiting count in
    sym c.self.view_is ∙ (delivered_one _ _ _ _ _ _ c.self.inside.next.items c.self.inside.waiting.items _ _ _ _ _ c.deref_mut.ensures.value now c.self.invariant.feed c.in-Some.ensures.some).1

pub returns-in-Some-next_tick-clause-event : goal.returns-in-Some-next_tick-clause-event
returns-in-Some-next_tick-clause-event c =
    let count : length c.take_due.new.waiting ≡ c.self.inside.waiting.len = search rules in
    let now = with_items_is c.self.inside.waiting c.take_due.new.waiting count in
    sym c.self.view_is
    ∙ (tick_one _ _ _ _ _ _ _ c.self.inside.turns.items _ c.self.inside.next.items c.self.inside.waiting.items _ _ _ c.deref_mut.ensures.value now c.deref.ensures.value c.self.invariant.nodes c.self.invariant.feed
    c.in_default.ensures.none (c.in-Some-next_tick.ensures.node, c.in-Some-next_tick.ensures.some)).1

pub returns-then-self-clause-end : goal.returns-then-self-clause-end
returns-then-self-clause-end c =
    let count : length c.take_due.new.waiting ≡ c.self.inside.waiting.len = search rules in
    let now = with_items_is c.self.inside.waiting c.take_due.new.waiting count in
    let last = idle _ _ _ _ _ _ c.self.inside.turns.items _ c.self.inside.next.items c.self.inside.waiting.items _ _ _ c.deref_mut.ensures.value now c.deref.ensures.value c.self.invariant.nodes c.self.invariant.feed
    c.in_default.ensures.none c.in_default-next_tick.ensures.none in
    let none = ended _ _ _ _ _ _ _ c.self.invariant.nodes last.0 (c.if-self.true ∙ c.self.invariant.quanta) in
    (sym c.self.view_is ∙ last.1 ∙ none, none)

pub invariant_of-self-in_err-incs : goal.invariant_of-self-in_err-incs
invariant_of-self-in_err-incs c =
    let count : length c.take_due.new.waiting ≡ c.self.inside.waiting.len = search rules in
    let now = with_items_is c.self.inside.waiting c.take_due.new.waiting count in
    record {
      read = c.self.invariant.read;
      nodes = c.self.invariant.nodes;
      quanta = c.self.invariant.quanta;
      ahead = c.self.invariant.ahead;
      feed = (idle _ _ _ _ _ _ c.self.inside.turns.items _ _ c.self.inside.waiting.items _ _ _ c.deref_mut.ensures.value now c.deref.ensures.value c.self.invariant.nodes c.self.invariant.feed
          c.in_default.ensures.none c.in_default-next_tick.ensures.none).0;
    }

pub returns-in_err-incs-clause-err : goal.returns-in_err-incs-clause-err
returns-in_err-incs-clause-err c =
    let count : length c.take_due.new.waiting ≡ c.self.inside.waiting.len = search rules in
    let now = with_items_is c.self.inside.waiting c.take_due.new.waiting count in
    let last = idle _ _ _ _ _ _ c.self.inside.turns.items _ c.self.inside.next.items c.self.inside.waiting.items _ _ _ c.deref_mut.ensures.value now c.deref.ensures.value c.self.invariant.nodes c.self.invariant.feed
    c.in_default.ensures.none c.in_default-next_tick.ensures.none in
    let same = sym last.1 ∙ c.self.view_is in
    on_err _ same

pub invariant_of-self-in_err-send_all : goal.invariant_of-self-in_err-send_all
invariant_of-self-in_err-send_all c =
    let count : length c.take_due.new.waiting ≡ c.self.inside.waiting.len = search rules in
    let now = with_items_is c.self.inside.waiting c.take_due.new.waiting count in
    let last = idle _ _ _ _ _ _ c.self.inside.turns.items _ c.self.inside.next.items c.self.inside.waiting.items _ _ _ c.deref_mut.ensures.value now c.deref.ensures.value c.self.invariant.nodes c.self.invariant.feed
    c.in_default.ensures.none c.in_default-next_tick.ensures.none in
    let count_2 : length c.send_all.new.waiting ≡ c.self.inside.waiting.len = search rules in
    let count_3 : length c.send_all.new.next ≡ c.self.inside.next.len = search rules in
    let count_4 : length c.send_all.new.next ≡ length c.self.inside.next.items = search rules in
    let now_2 = with_items_is (with_items c.self.inside.waiting c.take_due.new.waiting) c.send_all.new.waiting count_2 in
    let now_3 = with_items_is c.self.inside.next c.send_all.new.next count_3 in
    record {
      read = c.self.invariant.read;
      nodes = c.self.invariant.nodes;
      quanta = c.self.invariant.quanta;
      ahead = c.self.invariant.ahead;
      feed = (kept_one _ _ _ _ _ _ c.self.inside.next.items _ _ _ _ _ c.deref_mut-3.ensures.value now_2 c.self.invariant.nodes last.0 c.send_all.ensures.grows (ap length now_3 ∙ count_4)).0;
    }

pub returns-in_err-send_all-clause-err : goal.returns-in_err-send_all-clause-err
returns-in_err-send_all-clause-err c =
    let count : length c.take_due.new.waiting ≡ c.self.inside.waiting.len = search rules in
    let now = with_items_is c.self.inside.waiting c.take_due.new.waiting count in
    let last = idle _ _ _ _ _ _ c.self.inside.turns.items _ c.self.inside.next.items c.self.inside.waiting.items _ _ _ c.deref_mut.ensures.value now c.deref.ensures.value c.self.invariant.nodes c.self.invariant.feed
    c.in_default.ensures.none c.in_default-next_tick.ensures.none in
    let count_2 : length c.send_all.new.waiting ≡ c.self.inside.waiting.len = search rules in
    let count_3 : length c.send_all.new.next ≡ c.self.inside.next.len = search rules in
    let count_4 : length c.send_all.new.next ≡ length c.self.inside.next.items = search rules in
    let now_2 = with_items_is (with_items c.self.inside.waiting c.take_due.new.waiting) c.send_all.new.waiting count_2 in
    let now_3 = with_items_is c.self.inside.next c.send_all.new.next count_3 in
    let stays = kept_one _ _ _ _ _ _ c.self.inside.next.items _ _ _ _ _ c.deref_mut-3.ensures.value now_2 c.self.invariant.nodes last.0 c.send_all.ensures.grows (ap length now_3 ∙ count_4) in
    on_err _ (stays.1 ∙ sym last.1 ∙ c.self.view_is)

pub go_on-requires-clause-ahead : goal.go_on-requires-clause-ahead
go_on-requires-clause-ahead c =
    ahead_later (net_of c.self.inside.plan.now) (course_of c.self.inside.script.now) c.self.inside.t c.deref_mut-4.result.now c.self.inside.ahead.items c.deref_mut-4.ensures.value c.self.invariant.ahead

pub invariant_of-self-2 : goal.invariant_of-self-2
invariant_of-self-2 c =
    let count : length c.take_due.new.waiting ≡ c.self.inside.waiting.len = search rules in
    let now = with_items_is c.self.inside.waiting c.take_due.new.waiting count in
    let last = idle _ _ _ _ _ _ c.self.inside.turns.items _ c.self.inside.next.items c.self.inside.waiting.items _ _ _ c.deref_mut.ensures.value now c.deref.ensures.value c.self.invariant.nodes c.self.invariant.feed
    c.in_default.ensures.none c.in_default-next_tick.ensures.none in
    let net = net_of c.self.inside.plan.now in
    let course = course_of c.self.inside.script.now in
    let are = ahead_later net course c.self.inside.t c.deref-2.result.now c.self.inside.ahead.items c.deref-2.ensures.value c.self.invariant.ahead in
    let incs = c.in_ok-incs.ensures net course (c.self.inside.t + 1) are in
    let count_2 : length c.send_all.new.waiting ≡ c.self.inside.waiting.len = search rules in
    let count_3 : length c.send_all.new.next ≡ c.self.inside.next.len = search rules in
    let count_4 : length c.send_all.new.next ≡ length c.self.inside.next.items = search rules in
    let now_2 = with_items_is (with_items c.self.inside.waiting c.take_due.new.waiting) c.send_all.new.waiting count_2 in
    let now_3 = with_items_is c.self.inside.next c.send_all.new.next count_3 in
    let begins = begun_one _ _ _ _ c.self.inside.turns.items c.swap.new.x.items c.self.inside.next.items c.send_all.new.next c.swap.new.y.items _ _ _ _ _ c.deref_mut-3.ensures.value now_2
    (ap (λ (v : Vec Turn Global). v.items) c.swap.ensures.x_after ∙ now_3) (ap (λ (v : Vec Turn Global). v.items) c.swap.ensures.y_after) c.self.invariant.nodes (λ v below. slow c.self.inside.plan.now c.self.inside.script.now v c.self.invariant.read) last.0
    (λ e. c.if-self.false (e ∙ sym c.self.invariant.quanta)) c.send_all.ensures.grows count_4 c.in_ok-send_all.ensures.turns c.in_ok-send_all.ensures.sent incs in
    let long : length c.go_on.new.ahead ≡ c.self.inside.ahead.len = search rules in
    let known = with_items_is c.self.inside.ahead c.go_on.new.ahead long in
    record {
      read = c.self.invariant.read;
      nodes = c.self.invariant.nodes;
      quanta = c.self.invariant.quanta;
      ahead = subst (AreAhead net course (suc (c.self.inside.t + 1))) (sym known) c.go_on.ensures.ahead;
      feed = begins.0;
    }

pub returns-clause-event : goal.returns-clause-event
returns-clause-event c =
    let count : length c.take_due.new.waiting ≡ c.self.inside.waiting.len = search rules in
    let now = with_items_is c.self.inside.waiting c.take_due.new.waiting count in
    let last = idle _ _ _ _ _ _ c.self.inside.turns.items _ c.self.inside.next.items c.self.inside.waiting.items _ _ _ c.deref_mut.ensures.value now c.deref.ensures.value c.self.invariant.nodes c.self.invariant.feed
    c.in_default.ensures.none c.in_default-next_tick.ensures.none in
    let net = net_of c.self.inside.plan.now in
    let course = course_of c.self.inside.script.now in
    let are = ahead_later net course c.self.inside.t c.deref-2.result.now c.self.inside.ahead.items c.deref-2.ensures.value c.self.invariant.ahead in
    let incs = c.in_ok-incs.ensures net course (c.self.inside.t + 1) are in
    let count_2 : length c.send_all.new.waiting ≡ c.self.inside.waiting.len = search rules in
    let count_3 : length c.send_all.new.next ≡ c.self.inside.next.len = search rules in
    let count_4 : length c.send_all.new.next ≡ length c.self.inside.next.items = search rules in
    let now_2 = with_items_is (with_items c.self.inside.waiting c.take_due.new.waiting) c.send_all.new.waiting count_2 in
    let now_3 = with_items_is c.self.inside.next c.send_all.new.next count_3 in
    let begins = begun_one _ _ _ _ c.self.inside.turns.items c.swap.new.x.items c.self.inside.next.items c.send_all.new.next c.swap.new.y.items _ _ _ _ _ c.deref_mut-3.ensures.value now_2
    (ap (λ (v : Vec Turn Global). v.items) c.swap.ensures.x_after ∙ now_3) (ap (λ (v : Vec Turn Global). v.items) c.swap.ensures.y_after) c.self.invariant.nodes (λ v below. slow c.self.inside.plan.now c.self.inside.script.now v c.self.invariant.read) last.0
    (λ e. c.if-self.false (e ∙ sym c.self.invariant.quanta)) c.send_all.ensures.grows count_4 c.in_ok-send_all.ensures.turns c.in_ok-send_all.ensures.sent incs in
    sym c.self.view_is ∙ last.1 ∙ begins.1
