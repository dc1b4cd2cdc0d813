use Rattle.std.proofs.Common.{◌≡◌, suc, ◌+◌, ◌*◌, ◌≤◌, ℕ, arith, sym, subst, refl, ◌∙◌, min, rules}
use Rattle.gs_plan.proofs.Telling.{plan_is_graph}
use Rattle.gs_run.specs.Nets.{net_of}
use Rattle.gs_calendar.specs.Course.{course_of}
use Rattle.gs_piece.specs.Senders.{IsFirstSender, NoneSends}
use Rattle.gs_play.specs.inside.Pieces.{ArePieces, handed_below}
use Rattle.gs_play.proofs.FromOne.{below_all, below_begins, none_hand}
use Rattle.gs_play.proofs.handing.hand_over.Goals as goal

pub loop-from-init : goal.loop-from-init
loop-from-init c = record {
  inside = omega arith;
  count = refl;
  pieces = λ m t le end window are. below_begins (net_of c.args.plan.now) (course_of c.args.script.now) c.args.size m t c.args.pieces.now le are;
}

pub first_sender-requires-clause-pieces : goal.first_sender-requires-clause-pieces
first_sender-requires-clause-pieces c =
    let r = c.requires.pieces in
    (c.args.plan.now, course_of c.args.script.now, handed_below r.0 r.1 c.loop-from.next, r.0, r.1, c.loop-from.invariant.inside, c.loop-from.invariant.pieces r.0 r.1 r.2 r.3 r.4 r.5)

pub hand_from-requires-clause-sender : goal.hand_from-requires-clause-sender
hand_from-requires-clause-sender c =
    let net = net_of c.args.plan.now in
    let course = course_of c.args.script.now in
    let r = c.requires.pieces in
    let some = c.first_sender.ensures.some net course (handed_below r.0 r.1 c.loop-from.next) r.0 r.1 (c.loop-from.invariant.pieces r.0 r.1 r.2 r.3 r.4 r.5) in
    let first : IsFirstSender net course c.loop-from.next 0 net.nodes r.0 r.1 c.in-Some.from = search rules in
    first.high

pub hand_from-requires-clause-pieces : goal.hand_from-requires-clause-pieces
hand_from-requires-clause-pieces c =
    let net = net_of c.args.plan.now in
    let course = course_of c.args.script.now in
    let r = c.requires.pieces in
    let are = c.loop-from.invariant.pieces r.0 r.1 r.2 r.3 r.4 r.5 in
    let some = c.first_sender.ensures.some net course (handed_below r.0 r.1 c.loop-from.next) r.0 r.1 are in
    let first : IsFirstSender net course c.loop-from.next 0 net.nodes r.0 r.1 c.in-Some.from = search rules in
    (r.0, r.1, r.2, r.3, r.4, none_hand net course c.args.size r.0 r.1 c.loop-from.next c.in-Some.from c.loop-from.pieces r.2 first.from (λ x low high. first.none x low (omega arith) high) are)

pub overflow_add-next : goal.overflow_add-next
overflow_add-next c =
    let p = c.args.plan.now in
    let net = net_of p in
    let course = course_of c.args.script.now in
    let few = (plan_is_graph p.text p.topo p.accepted p.graph).few in
    let r = c.requires.pieces in
    let some = c.first_sender.ensures.some net course (handed_below r.0 r.1 c.loop-from.next) r.0 r.1 (c.loop-from.invariant.pieces r.0 r.1 r.2 r.3 r.4 r.5) in
    let first : IsFirstSender net course c.loop-from.next 0 net.nodes r.0 r.1 c.in-Some.from = search rules in
    let high = first.high in
    record { fits = omega (arith, few, high) }

pub loop-from-smaller : goal.loop-from-smaller
loop-from-smaller c =
    let net = net_of c.args.plan.now in
    let course = course_of c.args.script.now in
    let r = c.requires.pieces in
    let some = c.first_sender.ensures.some net course (handed_below r.0 r.1 c.loop-from.next) r.0 r.1 (c.loop-from.invariant.pieces r.0 r.1 r.2 r.3 r.4 r.5) in
    let first : IsFirstSender net course c.loop-from.next 0 net.nodes r.0 r.1 c.in-Some.from = search rules in
    let low = first.from in
    let high = first.high in
    omega (arith, low, high)

pub loop-from-preserved : goal.loop-from-preserved
loop-from-preserved c =
    let net = net_of c.args.plan.now in
    let course = course_of c.args.script.now in
    let q = c.requires.pieces in
    let is = c.loop-from.invariant.pieces q.0 q.1 q.2 q.3 q.4 q.5 in
    let found = c.first_sender.ensures.some net course (handed_below q.0 q.1 c.loop-from.next) q.0 q.1 is in
    let one : IsFirstSender net course c.loop-from.next 0 net.nodes q.0 q.1 c.in-Some.from = search rules in
    let high = one.high in
    record {
      inside = omega (arith, high);
      count = c.hand_from.ensures.count ∙ c.loop-from.invariant.count;
      pieces = λ m t le end window begun.
          let are = c.loop-from.invariant.pieces m t le end window begun in
          let some = c.first_sender.ensures.some net course (handed_below m t c.loop-from.next) m t are in
          let first : IsFirstSender net course c.loop-from.next 0 net.nodes m t c.in-Some.from = search rules in
          let given = c.hand_from.ensures.pieces m t le end window (none_hand net course c.args.size m t c.loop-from.next c.in-Some.from c.loop-from.pieces le first.from (λ x low high. first.none x low (omega arith) high) are) in
          let done : ArePieces net course (handed_below m t (suc c.in-Some.from)) c.args.size m t c.hand_from.new.pieces = search rules in
          subst (λ u. ArePieces net course (handed_below m t u) c.args.size m t c.hand_from.new.pieces) (omega arith) done;
    }

pub end_windows-requires : goal.end_windows-requires
end_windows-requires c = λ i d h.
    let net = net_of c.args.plan.now in
    let course = course_of c.args.script.now in
    let r = c.requires.pieces in
    let size = c.args.size in
    let are = c.loop-from.invariant.pieces r.0 r.1 r.2 r.3 r.4 r.5 in
    let left = c.first_sender.ensures.none net course (handed_below r.0 r.1 c.loop-from.next) r.0 r.1 are in
    let none : NoneSends net course c.loop-from.next 0 net.nodes r.0 r.1 = search rules in
    let all = none_hand net course size r.0 r.1 c.loop-from.next net.nodes c.loop-from.pieces r.2 c.loop-from.invariant.inside (λ x low high. none x low (omega arith) high) are in
    record {
      net = net;
      course = course;
      by = handed_below r.0 r.1 net.nodes;
      first = i * size;
      end = min net.nodes (i * size + size);
      begun = r.0;
      now = r.1;
      handed = below_all net r.0 r.1 net.nodes (i * size) (min net.nodes (i * size + size)) (omega arith);
      is = all.each i d h;
    }

pub returns-clause-pieces : goal.returns-clause-pieces
returns-clause-pieces c = λ m t le end window begun.
    let net = net_of c.args.plan.now in
    let course = course_of c.args.script.now in
    let size = c.args.size in
    let are = c.loop-from.invariant.pieces m t le end window begun in
    let left = c.first_sender.ensures.none net course (handed_below m t c.loop-from.next) m t are in
    let none : NoneSends net course c.loop-from.next 0 net.nodes m t = search rules in
    let all = none_hand net course size m t c.loop-from.next net.nodes c.loop-from.pieces le c.loop-from.invariant.inside (λ x low high. none x low (omega arith) high) are in
    let count = c.end_windows.ensures.count in
    record {
      all = subst (λ (n : ℕ). net.nodes ≤ n * size) (sym count) all.all;
      each = λ i d h. c.end_windows.ensures.pieces i d net course (handed_below m t net.nodes) (i * size) (min net.nodes (i * size + size)) m t (omega (arith, h, count))
          (below_all net m t net.nodes (i * size) (min net.nodes (i * size + size)) (omega arith)) (all.each i d (omega (arith, h, count)));
    }
