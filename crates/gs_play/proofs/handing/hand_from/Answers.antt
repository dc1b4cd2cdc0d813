use Rattle.std.proofs.Common.{◌≡◌, ◌+◌, ◌*◌, ◌/◌, ◌<◌, ◌≤◌, ℕ, arith, ap, sym, subst, ◌∙◌, min, [], List, length, slice_index_or, rules}
use Rattle.gs_topo.specs.Graph.{neighbours_of}
use Rattle.gs_run.specs.Net.{neighbours}
use Rattle.gs_run.specs.Nets.{net_of}
use Rattle.gs_run.proofs.PlanNumbers.{plan_has_numbers}
use Rattle.gs_calendar.specs.Course.{course_of}
use Rattle.gs_calendar.proofs.OnTheWay.{item_is}
use Rattle.gs_seat.specs.Held.{AreSentIn}
use Rattle.gs_piece.specs.Nodes.{handed_to}
use Rattle.gs_piece.proofs.Turns.{no_items}
use Rattle.gs_play.specs.inside.Pieces.{ArePieces, handed_below}
use Rattle.gs_play.proofs.FromOne.{IsHanding, handing_begins, handing_ends, handing_next, none_hands}
use Rattle.gs_play.proofs.Giving.{piece_of}
use Rattle.gs_play.proofs.handing.hand_from.Goals as goal

pub sent-sent-requires : goal.sent-sent-requires
sent-sent-requires c =
    let net = net_of c.args.plan.now in
    let r = c.requires.pieces in
    let size = c.args.size in
    let k = c.args.from / size in
    let are = r.5 in
    let all = are.all in
    let hf = c.requires.sender in
    let at = piece_of size (length c.args.pieces.now) c.args.from c.requires.size (omega (arith, all, hf)) in
    let high = at.high in
    (net, course_of c.args.script.now, handed_below r.0 r.1 c.args.from, k * size, min net.nodes (k * size + size), r.0, r.1, at.low, omega (arith, high, hf), are.each k c.index-pieces-from.result at.few)

pub loop-i-init : goal.loop-i-init
loop-i-init c = λ m t le end window are. (handed_below m t c.args.from, handing_begins (net_of c.args.plan.now) m t c.args.from, are)

pub give-requires-clause-neighbours : goal.give-requires-clause-neighbours
give-requires-clause-neighbours c =
    (item_is c.args.plan.now c.topo.result.now c.args.from c.loop-i.i c.neighbours-neighbours.result.now c.neighbours-neighbours.ensures c.topo.ensures c.loop-i-test.true).0

pub give-requires-clause-pieces : goal.give-requires-clause-pieces
give-requires-clause-pieces c =
    let net = net_of c.args.plan.now in
    let course = course_of c.args.script.now in
    let r = c.requires.pieces in
    let size = c.args.size in
    let k = c.args.from / size in
    let are = r.5 in
    let all = are.all in
    let hf = c.requires.sender in
    let at = piece_of size (length c.args.pieces.now) c.args.from c.requires.size (omega (arith, all, hf)) in
    let high = at.high in
    let sent = c.sent-sent.ensures net course (handed_below r.0 r.1 c.args.from) (k * size) (min net.nodes (k * size + size)) r.0 r.1 at.low (omega (arith, high, hf)) (are.each k c.index-pieces-from.result at.few) in
    let copied : c.deref.result.now ≡ c.sent-sent.result.now = search rules in
    let items = c.neighbours-neighbours.result.now in
    let item = item_is c.args.plan.now c.topo.result.now c.args.from c.loop-i.i items c.neighbours-neighbours.ensures c.topo.ensures c.loop-i-test.true in
    let inside : c.loop-i.i < length (neighbours net c.args.from) = subst (λ (xs : List ℕ). c.loop-i.i < length xs) (c.neighbours-neighbours.ensures ∙ ap (λ g. neighbours_of g c.args.from) c.topo.ensures) c.loop-i-test.true in
    let now = c.loop-i.invariant r.0 r.1 r.2 r.3 r.4 are in
    let begun : now.0 (slice_index_or items c.loop-i.i 0) c.args.from ≡ r.0 = ap (λ (v : ℕ). now.0 v c.args.from) (sym item.1) ∙ now.1.left c.loop-i.i (omega arith) inside in
    (now.0, r.0, r.1, r.3, r.4, subst (λ (q : ℕ). AreSentIn net course c.args.from q r.1 c.deref.result.now) (sym begun) (subst (AreSentIn net course c.args.from r.0 r.1) (sym copied) sent), now.2)

pub loop-i-preserved : goal.loop-i-preserved
loop-i-preserved c = λ m t le end window are.
    let net = net_of c.args.plan.now in
    let course = course_of c.args.script.now in
    let size = c.args.size in
    let k = c.args.from / size in
    let all = are.all in
    let hf = c.requires.sender in
    let at = piece_of size (length c.args.pieces.now) c.args.from c.requires.size (omega (arith, all, hf)) in
    let high = at.high in
    let sent = c.sent-sent.ensures net course (handed_below m t c.args.from) (k * size) (min net.nodes (k * size + size)) m t at.low (omega (arith, high, hf)) (are.each k c.index-pieces-from.result at.few) in
    let copied : c.deref.result.now ≡ c.sent-sent.result.now = search rules in
    let items = c.neighbours-neighbours.result.now in
    let to : ℕ = slice_index_or items c.loop-i.i 0 in
    let item = item_is c.args.plan.now c.topo.result.now c.args.from c.loop-i.i items c.neighbours-neighbours.ensures c.topo.ensures c.loop-i-test.true in
    let inside : c.loop-i.i < length (neighbours net c.args.from) = subst (λ (xs : List ℕ). c.loop-i.i < length xs) (c.neighbours-neighbours.ensures ∙ ap (λ g. neighbours_of g c.args.from) c.topo.ensures) c.loop-i-test.true in
    let now = c.loop-i.invariant m t le end window are in
    let begun : now.0 to c.args.from ≡ m = ap (λ (v : ℕ). now.0 v c.args.from) (sym item.1) ∙ now.1.left c.loop-i.i (omega arith) inside in
    let given = c.give.ensures.pieces now.0 m t end window (subst (λ (q : ℕ). AreSentIn net course c.args.from q t c.deref.result.now) (sym begun) (subst (AreSentIn net course c.args.from m t) (sym copied) sent)) now.2 in
    let done : ArePieces net course (handed_to now.0 to c.args.from t) size m t c.give.new.pieces = search rules in
    (handed_to now.0 to c.args.from t, subst (λ (v : ℕ). IsHanding net m t c.args.from (c.loop-i.i + 1) (handed_to now.0 v c.args.from t)) item.1 (handing_next net m t c.args.from c.loop-i.i now.0 inside now.1), done)

pub returns-clause-pieces : goal.returns-clause-pieces
returns-clause-pieces c = λ m t le end window are.
    let net = net_of c.args.plan.now in
    let course = course_of c.args.script.now in
    let now = c.loop-i.invariant m t le end window are in
    let stop : length (neighbours net c.args.from) ≤ c.loop-i.i = subst (λ (xs : List ℕ). length xs ≤ c.loop-i.i) (c.neighbours-neighbours.ensures ∙ ap (λ g. neighbours_of g c.args.from) c.topo.ensures) c.loop-i-test.false in
    handing_ends net course c.args.size m t c.args.from c.loop-i.i now.0 c.loop-i.pieces (plan_has_numbers c.args.plan.now) le c.requires.sender stop now.1 now.2
