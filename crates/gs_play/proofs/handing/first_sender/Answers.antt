use Rattle.std.proofs.Common.{◌≡◌, ◌+◌, ◌*◌, ◌/◌, ◌<◌, ◌≤◌, ℕ, arith, sym, subst, inl, inr, min, length, rules}
use Rattle.std.proofs.Math.Nat.{div-add-mod', mod-lt, mul-le-mul_right}
use Rattle.std.proofs.lemmas.Bool.{cases_lt}
use Rattle.gs_run.specs.Nets.{net_of}
use Rattle.gs_piece.specs.Pieces.{IsPiece}
use Rattle.gs_piece.specs.Senders.{IsFirstSender, NoneSends}
use Rattle.gs_piece.specs.declared.piece.Piece.{Piece}
use Rattle.gs_play.proofs.handing.first_sender.Goals as goal

pub loop-i-init : goal.loop-i-init
loop-i-init c = λ net course by m t are x from less inside.
    let whole = div-add-mod' c.args.from c.args.size in
    absurd (omega (arith, whole, from, less))

pub first_sender-requires : goal.first_sender-requires
first_sender-requires c =
    let r = c.requires.pieces in
    let net = net_of r.0 in
    let size = c.args.size in
    let i = c.loop-i.i in
    let d : Piece = c.index-pieces-i.result in
    let most = r.5 in
    let whole = div-add-mod' c.args.from size in
    let rest = mod-lt c.args.from c.requires.size in
    let up = mul-le-mul_right {m = c.args.from / size} {n = i} size (omega arith) in (
      r.0,
      r.1,
      r.2,
      i * size,
      min net.nodes (i * size + size),
      r.3,
      r.4,
      omega (arith, most, whole, rest, up),
      subst (IsPiece net r.1 r.2 (i * size) (min net.nodes (i * size + size)) r.3 r.4) (sym c.index-pieces-i.is) (r.6.each i d c.loop-i-test.true),
    )

pub loop-i-preserved : goal.loop-i-preserved
loop-i-preserved c = λ net course by m t are x from less inside.
    let size = c.args.size in
    let i = c.loop-i.i in
    let d : Piece = c.index-pieces-i.result in
    let next : (i + 1) * size ≡ i * size + size = omega arith in
    let b : ℕ = min net.nodes (i * size + size) in
    let is : IsPiece net course by (i * size) b m t d = subst (IsPiece net course by (i * size) b m t) (sym c.index-pieces-i.is) (are.each i d c.loop-i-test.true) in
    let left = c.first_sender.ensures.none net course by (i * size) b m t is in
    let none : NoneSends net course c.args.from (i * size) b m t = search rules in
    elim (cases_lt x (i * size)) [
      | inl before ↦ c.loop-i.invariant net course by m t are x from before inside
      | inr more ↦ none x from more (omega (arith, less, next, inside))
    ]

pub returns-in-Some-clause-some : goal.returns-in-Some-clause-some
returns-in-Some-clause-some c = λ net course by m t are.
    let size = c.args.size in
    let i = c.loop-i.i in
    let d : Piece = c.index-pieces-i.result in
    let b : ℕ = min net.nodes (i * size + size) in
    let is : IsPiece net course by (i * size) b m t d = subst (IsPiece net course by (i * size) b m t) (sym c.index-pieces-i.is) (are.each i d c.loop-i-test.true) in
    let some = c.first_sender.ensures.some net course by (i * size) b m t is in
    let first : IsFirstSender net course c.args.from (i * size) b m t c.in-Some.v = search rules in
    let high = first.high in
    record {
      from = first.from;
      low = omega arith;
      high = omega (arith, high);
      none = λ x from low less. elim (cases_lt x (i * size)) [
        | inl before ↦ c.loop-i.invariant net course by m t are x from before (omega (arith, less, high))
        | inr more ↦ first.none x from more less
      ];
      some = first.some;
    }

pub returns-clause-none : goal.returns-clause-none
returns-clause-none c = λ net course by m t are x from low inside.
    let all = are.all in
    let end = mul-le-mul_right {m = length c.args.pieces.now} {n = c.loop-i.i} c.args.size c.loop-i-test.false in
    c.loop-i.invariant net course by m t are x from (omega (arith, inside, all, end)) inside
