use Rattle.std.proofs.Common.{◌≡◌, ◌+◌, ◌*◌, ℕ, suc, arith, ap, sym, subst, ◌∙◌, inl, inr, min, Some, length, rules}
use Rattle.std.proofs.Math.Nat.{mul-le-mul_right}
use Rattle.std.proofs.lemmas.Bool.{cases_lt}
use Rattle.std.proofs.lemmas.List.Quantifiers.{position-Some}
use Rattle.gs_run.specs.Net.{neighbour, neighbours}
use Rattle.gs_calendar.specs.Calendar.{stale_at}
use Rattle.gs_calendar.specs.Stale.{breach_at}
use Rattle.gs_run.specs.Nets.{net_of}
use Rattle.gs_piece.specs.Pieces.{IsPiece}
use Rattle.gs_piece.specs.Staleness.{FirstIsStale, NoneIsStale}
use Rattle.gs_piece.specs.declared.piece.Piece.{Piece}
use Rattle.gs_play.proofs.Places.{breach_first, breach_none, fresh_next_one, stops_there}
use Rattle.gs_play.proofs.staleness.breach.Goals as goal

pub loop-i-init : goal.loop-i-init
loop-i-init c = λ course by size m are v h. absurd (let none : 0 * size ≡ 0 = omega arith in omega (arith, h, none))

pub first_stale-requires : goal.first_stale-requires
first_stale-requires c =
    let net = net_of c.args.plan.now in
    let r = c.requires.pieces in
    let i = c.loop-i.i in
    let size = r.2 in
    let d : Piece = c.index-pieces-i.result in (
      r.0,
      r.1,
      i * size,
      min net.nodes (i * size + size),
      r.3,
      subst (IsPiece net r.0 r.1 (i * size) (min net.nodes (i * size + size)) r.3 c.args.t) (sym c.index-pieces-i.is) (r.4.each i d c.loop-i-test.true),
    )

pub loop-i-preserved : goal.loop-i-preserved
loop-i-preserved c = λ course by size m are v h hv.
    let net = net_of c.args.plan.now in
    let i = c.loop-i.i in
    let d : Piece = c.index-pieces-i.result in
    let next : (i + 1) * size ≡ i * size + size = omega arith in
    let is : IsPiece net course by (i * size) (min net.nodes (i * size + size)) m c.args.t d = subst (IsPiece net course by (i * size) (min net.nodes (i * size + size)) m c.args.t) (sym c.index-pieces-i.is) (are.each i d c.loop-i-test.true) in
    let left = c.first_stale.ensures.none course by (i * size) (min net.nodes (i * size + size)) m is in
    let none : NoneIsStale net course (i * size) (min net.nodes (i * size + size)) (suc c.args.t) = search rules in
    elim (cases_lt v (i * size)) [
      | inl less ↦ c.loop-i.invariant course by size m are v less hv
      | inr more ↦ none v more (omega (arith, h, next, hv))
    ]

pub returns-clause-none : goal.returns-clause-none
returns-clause-none c = λ course by size m are.
    let net = net_of c.args.plan.now in
    let all = are.all in
    let end = mul-le-mul_right {m = length c.args.pieces.now} {n = c.loop-i.i} size c.loop-i-test.false in
    breach_none net course (suc c.args.t) (λ x hx. c.loop-i.invariant course by size m are x (omega (arith, hx, all, end)) hx)

pub stop_at-requires-clause-node : goal.stop_at-requires-clause-node
stop_at-requires-clause-node c =
    let net = net_of c.args.plan.now in
    let r = c.requires.pieces in
    let i = c.loop-i.i in
    let b = min net.nodes (i * r.2 + r.2) in
    let d : Piece = c.index-pieces-i.result in
    let is : IsPiece net r.0 r.1 (i * r.2) b r.3 c.args.t d = subst (IsPiece net r.0 r.1 (i * r.2) b r.3 c.args.t) (sym c.index-pieces-i.is) (r.4.each i d c.loop-i-test.true) in
    let some = c.first_stale.ensures.some r.0 r.1 (i * r.2) b r.3 is in
    let first : FirstIsStale net r.0 (i * r.2) b (suc c.args.t) c.in-Some.to c.in-Some.place = search rules in
    let high = first.high in
    omega (arith, high)

pub stop_at-requires-clause-place : goal.stop_at-requires-clause-place
stop_at-requires-clause-place c =
    let net = net_of c.args.plan.now in
    let r = c.requires.pieces in
    let i = c.loop-i.i in
    let b = min net.nodes (i * r.2 + r.2) in
    let d : Piece = c.index-pieces-i.result in
    let is : IsPiece net r.0 r.1 (i * r.2) b r.3 c.args.t d = subst (IsPiece net r.0 r.1 (i * r.2) b r.3 c.args.t) (sym c.index-pieces-i.is) (r.4.each i d c.loop-i-test.true) in
    let some = c.first_stale.ensures.some r.0 r.1 (i * r.2) b r.3 is in
    let first : FirstIsStale net r.0 (i * r.2) b (suc c.args.t) c.in-Some.to c.in-Some.place = search rules in
    (position-Some (λ x. stale_at net r.0 x c.in-Some.to (suc c.args.t)) (neighbours net c.in-Some.to) c.in-Some.place 0 first.stale).0

pub returns-in-Some-clause-some : goal.returns-in-Some-clause-some
returns-in-Some-clause-some c = λ course by size m are.
    let net = net_of c.args.plan.now in
    let i = c.loop-i.i in
    let b = min net.nodes (i * size + size) in
    let d : Piece = c.index-pieces-i.result in
    let is : IsPiece net course by (i * size) b m c.args.t d = subst (IsPiece net course by (i * size) b m c.args.t) (sym c.index-pieces-i.is) (are.each i d c.loop-i-test.true) in
    let some = c.first_stale.ensures.some course by (i * size) b m is in
    let first : FirstIsStale net course (i * size) b (suc c.args.t) c.in-Some.to c.in-Some.place = search rules in
    let high = first.high in
    let found = breach_first net course (suc c.args.t) c.in-Some.to c.in-Some.place (omega (arith, high))
    (λ x less. elim (cases_lt x (i * size)) [
      | inl before ↦ c.loop-i.invariant course by size m are x before (omega (arith, less, high))
      | inr here ↦ first.none x here less
    ]) first.stale in
    stops_there (breach_at net course (suc c.args.t)) (c.args.t + 1) (neighbour net c.in-Some.to c.in-Some.place) c.in-Some.to _ c.stop_at.ensures
    (found ∙ ap (λ (q : ℕ). Some (record { quantum = q; from = neighbour net c.in-Some.to c.in-Some.place; to = c.in-Some.to })) (omega arith))

pub returns-clause-fresh : goal.returns-clause-fresh
returns-clause-fresh c = λ course by size m are.
    let net = net_of c.args.plan.now in
    let all = are.all in
    let end = mul-le-mul_right {m = length c.args.pieces.now} {n = c.loop-i.i} size c.loop-i-test.false in
    fresh_next_one net course c.args.t (λ x hx. c.loop-i.invariant course by size m are x (omega (arith, hx, all, end)) hx)
