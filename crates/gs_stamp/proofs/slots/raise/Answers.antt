use Rattle.std.proofs.Common.{inl, inr, ⊎_elim, ◌≤◌, [], ◌∷◌, option_map, ◌∙◌, ap, arith}
use Rattle.byteorder.specs.Endian.{big_bytes}
use Rattle.gs_stamp.specs.Disk.{LeavesOnly, put}
use Rattle.gs_stamp.specs.Format.{IsOldOrRaised, ceiling_of, place_of, raised}
use Rattle.gs_stamp.proofs.Ceilings.{closed_keeps, greater_is, same_keeps}
use Rattle.gs_stamp.proofs.Filling.{maps}
use Rattle.gs_stamp.proofs.Known.{agree, has_with, raises, raises_closed, spare_known, top_is}
use Rattle.gs_stamp.proofs.Moments.{then_runs, weaker}
use Rattle.gs_stamp.proofs.slots.raise.Goals as goal

pub returns-in_err-make_closed-clause-during : goal.returns-in_err-make_closed-clause-during
returns-in_err-make_closed-clause-during g c =
    let slot = c.spare-spare.result in
    weaker g.S.Store.moment g.S.Store.left_since c.args.store.now c.make_closed.new.store _ _
    (λ f (d, may, w). (d, may, inl (⊎_elim (closed_keeps slot d f (spare_known c.args.slots d slot (c.requires.known d may) c.spare-spare.ensures)) (same_keeps slot d f) w)))
    c.make_closed.ensures.during

pub returns-in_err-fill-clause-during : goal.returns-in_err-fill-clause-during
returns-in_err-fill-clause-during g c =
    let slot = c.spare-spare.result in
    let P = IsOldOrRaised (g.S.Store.may_leave c.args.store.now) c.args.ceiling in
    let first : LeavesOnly g.S.Store.moment g.S.Store.left_since c.args.store.now c.make_closed.new.store P =
    weaker g.S.Store.moment g.S.Store.left_since c.args.store.now c.make_closed.new.store _ _
    (λ f (d, may, w). (d, may, inl (⊎_elim (closed_keeps slot d f (spare_known c.args.slots d slot (c.requires.known d may) c.spare-spare.ensures)) (same_keeps slot d f) w)))
    c.make_closed.ensures.during in
    let second : LeavesOnly g.S.Store.moment g.S.Store.left_since c.make_closed.new.store c.fill.new.store P =
    weaker g.S.Store.moment g.S.Store.left_since c.make_closed.new.store c.fill.new.store _ _
    (λ f (e, may_e, w).
    let (d, may, was) = c.in_ok-make_closed.ensures.closed e may_e in
    let has = c.requires.known d may in
    let low : ceiling_of d ≤ c.args.ceiling = omega (arith, top_is c.args.slots d has, c.requires.higher) in (
      d,
      may,
      ⊎_elim
          (λ shut. inl (closed_keeps slot d f (spare_known c.args.slots d slot has c.spare-spare.ensures) (record { here = shut.here; there = shut.there ∙ was.there })))
          (λ filled. inr (greater_is slot c.args.ceiling d f low (record { here = filled.here; there = filled.there ∙ was.there })))
          w,
    ))
    c.fill.ensures.during in
    then_runs g.S.Store.moment g.S.Store.left_since c.args.store.now c.make_closed.new.store c.fill.new.store P first second

pub returns-clause-during : goal.returns-clause-during
returns-clause-during g c =
    let slot = c.spare-spare.result in
    let P = IsOldOrRaised (g.S.Store.may_leave c.args.store.now) c.args.ceiling in
    let first : LeavesOnly g.S.Store.moment g.S.Store.left_since c.args.store.now c.make_closed.new.store P =
    weaker g.S.Store.moment g.S.Store.left_since c.args.store.now c.make_closed.new.store _ _
    (λ f (d, may, w). (d, may, inl (⊎_elim (closed_keeps slot d f (spare_known c.args.slots d slot (c.requires.known d may) c.spare-spare.ensures)) (same_keeps slot d f) w)))
    c.make_closed.ensures.during in
    let second : LeavesOnly g.S.Store.moment g.S.Store.left_since c.make_closed.new.store c.fill.new.store P =
    weaker g.S.Store.moment g.S.Store.left_since c.make_closed.new.store c.fill.new.store _ _
    (λ f (e, may_e, w).
    let (d, may, was) = c.in_ok-make_closed.ensures.closed e may_e in
    let has = c.requires.known d may in
    let low : ceiling_of d ≤ c.args.ceiling = omega (arith, top_is c.args.slots d has, c.requires.higher) in (
      d,
      may,
      ⊎_elim
          (λ shut. inl (closed_keeps slot d f (spare_known c.args.slots d slot has c.spare-spare.ensures) (record { here = shut.here; there = shut.there ∙ was.there })))
          (λ filled. inr (greater_is slot c.args.ceiling d f low (record { here = filled.here; there = filled.there ∙ was.there })))
          w,
    ))
    c.fill.ensures.during in
    then_runs g.S.Store.moment g.S.Store.left_since c.args.store.now c.make_closed.new.store c.fill.new.store P first second

pub returns-clause-known : goal.returns-clause-known
returns-clause-known g c f left =
    let slot = c.spare-spare.result in
    let (e, may_e, w) = c.in_ok-fill.ensures.filled f left in
    let (d, may, was) = c.in_ok-make_closed.ensures.closed e may_e in
    has_with slot c.args.ceiling c.args.slots c.with.result d f (c.requires.known d may) (record { here = w.here; there = w.there ∙ was.there }) c.with.ensures.own c.with.ensures.rest

pub returns-clause-bytes : goal.returns-clause-bytes
returns-clause-bytes g c =
    let slot = c.spare-spare.result in
    let old = g.S.Store.seen c.args.store.now in
    let full = put (place_of slot) (1 ∷ big_bytes 8 c.args.ceiling) in
    c.in_ok-fill.ensures.bytes
    ∙ ⊎_elim
    (λ same. ap (option_map full) same
    ∙ agree full (raised c.args.ceiling) old (λ d told. raises c.args.slots slot c.args.ceiling d (c.requires.known d (g.met.S.Store.seen_may_stay c.args.store.now d told)) c.spare-spare.ensures))
    (λ shut. ap (option_map full) shut
    ∙ maps full (put (place_of slot) (0 ∷ [])) (raised c.args.ceiling) old
    (λ d told.
    let may = g.met.S.Store.seen_may_stay c.args.store.now d told in
    raises_closed c.args.slots slot c.args.ceiling d (g.met.S.Store.size c.args.store.now d may) (c.requires.known d may) c.spare-spare.ensures))
    c.in_ok-make_closed.ensures.bytes
