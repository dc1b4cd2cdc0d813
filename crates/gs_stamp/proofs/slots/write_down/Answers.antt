use Rattle.std.proofs.Common.{ℕ, List, length, sym, ◌∙◌}
use Rattle.std.proofs.lemmas.Result.{on_ok_weaker}
use Rattle.gs_stamp.specs.Disk.{Torn, put}
use Rattle.gs_stamp.proofs.Filling.{mapped}
use Rattle.gs_stamp.proofs.Moments.{started, goes_on}
use Rattle.gs_stamp.proofs.Tearing.{same_torn}
use Rattle.gs_stamp.proofs.slots.write_down.Goals as goal

pub returns-in_err-write-clause-during : goal.returns-in_err-write-clause-during
returns-in_err-write-clause-during g c =
    let old = c.args.store.now in
    let n = length c.args.piece.now in
    let P = λ (f : List ℕ). (d : List ℕ) × g.S.Store.may_leave old d × Torn c.args.at n d f in
    let at_start = started g.S.Store.moment g.S.Store.left_since old P (λ f left. (f, g.met.S.Store.only_now old f left, same_torn c.args.at n f)) in
    goes_on g.S.Store.moment g.S.Store.left_since old old c.write.new.self P _ at_start c.write.ensures.time c.write.ensures.crash

pub returns-clause-during : goal.returns-clause-during
returns-clause-during g c =
    let old = c.args.store.now in
    let n = length c.args.piece.now in
    let P = λ (f : List ℕ). (d : List ℕ) × g.S.Store.may_leave old d × Torn c.args.at n d f in
    let at_start = started g.S.Store.moment g.S.Store.left_since old P (λ f left. (f, g.met.S.Store.only_now old f left, same_torn c.args.at n f)) in
    let behind = goes_on g.S.Store.moment g.S.Store.left_since old old c.write.new.self P _ at_start c.write.ensures.time c.write.ensures.crash in
    goes_on g.S.Store.moment g.S.Store.left_since old c.write.new.self c.sync.new.self P _ behind c.sync.ensures.time (λ f now. c.write.ensures.crash f (c.sync.ensures.crash f now))

pub returns-clause-written : goal.returns-clause-written
returns-clause-written g c =
    on_ok_weaker c.sync.result
    (λ durable f left.
    let told = mapped (put c.args.at c.args.piece.now) (g.S.Store.seen c.args.store.now) f (sym c.in_ok-write.ensures.written ∙ durable f left) in
    (told.0, g.met.S.Store.seen_may_stay c.args.store.now told.0 told.1, told.2))
    c.sync.ensures.durable
