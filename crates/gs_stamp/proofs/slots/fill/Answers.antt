use Rattle.std.proofs.Common.{◌≡◌, inl, ◌⊎◌, ℕ, ◌+◌, [], ◌∷◌, List, length, Some, None, option_map, subst, ◌∙◌, sym, ap, arith}
use Rattle.std.proofs.lemmas.Result.{on_ok_weaker}
use Rattle.byteorder.specs.Endian.{big_bytes}
use Rattle.gs_stamp.specs.Disk.{LeavesOnly, Torn, put}
use Rattle.gs_stamp.specs.Format.{With, place_of}
use Rattle.gs_stamp.proofs.Filling.{as_one, maps, opened, torn_open}
use Rattle.gs_stamp.proofs.Moments.{then_runs, weaker}
use Rattle.gs_stamp.proofs.Parts.{number_torn}
use Rattle.gs_stamp.proofs.slots.fill.Goals as goal

pub returns-in_err-write_down-clause-during : goal.returns-in_err-write_down-clause-during
returns-in_err-write_down-clause-during g c =
    let slot = c.args.slot in
    weaker g.S.Store.moment g.S.Store.left_since c.args.store.now c.write_down.new.store _ _
    (λ f (d, may, torn).
    let at = subst (λ (l : List ℕ). Torn (c.place.result + 1) (length l) d f) c.number_bytes.ensures torn in
    (d, may, inl (number_torn slot d f (c.requires d may) (subst (λ (p : ℕ). Torn (p + 1) 8 d f) c.place.ensures at))))
    c.write_down.ensures.during

pub returns-clause-filled : goal.returns-clause-filled
returns-clause-filled g c =
    let slot = c.args.slot in
    let number = big_bytes 8 c.args.ceiling in
    on_ok_weaker c.write_down-2.result
    (λ written f left.
    let (e, may_e, is_f) = written f left in
    let (d, may, is_e) = c.in_ok-write_down.ensures.written e may_e in
    let whole = g.met.S.Store.size c.args.store.now d may in
    let is : f ≡ put (place_of slot) (1 ∷ []) (put (place_of slot + 1) number d) =
    is_f ∙ ap (λ (p : ℕ). put p (1 ∷ []) e) c.place-2.ensures
    ∙ ap (λ (l : List ℕ). put (place_of slot) (1 ∷ []) l) (is_e ∙ ap (λ (p : ℕ). put (p + 1) c.number_bytes.result d) c.place.ensures ∙ ap (λ (l : List ℕ). put (place_of slot + 1) l d) c.number_bytes.ensures) in
    (d, may, subst (λ (l : List ℕ). With slot (Some c.args.ceiling) d l) (sym is) (opened slot c.args.ceiling (omega arith) d whole (c.requires d may))))
    c.write_down-2.ensures.written

pub returns-clause-bytes : goal.returns-clause-bytes
returns-clause-bytes g c =
    let slot = c.args.slot in
    let number = big_bytes 8 c.args.ceiling in
    let old = g.S.Store.seen c.args.store.now in
    on_ok_weaker c.write_down-2.result
    (λ second.
    second ∙ ap (λ (p : ℕ). option_map (put p (1 ∷ [])) (g.S.Store.seen c.write_down.new.store)) c.place-2.ensures
    ∙ ap (option_map (put (place_of slot) (1 ∷ [])))
    (c.in_ok-write_down.ensures.bytes ∙ ap (λ (p : ℕ). option_map (put (p + 1) c.number_bytes.result) old) c.place.ensures ∙ ap (λ (l : List ℕ). option_map (put (place_of slot + 1) l) old) c.number_bytes.ensures)
    ∙ maps (put (place_of slot) (1 ∷ [])) (put (place_of slot + 1) number) (put (place_of slot) (1 ∷ number)) old
    (λ b told.
    let may = g.met.S.Store.seen_may_stay c.args.store.now b told in
    as_one slot c.args.ceiling (omega arith) b (g.met.S.Store.size c.args.store.now b may) (c.requires b may)))
    c.write_down-2.ensures.bytes

pub returns-clause-during : goal.returns-clause-during
returns-clause-during g c =
    let slot = c.args.slot in
    let number = big_bytes 8 c.args.ceiling in
    let P = λ (f : List ℕ). (d : List ℕ) × g.S.Store.may_leave c.args.store.now d × (With slot None d f ⊎ With slot (Some c.args.ceiling) d f) in
    let first : LeavesOnly g.S.Store.moment g.S.Store.left_since c.args.store.now c.write_down.new.store P =
    weaker g.S.Store.moment g.S.Store.left_since c.args.store.now c.write_down.new.store _ _
    (λ f (d, may, torn).
    let at = subst (λ (l : List ℕ). Torn (c.place.result + 1) (length l) d f) c.number_bytes.ensures torn in
    (d, may, inl (number_torn slot d f (c.requires d may) (subst (λ (p : ℕ). Torn (p + 1) 8 d f) c.place.ensures at))))
    c.write_down.ensures.during in
    let second : LeavesOnly g.S.Store.moment g.S.Store.left_since c.write_down.new.store c.write_down-2.new.store P =
    weaker g.S.Store.moment g.S.Store.left_since c.write_down.new.store c.write_down-2.new.store _ _
    (λ f (e, may_e, torn).
    let (d, may, is_e) = c.in_ok-write_down.ensures.written e may_e in
    let whole = g.met.S.Store.size c.args.store.now d may in
    let is : e ≡ put (place_of slot + 1) number d = is_e ∙ ap (λ (p : ℕ). put (p + 1) c.number_bytes.result d) c.place.ensures ∙ ap (λ (l : List ℕ). put (place_of slot + 1) l d) c.number_bytes.ensures in
    let there = subst (λ (l : List ℕ). Torn (place_of slot) 1 l f) is (subst (λ (p : ℕ). Torn p 1 e f) c.place-2.ensures torn) in
    (d, may, torn_open slot c.args.ceiling (omega arith) d whole (c.requires d may) f there))
    c.write_down-2.ensures.during in
    then_runs g.S.Store.moment g.S.Store.left_since c.args.store.now c.write_down.new.store c.write_down-2.new.store P first second
