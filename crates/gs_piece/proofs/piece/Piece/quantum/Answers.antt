use Rattle.std.proofs.Common.{◌≡◌, ◌+◌, ◌<◌, ◌^◌, ℕ, arith, ap, sym, subst, refl, ◌∙◌, rules, List, [], length, slice_index, slice_set}
use Rattle.std.specs.Vec.{with_items}
use Rattle.std.proofs.lemmas.List.{get_or_default, with_items_is}
use Rattle.gs_run.specs.Nets.{net_of}
use Rattle.gs_calendar.specs.Course.{course_of}
use Rattle.gs_piece.proofs.Clocks.{IsCalmQuantum, fasts_are, seats_of, steps_fit}
use Rattle.gs_piece.proofs.Quanta.{has_rows_next, piece_next, writes_of}
use Rattle.gs_piece.proofs.piece.Piece.quantum.Goals as goal

pub advance-requires-clause-room : goal.advance-requires-clause-room
advance-requires-clause-room c =
    let p = c.args.plan.now in
    let s = c.args.script.now in
    let m = c.args.m in
    let t = m + c.args.j in
    let q : IsCalmQuantum p s t = record { read = c.requires.read; end = c.requires.end; calm = c.requires.calm } in
    let a = c.requires.piece.0 in
    let b = c.requires.piece.1 in
    let is = c.requires.piece.2 in
    let old = c.args.self.now in
    subst (λ (xs : List ℕ). (i : ℕ) → i < length xs → slice_index xs i + slice_index old.nodes.steps.items i < 2 ^ 64) (sym c.deref_mut.ensures.value)
    (steps_fit p s a b m t old.nodes old.clocks.items q is.nodes is.clocks)

pub advance-requires-clause-read : goal.advance-requires-clause-read
advance-requires-clause-read c =
    let p = c.args.plan.now in
    let s = c.args.script.now in
    let m = c.args.m in
    let t = m + c.args.j in
    let q : IsCalmQuantum p s t = record { read = c.requires.read; end = c.requires.end; calm = c.requires.calm } in
    (p, s, λ v x. m, c.requires.piece.0, m, seats_of p s c.requires.piece.0 c.requires.piece.1 m t c.args.self.now.nodes q c.requires.piece.2.nodes)

pub copy-requires : goal.copy-requires
copy-requires c =
    let old = c.args.self.now in
    let is = c.requires.piece.2 in
    let j = c.args.j in
    let few = c.requires.window.few in
    let long = is.rows in
    let row = c.index_mut-2.ensures.value ∙ get_or_default old.rows.items j c.index_mut-2.result.now [] (omega (arith, few, long)) in
    let count = ap length row in
    let has = is.row j (omega (arith, few)) in
    let clocks = is.clocks.count in
    let cells = c.deref.ensures.len in
    let kept : (with_items old.clocks c.advance.new.clocks).len ≡ old.clocks.len = refl in
    let ok = old.clocks.ok in
    let whole : length old.clocks.items ≡ old.clocks.len = search rules in
    omega (arith, count, has, clocks, cells, kept, whole)

pub returns-clause-piece : goal.returns-clause-piece
returns-clause-piece c = λ a b is.
    let p = c.args.plan.now in
    let s = c.args.script.now in
    let m = c.args.m in
    let j = c.args.j in
    let t = m + j in
    let q : IsCalmQuantum p s t = record { read = c.requires.read; end = c.requires.end; calm = c.requires.calm } in
    let old = c.args.self.now in
    let new = c.advance.new.clocks in
    let begun = c.deref_mut.ensures.value in
    let long : length new ≡ length old.clocks.items = c.advance.ensures.count ∙ ap length begun in
    let cells : length new ≡ old.clocks.len = search rules in
    let written : (with_items old.clocks new).items ≡ new = with_items_is old.clocks new cells in
    let short = c.requires.window.few in
    piece_next (net_of p) (course_of s) a b m t j c.advance.result old _ (omega (arith, short))
    (writes_of p s a b m t j c.advance.result old _ new q is written long
    (λ i h slow. c.advance.ensures.slow i h slow ∙ ap (λ (xs : List ℕ). slice_index xs i + slice_index old.nodes.steps.items i) begun)
    (λ i h fast. c.advance.ensures.fast p s (λ v x. m) a m i (seats_of p s a b m t old.nodes q is.nodes) h fast)
    (ap (slice_set old.rows.items j) (c.copy.ensures ∙ c.deref.ensures.value ∙ written))
    refl)
    (c.take_turns.ensures a b m c.requires.window is.nodes)
    is

pub returns-clause-rows : goal.returns-clause-rows
returns-clause-rows c = λ a b is has.
    let p = c.args.plan.now in
    let s = c.args.script.now in
    let m = c.args.m in
    let j = c.args.j in
    let t = m + j in
    let q : IsCalmQuantum p s t = record { read = c.requires.read; end = c.requires.end; calm = c.requires.calm } in
    let old = c.args.self.now in
    let new = c.advance.new.clocks in
    let begun = c.deref_mut.ensures.value in
    let long : length new ≡ length old.clocks.items = c.advance.ensures.count ∙ ap length begun in
    let cells : length new ≡ old.clocks.len = search rules in
    let written : (with_items old.clocks new).items ≡ new = with_items_is old.clocks new cells in
    let short = c.requires.window.few in
    has_rows_next (net_of p) (course_of s) a b m j c.advance.result old _ (omega (arith, short))
    (c.advance.ensures.number ∙ fasts_are (net_of p) (course_of s) a b m t old.nodes is.nodes)
    (writes_of p s a b m t j c.advance.result old _ new q is written long
    (λ i h slow. c.advance.ensures.slow i h slow ∙ ap (λ (xs : List ℕ). slice_index xs i + slice_index old.nodes.steps.items i) begun)
    (λ i h fast. c.advance.ensures.fast p s (λ v x. m) a m i (seats_of p s a b m t old.nodes q is.nodes) h fast)
    (ap (slice_set old.rows.items j) (c.copy.ensures ∙ c.deref.ensures.value ∙ written))
    refl)
    has
