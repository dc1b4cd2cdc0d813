use Rattle.std.proofs.Common.{◌≡◌, ℕ, suc, ◌+◌, ◌*◌, ◌<◌, ◌^◌, arith, ap, sym, subst, ◌∙◌, min, List, ◌++◌, length, map, rules}
use Rattle.std.specs.List.{range_with_len}
use Rattle.std.proofs.Math.Nat.{mul-le-mul_right}
use Rattle.gs_piece.specs.Columns.{clock_at}
use Rattle.gs_piece.specs.Pieces.{HasRows, fast_among}
use Rattle.gs_piece.specs.declared.piece.Piece.{Piece}
use Rattle.gs_play.proofs.Gathered.{fast_more, fast_of_all, row_more, row_of_all}
use Rattle.gs_play.proofs.gathering.gather.Goals as goal

pub row-requires : goal.row-requires
row-requires c =
    let r = c.requires.rows in
    let i = c.loop-i.i in
    let d : Piece = c.index-pieces-i.result in
    let a = i * r.2 in
    let b = min r.0.nodes (i * r.2 + r.2) in
    (r.0, r.1, a, b, r.3, r.4, r.5, subst (HasRows r.0 r.1 a b r.3 r.4) (sym c.index-pieces-i.is) (r.6.each i d c.loop-i-test.true))

pub fasts-requires : goal.fasts-requires
fasts-requires c =
    let r = c.requires.rows in
    let i = c.loop-i.i in
    let d : Piece = c.index-pieces-i-in-loop-i.result in
    let a = i * r.2 in
    let b = min r.0.nodes (i * r.2 + r.2) in
    (r.0, r.1, a, b, r.3, r.4, r.5, subst (HasRows r.0 r.1 a b r.3 r.4) (sym c.index-pieces-i-in-loop-i.is) (r.6.each i d c.loop-i-test.true))

pub loop-i-preserved : goal.loop-i-preserved
loop-i-preserved c =
    let i = c.loop-i.i in
    let j = c.args.j in
    let part : List ℕ = c.row.result.now in
    record {
      few = (let few = c.loop-i.invariant.few in let sum : c.from-fast.result < 2 ^ 32 = search rules in omega (arith, few, sum));
      clocks = λ net course size m n less have.
          let a = i * size in
          let b = min net.nodes (i * size + size) in
          let d : Piece = c.index-pieces-i.result in
          let rows : HasRows net course a b m n d = subst (HasRows net course a b m n) (sym c.index-pieces-i.is) (have.each i d c.loop-i-test.true) in
          let count = c.row.ensures.count net course a b m n less rows in
          let here : min net.nodes (i * size) ≡ a = omega (arith, count) in
          let next : min net.nodes ((i + 1) * size) ≡ b = (let one : (i + 1) * size ≡ i * size + size = omega arith in omega (arith, one)) in
          let f : ℕ → ℕ = clock_at net course (suc (m + j)) in
          let old : c.loop-i.row.items ≡ map f (range_with_len 0 a) = c.loop-i.invariant.clocks net course size m n less have ∙ ap (λ k. map f (range_with_len 0 k)) here in
          let grown : c.extend_from_slice.new.self.items ≡ c.loop-i.row.items ++ part = search rules in
          grown ∙ row_more f a b c.loop-i.row.items part count old (λ k h. c.row.ensures.clocks net course a b m n k less h rows) ∙ ap (λ k. map f (range_with_len 0 k)) (sym next);
      fast = λ net course size m n less have.
          let a = i * size in
          let b = min net.nodes (i * size + size) in
          let d : Piece = c.index-pieces-i-in-loop-i.result in
          let rows : HasRows net course a b m n d = subst (HasRows net course a b m n) (sym c.index-pieces-i-in-loop-i.is) (have.each i d c.loop-i-test.true) in
          let count = rows.count j less in
          let here : min net.nodes (i * size) ≡ a = omega (arith, count) in
          let next : min net.nodes ((i + 1) * size) ≡ b = (let one : (i + 1) * size ≡ i * size + size = omega arith in omega (arith, one)) in
          let old : c.loop-i.fast ≡ fast_among net course 0 a (m + j) = c.loop-i.invariant.fast net course size m n less have ∙ ap (λ k. fast_among net course 0 k (m + j)) here in
          let given = c.fasts.ensures net course a b m n less rows in
          let own : c.from-fast.result ≡ fast_among net course a b (m + j) = search rules in
          let both = fast_more net course a b (m + j) (omega (arith, count)) in
          (omega (arith, old, own, both)) ∙ ap (λ k. fast_among net course 0 k (m + j)) (sym next);
    }

pub returns-clause-clocks : goal.returns-clause-clocks
returns-clause-clocks c = λ net course size m n less have.
    let all = have.all in
    let end = mul-le-mul_right {m = length c.args.pieces.now} {n = c.loop-i.i} size c.loop-i-test.false in
    let whole : min net.nodes (c.loop-i.i * size) ≡ net.nodes = omega (arith, all, end) in
    c.loop-i.invariant.clocks net course size m n less have ∙ ap (λ k. map (clock_at net course (suc (m + c.args.j))) (range_with_len 0 k)) whole ∙ row_of_all net course (suc (m + c.args.j))

pub returns-clause-fast : goal.returns-clause-fast
returns-clause-fast c = λ net course size m n less have.
    let all = have.all in
    let end = mul-le-mul_right {m = length c.args.pieces.now} {n = c.loop-i.i} size c.loop-i-test.false in
    let whole : min net.nodes (c.loop-i.i * size) ≡ net.nodes = omega (arith, all, end) in
    c.loop-i.invariant.fast net course size m n less have ∙ ap (λ k. fast_among net course 0 k (m + c.args.j)) whole ∙ fast_of_all net course (m + c.args.j)
