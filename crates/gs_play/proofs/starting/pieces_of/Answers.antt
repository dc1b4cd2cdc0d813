use Rattle.std.proofs.Common.{◌≡◌, ◌+◌, ◌*◌, ◌<◌, ◌≤◌, ℕ, arith, ap, sym, subst, ◌∙◌, min, List, [], ◌∷◌, ◌++◌, length, length-append, rules}
use Rattle.std.proofs.lemmas.Grind.{div_ceil_times}
use Rattle.std.proofs.Math.Nat.{mul-le-mul_right}
use Rattle.gs_run.specs.Nets.{net_of}
use Rattle.gs_calendar.specs.Course.{course_of}
use Rattle.gs_piece.specs.Pieces.{IsPieceIn}
use Rattle.gs_piece.specs.declared.piece.Piece.{Piece}
use Rattle.gs_play.proofs.Pushed.{each_pushed}
use Rattle.gs_play.proofs.starting.pieces_of.Goals as goal

pub loop-i-preserved : goal.loop-i-preserved
loop-i-preserved c =
    let net = net_of c.args.plan.now in
    let course = course_of c.args.script.now in
    let size = c.args.size in
    let i = c.loop-i.i in
    let x : Piece = c.in_ok-start.field-0 in
    let old : List Piece = c.loop-i.pieces.items in
    let new : List Piece = c.push.new.self.items in
    let count = c.loop-i.invariant.count in
    let pushed : new ≡ old ++ x ∷ [] = search rules in
    let started : IsPieceIn net course (i * size) (min net.nodes (i * size + size)) 0 0 x = search rules in
    let Is : ℕ → Piece → Type 0 = λ k p. IsPieceIn net course (k * size) (min net.nodes (k * size + size)) 0 0 p in
    record {
      count = ap length pushed ∙ (let n = length-append old (x ∷ []) in omega (arith, n, count));
      each = λ k d h. each_pushed Is old new x pushed (subst (λ n. Is n x) (sym count) started) (λ j e less. c.loop-i.invariant.each j e (omega (arith, less, count))) k d (omega (arith, h, count));
    }

pub returns-clause-pieces : goal.returns-clause-pieces
returns-clause-pieces c =
    let stop = c.loop-i-test.false in
    let count = c.loop-i.invariant.count in
    let size = c.args.size in
    let nodes = c.nodes-nodes.result in
    let is : nodes ≡ (net_of c.args.plan.now).nodes = search rules in
    let enough = (div_ceil_times nodes size c.requires.size).0 in
    let ceil = c.div_ceil-i-end.ensures in
    let many : nodes ≤ c.div_ceil-i-end.result * size = subst (λ n. nodes ≤ n * size) (sym ceil) enough in
    let end : c.div_ceil-i-end.result * size ≤ length c.loop-i.pieces.items * size = mul-le-mul_right {m = c.div_ceil-i-end.result} {n = length c.loop-i.pieces.items} size (omega (arith, stop, count)) in
    record {
      all = omega (arith, is, many, end);
      each = λ k d h. c.loop-i.invariant.each k d (omega (arith, h, count));
    }

pub returns-clause-few : goal.returns-clause-few
returns-clause-few c =
    let count = c.loop-i.invariant.count in
    let last = c.loop-i.auto.i-end in
    let size = c.args.size in
    let nodes = c.nodes-nodes.result in
    let is : nodes ≡ (net_of c.args.plan.now).nodes = search rules in
    let short = (div_ceil_times nodes size c.requires.size).1 in
    let ceil = c.div_ceil-i-end.ensures in
    let few : c.div_ceil-i-end.result * size < nodes + size = subst (λ n. n * size < nodes + size) (sym ceil) short in
    let end : length c.loop-i.pieces.items * size ≤ c.div_ceil-i-end.result * size = mul-le-mul_right {m = length c.loop-i.pieces.items} {n = c.div_ceil-i-end.result} size (omega (arith, last, count)) in
    omega (arith, is, few, end)
