use Rattle.std.proofs.Common.{◌≡◌, ◌+◌, ◌-◌, ℕ, arith, ap, sym, ◌∙◌, List, length, slice_index, replicate, rules}
use Rattle.std.proofs.lemmas.List.{get_or-replicate, length-replicate}
use Rattle.gs_run.specs.Nets.{net_of}
use Rattle.gs_calendar.specs.Course.{course_of}
use Rattle.gs_piece.specs.Nodes.{AreNodes, none_handed}
use Rattle.gs_piece.proofs.Quanta.{start_clock}
use Rattle.gs_piece.proofs.piece.Piece.start.Goals as goal

pub returns : goal.returns
returns c =
    let net = net_of c.args.plan.now in
    let course = course_of c.args.script.now in
    let first = c.args.first in
    let end = c.args.end in
    let order = c.requires.inside.0 in
    let within = c.requires.inside.1 in
    let nodes : AreNodes net course (none_handed 0) first end 0 (λ i. 0) c.in_ok-start.field-0 = search rules in
    let zeros : c.in_ok-vec.field-0.items ≡ replicate {A = ℕ} (end - first) 0 = search rules in
    let counts : c.in_ok-vec-2.field-0.items ≡ replicate {A = ℕ} 64 0 = search rules in
    let stop = c.loop-test.false in
    let full = c.loop.auto.counter-end in
    let rows = c.loop.invariant.count in
    let count = ap length zeros ∙ length-replicate {A = ℕ} (end - first) 0 in
    record {
      nodes = nodes;
      clocks = record {
        count = omega (arith, count, order);
        clock = λ i h. ap (λ (xs : List ℕ). slice_index xs i) zeros ∙ get_or-replicate (end - first) i 0 0 (omega (arith, h)) ∙ sym (start_clock net course (first + i) (omega (arith, h, within)));
      };
      rows = omega (arith, stop, full, rows);
      row = λ j h. let each = c.loop.invariant.each j (omega (arith, h, stop, full)) in omega (arith, each, order);
      fasts = ap length counts ∙ length-replicate {A = ℕ} 64 0;
    }
