use Rattle.std.proofs.Common.{rules, ◌+◌, arith, sym, subst}
use Rattle.gs_run.specs.Nets.{net_of}
use Rattle.gs_calendar.specs.Course.{course_of}
use Rattle.gs_piece.specs.Pieces.{HasRows, IsPieceIn}
use Rattle.gs_play.proofs.running.run_pieces.Goals as goal

pub for_each_chunk_mut-requires-clause-accepts : goal.for_each_chunk_mut-requires-clause-accepts
for_each_chunk_mut-requires-clause-accepts g c = λ κs alive start p is.
    let ready = c.requires.ready in
    let within = is.in_bounds in
    let few = c.requires.few in
    let net = net_of c.args.plan.now in
    let course = course_of c.args.script.now in (
      (
        omega (arith, within, few),
        record {
          read = ready.read;
          end = ready.end;
          calm = ready.calm;
          window = ready.window;
          pieces = λ i d h.
              let at = ready.pieces (start + i) d (omega (arith, h, within)) in
              (at.0, at.1, subst (IsPieceIn net course at.0 at.1 c.args.m c.args.m) (sym (is.elements i d h)) at.2);
        },
      ),
      search rules,
    )

pub returns-clause-run : goal.returns-clause-run
returns-clause-run g c = record {
  pieces = λ i d a b h is.
      let k = (c.for_each_chunk_mut.ensures.by_index i d h).1 in
      subst (IsPieceIn (net_of c.args.plan.now) (course_of c.args.script.now) a b c.args.m (c.args.m + c.args.n)) k.new_element
      (k.call.pieces k.offset d a b k.offset_in_chunk (subst (IsPieceIn (net_of c.args.plan.now) (course_of c.args.script.now) a b c.args.m c.args.m) (sym k.old_element) is));
  rows = λ i d a b h is.
      let k = (c.for_each_chunk_mut.ensures.by_index i d h).1 in
      subst (HasRows (net_of c.args.plan.now) (course_of c.args.script.now) a b c.args.m c.args.n) k.new_element
      (k.call.rows k.offset d a b k.offset_in_chunk (subst (IsPieceIn (net_of c.args.plan.now) (course_of c.args.script.now) a b c.args.m c.args.m) (sym k.old_element) is));
}
