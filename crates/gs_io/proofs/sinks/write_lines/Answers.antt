use Rattle.std.proofs.Common.{rules, ◌≡◌, ◌++◌, arith, refl, append_assoc}
use Rattle.gs_io.proofs.Writing.{then_appends, then_appends_front}
use Rattle.gs_io.proofs.sinks.write_lines.Goals as goal

pub returns-in_err-write-clause-err : goal.returns-in_err-write-clause-err
returns-in_err-write-clause-err g c =
    let front = c.loop-rest.invariant.0 in
    let line = c.split_line.result.0.now in
    let after = c.split_line.result.1.now in
    let whole : c.args.text.now ≡ front ++ (line ++ after) = rw (c.loop-rest.invariant.1, c.split_line.ensures.whole) refl in
    let got = then_appends_front (g.K.Sink.bytes c.args.out.now) (g.K.Sink.bytes c.loop-rest.out) (g.K.Sink.bytes c.write.new.self) c.args.text.now front line after whole c.loop-rest.invariant.2 c.in_err-write.ensures.err in
    search (rules, got)

pub loop-rest-preserved : goal.loop-rest-preserved
loop-rest-preserved g c =
    let front = c.loop-rest.invariant.0 in
    let line = c.split_line.result.0.now in
    let after = c.split_line.result.1.now in
    let whole : c.args.text.now ≡ front ++ line ++ after = rw (append_assoc front line after, c.loop-rest.invariant.1, c.split_line.ensures.whole) refl in
    let got = then_appends (g.K.Sink.bytes c.args.out.now) (g.K.Sink.bytes c.loop-rest.out) (g.K.Sink.bytes c.write.new.self) front line c.loop-rest.invariant.2 c.in_ok-write.ensures.ok in
    (front ++ line, whole, got, omega (arith, c.loop-rest.invariant.3, c.write.ensures.cause.later))
