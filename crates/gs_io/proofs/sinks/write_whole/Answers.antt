use Rattle.std.proofs.Common.{rules, ◌≡◌, ◌++◌, [], take, drop, sym, ◌∙◌, append_assoc, append-nil}
use Rattle.std.proofs.lemmas.List.{take-append-drop}
use Rattle.gs_io.proofs.Writing.{then_appends, then_appends_front, whole_is_front}
use Rattle.gs_io.proofs.sinks.write_whole.Goals as goal

pub returns-in_err-taken-clause-err : goal.returns-in_err-taken-clause-err
returns-in_err-taken-clause-err g c =
    let front = c.loop-rest.invariant.0 in
    let rest = c.loop-rest.rest.now in
    let whole : c.args.piece.now ≡ front ++ (rest ++ []) = rw (append-nil rest) c.loop-rest.invariant.1 in
    let got = then_appends_front (g.W.Write.contents c.args.stream.now) (g.W.Write.contents c.loop-rest.stream) (g.W.Write.contents c.write_some.new.stream) c.args.piece.now front rest [] whole c.loop-rest.invariant.2 c.in_err-taken.ensures.err in
    search (rules, got)

pub loop-rest-preserved : goal.loop-rest-preserved
loop-rest-preserved g c =
    let front = c.loop-rest.invariant.0 in
    let rest = c.loop-rest.rest.now in
    let line = take c.in_ok-taken.taken rest in
    let after = drop c.in_ok-taken.taken rest in
    let whole : c.args.piece.now ≡ (front ++ line) ++ after = rw (append_assoc front line after, take-append-drop c.in_ok-taken.taken rest) c.loop-rest.invariant.1 in
    let got = then_appends (g.W.Write.contents c.args.stream.now) (g.W.Write.contents c.loop-rest.stream) (g.W.Write.contents c.write_some.new.stream) front line c.loop-rest.invariant.2 c.in_ok-taken.ensures.ok in
    let left : c.split_at.result.1.now ≡ after = search rules in
    (front ++ line, rw left whole, got)

pub returns-clause-err : goal.returns-clause-err
returns-clause-err g c =
    let rest = c.loop-rest.rest.now in
    let got = whole_is_front (g.W.Write.contents c.args.stream.now) (g.W.Write.contents c.loop-rest.stream) (g.W.Write.contents c.flush.new.self) c.args.piece.now c.loop-rest.invariant.0 rest c.loop-rest.invariant.1 (sym c.is_empty.ensures ∙ c.loop-rest-test.false) c.loop-rest.invariant.2 c.flush.ensures.bytes in
    search (rules, got)
