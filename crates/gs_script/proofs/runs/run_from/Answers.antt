use Rattle.std.proofs.Common.{◌≡◌, ◌≤◌, arith, refl, slice_index_or}
use Rattle.std.proofs.lemmas.List.{get_or_default}
use Rattle.gs_script.specs.declared.run.Run.{Run}
use Rattle.gs_script.proofs.Painting.{none_lasts, run_lasts}
use Rattle.gs_script.proofs.runs.run_from.Goals as goal

pub returns-then-t-items : goal.returns-then-t-items
returns-then-t-items c =
    let xs = c.args.items.now in
    let i = c.loop-i.i in
    let none : Run = record { value = 0; until = 0 } in
    run_lasts c.args.t xs i (slice_index_or xs i none) c.loop-i.invariant c.loop-i-test.true (get_or_default xs i none (slice_index_or xs i none) c.loop-i-test.true) c.if-t-items.true

pub returns : goal.returns
returns c =
    let end = c.loop-i-test.false in
    none_lasts c.args.t 4294967295 c.args.items.now (λ j d there. c.loop-i.invariant j d (omega (arith, there, end)) there) (omega arith)
