use Rattle.std.proofs.Common.{◌≡◌, ◌==◌, true, Some, rules}
use Rattle.std.proofs.lemmas.Result.{err_from_is_err_and}
use Rattle.gs_core.specs.Node.{link_place}
use Rattle.gs_core.specs.Steps.{reading_fault}
use Rattle.gs_core.proofs.Refusing.{refused_for_reading}
use Rattle.gs_core.proofs.node.Core.admit_beacon.Goals as goal

pub returns-in_err-admit_reading-clause-err : goal.returns-in_err-admit_reading-clause-err
returns-in_err-admit_reading-clause-err c =
    let s = c.args.self.now in
    let b = c.args.beacon.now in
    let fault = c.in_err-admit_reading.field-0.0 in
    let cluster : (b.cluster == s.params.cluster) ≡ true = search rules in
    let place : link_place s.params b.sender ≡ Some c.in-Some.i = search rules in
    let reading : reading_fault s.params s.node c.args.now ≡ Some fault = search rules in
    let answer = err_from_is_err_and c.from_residual.result c.from_residual.ensures.1 in
    rw (answer.1, answer.2) (refused_for_reading s.params s.node b c.args.now c.in-Some.i fault cluster place reading)
