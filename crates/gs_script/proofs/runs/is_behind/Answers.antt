use Rattle.std.proofs.Common.{◌<◌, ◌-◌, arith, subst}
use Rattle.std.proofs.lemmas.Bool.{ltb-true}
use Rattle.gs_script.proofs.Painting.{all_behind}
use Rattle.gs_script.proofs.runs.is_behind.Goals as goal

pub returns-in-Some : goal.returns-in-Some
returns-in-Some c = λ ended j d less there.
    let some = c.if-place-eq0.false in
    let found = c.in-Some.run'.now in
    let inside = c.in-Some.ensures.lookup.3.0 in
    let is = c.in-Some.ensures.lookup.3.1 found in
    all_behind c.args.t c.args.items.now (c.args.place - 1) found c.requires inside is (ltb-true found.until c.args.t ended) j d (omega (arith, some, less)) there
