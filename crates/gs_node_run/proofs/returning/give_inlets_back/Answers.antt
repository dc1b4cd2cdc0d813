use Rattle.std.proofs.Common.{arith, ◌≡◌, ◌∙◌, ◌++◌, List, [], map, ap, sym}
use Rattle.gs_net.specs.Lending.{returned_inlet}
use Rattle.gs_net.specs.Tales.{OnTold}
use Rattle.gs_node_run.proofs.Telling.{none_left, none_told}
use Rattle.gs_node_run.proofs.returning.give_inlets_back.Goals as goal

pub returns-clause-back : goal.returns-clause-back
returns-clause-back g c =
    let ended = c.in-None.ensures.steps.0 in
    let none : c.loop-inlet.inlet-iterator.rest.items ≡ [] = none_left c.loop-inlet.inlet-iterator.rest.items (omega (arith, ended)) in
    let told = g.P.Ports.back c.loop-inlet.ports in
    sym (none_told told) ∙ (ap (λ (xs : List _). OnTold told (λ before. before ++ map (λ inlet. returned_inlet inlet) xs)) (sym none) ∙ c.loop-inlet.invariant.back)
