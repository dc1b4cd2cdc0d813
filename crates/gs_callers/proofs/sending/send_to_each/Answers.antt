use Rattle.std.proofs.Common.{arith, ◌≤◌, ◌++◌, ◌∙◌, List, length, ap}
use Rattle.std.proofs.lemmas.List.{take_all}
use Rattle.gs_units.specs.declared.params.Link.{Link}
use Rattle.gs_net.specs.Tales.{OnTold}
use Rattle.gs_callers.specs.Sends.{to_each}
use Rattle.gs_callers.proofs.sending.send_to_each.Goals as goal

pub returns-clause-ok : goal.returns-clause-ok
returns-clause-ok g c =
    let le : length c.args.links.now ≤ c.loop-link.link-index = omega arith in
    c.loop-link.invariant.sent ∙ ap (λ (z : List Link). OnTold (g.O.Outlet.sent c.args.outlet.now) (λ taken. taken ++ to_each z c.args.datagram.now)) (take_all c.loop-link.link-index c.args.links.now le)
