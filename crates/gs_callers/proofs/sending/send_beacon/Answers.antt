use Rattle.std.proofs.Common.{◌≡◌, ◌++◌, ℕ, Option, List, OnOk, OnErr, take, sym, subst}
use Rattle.gs_beacon.specs.declared.beacon.Beacon.{Beacon}
use Rattle.gs_net.specs.Tales.{OnTold}
use Rattle.gs_callers.specs.Sends.{sends_by, to_each}
use Rattle.gs_callers.proofs.Steps.{part_mapped}
use Rattle.gs_callers.proofs.sending.send_beacon.Goals as goal

pub returns-in-Some-clause-ok : goal.returns-in-Some-clause-ok
returns-in-Some-clause-ok g c =
    subst (λ (o : Option Beacon). OnOk c.send_to_each.result (g.O.Outlet.sent c.send_to_each.new.outlet ≡ OnTold (g.O.Outlet.sent c.args.outlet.now) (λ taken. taken ++ sends_by c.args.links.now o))) (sym c.in-Some.is)
    (subst (λ (d : List ℕ). OnOk c.send_to_each.result (g.O.Outlet.sent c.send_to_each.new.outlet ≡ OnTold (g.O.Outlet.sent c.args.outlet.now) (λ taken. taken ++ to_each c.args.links.now d))) c.encode.ensures.bytes c.send_to_each.ensures.ok)

pub returns-in-Some-clause-err : goal.returns-in-Some-clause-err
returns-in-Some-clause-err g c =
    subst (λ (o : Option Beacon). OnErr c.send_to_each.result ((k : ℕ) × (g.O.Outlet.sent c.send_to_each.new.outlet ≡ OnTold (g.O.Outlet.sent c.args.outlet.now) (λ taken. taken ++ take k (sends_by c.args.links.now o))))) (sym c.in-Some.is)
    (subst (λ (d : List ℕ). OnErr c.send_to_each.result ((k : ℕ) × (g.O.Outlet.sent c.send_to_each.new.outlet ≡ OnTold (g.O.Outlet.sent c.args.outlet.now) (λ taken. taken ++ take k (to_each c.args.links.now d))))) c.encode.ensures.bytes (part_mapped c.args.links.now c.encode.result c.send_to_each.result _ _ c.send_to_each.ensures.err))
