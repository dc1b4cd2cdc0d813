-- Behind the quantum itself a quantum has deliveries and ticks alone.
use Rattle.std.proofs.Common.{ℕ, List, ◌++◌, filter}
use Rattle.std.specs.List.{AllByRecursion}
use Rattle.gs_core.specs.declared.event.Event.{Event}
use Rattle.gs_core.specs.declared.event.Event.TheVariants.{Quantum, Tick, Deliver}
use Rattle.gs_core.specs.inside.Events.{IsNoQuantum}
use Rattle.gs_run.specs.Net.{Net}
use Rattle.gs_calendar.specs.Calendar.{ticks}
use Rattle.gs_calendar.specs.Course.{Course}
use Rattle.gs_calendar.specs.Events.{nodes_of, ticks_at}
use Rattle.gs_calendar.proofs.OneSeat.{IsDelivery, all_deliveries, are_deliveries}
use Rattle.gs_calendar.proofs.Parts.{each_append, each_map, each_any, each_weaker}

delivery_is_no_quantum : (e : Event) → IsDelivery e → IsNoQuantum e
delivery_is_no_quantum (Quantum incs) h = h
delivery_is_no_quantum (Tick v) h = tt
delivery_is_no_quantum (Deliver from to seq) h = tt

pub rest_is_no_quantum : (net : Net) (c : Course) (t : ℕ) → AllByRecursion IsNoQuantum (all_deliveries net c t ++ ticks_at net c t)
rest_is_no_quantum net c t =
    let ticking : List ℕ = filter (λ v. ticks net c v t) (nodes_of net) in
    each_append IsNoQuantum (all_deliveries net c t) (ticks_at net c t)
    (each_weaker IsDelivery IsNoQuantum delivery_is_no_quantum (all_deliveries net c t) (are_deliveries net c t (nodes_of net)))
    (each_map IsNoQuantum Tick ticking (each_any _ (λ v. tt) ticking))
