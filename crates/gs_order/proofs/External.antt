-- A commit wait orders events: no clock is behind another by more than it, and none ever falls.
use Rattle.std.proofs.Common.{◌≡◌, ℕ, ◌+◌, ◌<◌, ◌≤◌, arith, ◌∙◌, length, take, slice_index}
use Rattle.std.proofs.lemmas.List.{length-map}
use Rattle.std.proofs.lemmas.List.FromFn.{length-map-range_with_len}
use Rattle.gs_core.specs.Node.{clock_of}
use Rattle.gs_run.specs.Net.{Net}
use Rattle.gs_run.specs.Nets.{net_of}
use Rattle.gs_run.specs.Run.{run}
use Rattle.gs_run.specs.World.{World, clocks_in, member_at_start, world_at_start}
use Rattle.gs_run.specs.Headline.{IsWithinPlan}
use Rattle.gs_run.proofs.Pairs.{within_global_skew}
use Rattle.gs_run.proofs.PlanBounds.{plans_keep_bounds}
use Rattle.gs_run.proofs.Rising.{later_rises, run_rises}
use Rattle.gs_run.proofs.Theorems.{clock_at}
use Rattle.gs_order.specs.Laws.{CommitWaitsOrderEvents}

pub events_are_ordered : CommitWaitsOrderEvents
events_are_ordered p hw l0 es stamp i j v u allowed le hv hu can =
    let net : Net = net_of p in
    let start : World = world_at_start net hw l0 in
    let w : World = run net start (take i es) in
    let within : IsWithinPlan p w = (plans_keep_bounds p hw l0 es allowed).moments i in
    let global = within.global in
    let nodes : length start.members ≡ net.nodes =
    length-map-range_with_len (λ x. member_at_start net x (slice_index hw x) l0) 0 net.nodes in
    let count : length w.members ≡ net.nodes = (run_rises net start (take i es)).count ∙ nodes in
    let long : length (clocks_in net w) ≡ length w.members = length-map w.members (λ m. clock_of net.rate m.node m.reading) in
    let apart = within_global_skew (clocks_in net w) u v (omega (arith, long, count, hu)) (omega (arith, long, count, hv)) in
    let clock_u = clock_at net w u (omega (arith, count, hu)) in
    let clock_v = clock_at net w v (omega (arith, count, hv)) in
    let later = (later_rises net start es i j le).clocks u (omega (arith, count, hu)) in
    omega (arith, apart, clock_u, clock_v, global, later, can)
