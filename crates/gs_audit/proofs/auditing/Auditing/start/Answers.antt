use Rattle.std.proofs.Common.{◌≡◌, ◌∷◌, [], List, ℕ, ap, refl, length, ◌∙◌, rules}
use Rattle.std.specs.Vec.{with_items}
use Rattle.std.proofs.lemmas.List.{with_items_is}
use Rattle.gs_plan.specs.Plans.{graph_of}
use Rattle.gs_plan.specs.declared.plan.Plan.{Plan}
use Rattle.gs_level.specs.Tallies.{tally_of}
use Rattle.gs_run.specs.Nets.{net_of}
use Rattle.gs_world.specs.Placed.{Placed}
use Rattle.gs_run.specs.World.{clocks_in}
use Rattle.gs_audit.specs.Verdicts.{world_at}
use Rattle.gs_audit.proofs.OneEvent.{audit_begins}
use Rattle.gs_audit.proofs.auditing.Auditing.start.Goals as goal

pub returns : goal.returns
returns c = λ all short.
    let p = c.args.plan.now in
    let s = c.args.start.now in
    let clocks = c.write_clocks.new.clocks in
    let long : length clocks ≡ c.in_ok-clocks.clocks.len = search rules in
    let written : List ℕ = (with_items c.in_ok-clocks.clocks clocks).items in
    let all_written : written ≡ clocks = with_items_is c.in_ok-clocks.clocks clocks long in
    let placed = c.in_ok-world.world in
    let is : placed ≡ record { plan = p; world = world_at p s } = search rules in
    let plan : placed.plan ≡ p = ap (λ (w : Placed). w.plan) is in
    let begins : placed.world ≡ world_at p s = ap (λ (w : Placed). w.world) is in
    let row : written ≡ clocks_in (net_of p) placed.world =
    all_written ∙ c.write_clocks.ensures ∙ ap (λ (q : Plan). clocks_in (net_of q) placed.world) plan in
    let tallied : c.new.result ≡ tally_of (graph_of p) (written ∷ []) =
    c.new.ensures.value ∙ ap (λ (l : List ℕ). tally_of (graph_of p) (l ∷ [])) c.deref.ensures.value in
    record {
      plan = refl;
      world = plan;
      under_way = audit_begins (net_of p) (graph_of p) s.hw s.l0 all placed.world c.new.result written begins row tallied short;
    }
