use Rattle.std.proofs.Common.{◌≡◌, ◌<◌, ◌∙◌, ap, arith, length, subst, List, None, Some}
use Rattle.std.proofs.lemmas.List.{length-map}
use Rattle.std.proofs.lemmas.Result.{err_from_is_err_and}
use Rattle.gs_beacon.specs.declared.beacon.Beacon.{Beacon}
use Rattle.gs_core.specs.declared.event.Event.TheVariants.{Deliver}
use Rattle.gs_units.specs.declared.params.NodeParams.{NodeParams}
use Rattle.gs_topo.specs.Graph.{Graph}
use Rattle.gs_world.specs.inside.Admitted.{IsAdmitted}
use Rattle.gs_world.specs.inside.Delays.{delay_of}
use Rattle.gs_run.specs.Net.{link_of, neighbours, place_of}
use Rattle.gs_run.specs.Nets.{net_of}
use Rattle.gs_world.specs.Placed.{Placed}
use Rattle.gs_world.specs.inside.Seen.{world_in}
use Rattle.gs_run.specs.Why.{why}
use Rattle.gs_run.specs.World.{is_newer, member, sent_by}
use Rattle.gs_world.specs.declared.delay.Delay.{Delay}
use Rattle.gs_run.specs.declared.refused.Refused.TheVariants.{Shape, Unknown}
use Rattle.gs_world.proofs.Placing.{room_inside, seat_read}
use Rattle.gs_world.proofs.Delivering.{age_read, few_neighbours, if_old, newer_read, no_edge, not_sent, place_inside, place_read, sent_read}
use Rattle.gs_world.proofs.world.World.admit_delivery.Goals.{then-is_newer+in_ok-admit, else-is_newer}
use Rattle.gs_world.proofs.world.World.admit_delivery.Goals as goal

pub returns-in_default-clause-err : goal.returns-in_default-clause-err
returns-in_default-clause-err c =
    let a = c.self.inside in
    let nodes = c.nodes.ensures.value ∙ ap (λ (g : Graph). g.nodes) c.topo-topo.ensures in
    let h : c.args.to < (net_of a.plan.now).nodes = omega (arith, nodes) in
    let place : place_of (net_of a.plan.now) c.args.to c.args.from ≡ None =
    place_read a c.args.to c.args.from c.topo-topo.result.now c.neighbours.result.now c.place.result
    c.topo-topo.ensures c.neighbours.ensures c.place.ensures
    ∙ c.in_default.is in
    subst (λ (p : Placed). why (net_of p.plan) p.world (Deliver c.args.from c.args.to c.args.seq) ≡ Some Shape)
    c.self.view_is
    (no_edge (net_of a.plan.now) (world_in a) c.args.from c.args.to c.args.seq h place)

pub overflow_cast-i : goal.overflow_cast-i
overflow_cast-i c =
    let a = c.self.inside in
    let place : place_of (net_of a.plan.now) c.args.to c.args.from ≡ Some c.in-Some.i =
    place_read a c.args.to c.args.from c.topo-topo.result.now c.neighbours.result.now c.place.result
    c.topo-topo.ensures c.neighbours.ensures c.place.ensures
    ∙ c.in-Some.is in
    let at = (place_inside (net_of a.plan.now) c.args.to c.args.from c.in-Some.i place).0 in
    let few = few_neighbours a c.args.to in
    omega (arith, at, few)

pub index-requires : goal.index-requires
index-requires c =
    let a = c.self.inside in
    let place : place_of (net_of a.plan.now) c.args.to c.args.from ≡ Some c.in-Some.i =
    place_read a c.args.to c.args.from c.topo-topo.result.now c.neighbours.result.now c.place.result
    c.topo-topo.ensures c.neighbours.ensures c.place.ensures
    ∙ c.in-Some.is in
    let at = (place_inside (net_of a.plan.now) c.args.to c.args.from c.in-Some.i place).1 in
    let room = room_inside a c.self.invariant in
    omega (arith, at, room)

pub returns-in_default-at_number-clause-err : goal.returns-in_default-at_number-clause-err
returns-in_default-at_number-clause-err c =
    let a = c.self.inside in
    let nodes = c.nodes.ensures.value ∙ ap (λ (g : Graph). g.nodes) c.topo-topo.ensures in
    let h : c.args.to < (net_of a.plan.now).nodes = omega (arith, nodes) in
    let place : place_of (net_of a.plan.now) c.args.to c.args.from ≡ Some c.in-Some.i =
    place_read a c.args.to c.args.from c.topo-topo.result.now c.neighbours.result.now c.place.result
    c.topo-topo.ensures c.neighbours.ensures c.place.ensures
    ∙ c.in-Some.is in
    let at = (place_inside (net_of a.plan.now) c.args.to c.args.from c.in-Some.i place).1 in
    let sent : sent_by (world_in a) c.args.from c.args.seq ≡ None =
    sent_read a c.args.from c.args.seq c.index.result.now c.deref.result.now c.at_number.result c.self.invariant at
    c.index.ensures c.deref.ensures.value c.at_number.ensures
    ∙ c.in_default-at_number.is in
    subst (λ (p : Placed). why (net_of p.plan) p.world (Deliver c.args.from c.args.to c.args.seq) ≡ Some Unknown)
    c.self.view_is
    (not_sent (net_of a.plan.now) (world_in a) c.args.from c.args.to c.args.seq c.in-Some.i h place sent)

pub index-member-requires : goal.index-member-requires
index-member-requires c =
    let a = c.self.inside in
    let nodes = c.nodes.ensures.value ∙ ap (λ (g : Graph). g.nodes) c.topo-topo.ensures in
    let room = room_inside a c.self.invariant in
    omega (arith, nodes, room)

pub is_newer-requires : goal.is_newer-requires
is_newer-requires c =
    let a = c.self.inside in
    let net = net_of a.plan.now in
    let nodes = c.nodes.ensures.value ∙ ap (λ (g : Graph). g.nodes) c.topo-topo.ensures in
    let h : c.args.to < net.nodes = omega (arith, nodes) in
    let place : place_of net c.args.to c.args.from ≡ Some c.in-Some.i =
    place_read a c.args.to c.args.from c.topo-topo.result.now c.neighbours.result.now c.place.result
    c.topo-topo.ensures c.neighbours.ensures c.place.ensures
    ∙ c.in-Some.is in
    let at = (place_inside net c.args.to c.args.from c.in-Some.i place).0 in
    let told = (seat_read a c.self.invariant c.args.to c.index-member.result.now h c.index-member.ensures).seat.told in
    let links : length c.index-member.result.now.core.params.links ≡ length (neighbours net c.args.to) =
    ap (λ (p : NodeParams). length p.links) told ∙ length-map (neighbours net c.args.to) (link_of net c.args.to) in
    omega (arith, at, links)

pub index-requires-then-is_newer : goal.index-requires-then-is_newer
index-requires-then-is_newer c =
    let a = c.self.inside in
    let nodes = c.nodes.ensures.value ∙ ap (λ (g : Graph). g.nodes) c.topo-topo.ensures in
    let h : c.args.to < (net_of a.plan.now).nodes = omega (arith, nodes) in
    let place : place_of (net_of a.plan.now) c.args.to c.args.from ≡ Some c.in-Some.i =
    place_read a c.args.to c.args.from c.topo-topo.result.now c.neighbours.result.now c.place.result
    c.topo-topo.ensures c.neighbours.ensures c.place.ensures
    ∙ c.in-Some.is in
    let at = (place_inside (net_of a.plan.now) c.args.to c.args.from c.in-Some.i place).0 in
    let delays = (seat_read a c.self.invariant c.args.to c.index-member.result.now h c.index-member.ensures).seat.delays in
    let count : length c.index-member.result.now.delays.items ≡ length (neighbours (net_of a.plan.now) c.args.to) =
    ap (λ (ds : List Delay). length ds) delays
    ∙ length-map (neighbours (net_of a.plan.now) c.args.to) (delay_of (net_of a.plan.now) c.args.to) in
    let v = c.index-member.result.now.delays in
    omega (arith, at, count, v)

pub returns-in_err-admit-clause-err : goal.returns-in_err-admit-clause-err
returns-in_err-admit-clause-err c =
    let a = c.self.inside in
    let nodes = c.nodes.ensures.value ∙ ap (λ (g : Graph). g.nodes) c.topo-topo.ensures in
    let h : c.args.to < (net_of a.plan.now).nodes = omega (arith, nodes) in
    let place : place_of (net_of a.plan.now) c.args.to c.args.from ≡ Some c.in-Some.i =
    place_read a c.args.to c.args.from c.topo-topo.result.now c.neighbours.result.now c.place.result
    c.topo-topo.ensures c.neighbours.ensures c.place.ensures
    ∙ c.in-Some.is in
    let at = (place_inside (net_of a.plan.now) c.args.to c.args.from c.in-Some.i place).1 in
    let sent : sent_by (world_in a) c.args.from c.args.seq ≡ Some c.in-Some-at_number.sent =
    sent_read a c.args.from c.args.seq c.index.result.now c.deref.result.now c.at_number.result c.self.invariant at
    c.index.ensures c.deref.ensures.value c.at_number.ensures
    ∙ c.in-Some-at_number.is in
    let newer : is_newer (member (world_in a) c.args.to) c.in-Some.i c.in-Some-at_number.sent ≡ c.is_newer.result =
    newer_read a c.args.to c.in-Some.i c.beacon.result.now.seq c.index-member.result.now c.in-Some-at_number.sent
    c.is_newer.result c.self.invariant h c.index-member.ensures
    (ap (λ (b : Beacon). b.seq) c.beacon.ensures.value) c.is_newer.ensures in
    let age =
    age_read a c.args.from c.args.to c.args.seq c.in-Some.i c.quantum.result c.in-Some-at_number.sent
    c.index-member.result.now c.index-then-is_newer.result.now
    c.self.invariant h place sent c.index-member.ensures c.index-then-is_newer.ensures c.quantum.ensures
    (newer ∙ c.if-is_newer.true) in
    let refused : why (net_of a.plan.now) (world_in a) (Deliver c.args.from c.args.to c.args.seq)
    ≡ Some c.in_err-admit.field-0.0 =
    age ∙ c.in_err-admit.ensures.err in
    let answer = err_from_is_err_and c.from_residual.result c.from_residual.ensures.1 in
    rw (answer.1, answer.2)
    (subst (λ (p : Placed). why (net_of p.plan) p.world (Deliver c.args.from c.args.to c.args.seq) ≡ Some c.in_err-admit.field-0.0) c.self.view_is refused)

pub returns-clause-ok : goal.returns-clause-ok
returns-clause-ok c =
    let a = c.self.inside in
    let nodes = c.nodes.ensures.value ∙ ap (λ (g : Graph). g.nodes) c.topo-topo.ensures in
    let h : c.args.to < (net_of a.plan.now).nodes = omega (arith, nodes) in
    let place : place_of (net_of a.plan.now) c.args.to c.args.from ≡ Some c.in-Some.i =
    place_read a c.args.to c.args.from c.topo-topo.result.now c.neighbours.result.now c.place.result
    c.topo-topo.ensures c.neighbours.ensures c.place.ensures
    ∙ c.in-Some.is in
    let at = (place_inside (net_of a.plan.now) c.args.to c.args.from c.in-Some.i place).1 in
    let sent : sent_by (world_in a) c.args.from c.args.seq ≡ Some c.in-Some-at_number.sent =
    sent_read a c.args.from c.args.seq c.index.result.now c.deref.result.now c.at_number.result c.self.invariant at
    c.index.ensures c.deref.ensures.value c.at_number.ensures
    ∙ c.in-Some-at_number.is in
    let newer : is_newer (member (world_in a) c.args.to) c.in-Some.i c.in-Some-at_number.sent ≡ c.is_newer.result =
    newer_read a c.args.to c.in-Some.i c.beacon.result.now.seq c.index-member.result.now c.in-Some-at_number.sent
    c.is_newer.result c.self.invariant h c.index-member.ensures
    (ap (λ (b : Beacon). b.seq) c.beacon.ensures.value) c.is_newer.ensures in
    let allowed : why (net_of a.plan.now) (world_in a) (Deliver c.args.from c.args.to c.args.seq) ≡ None =
    elim c.if-is_newer.branch [
      | then-is_newer+in_ok-admit w ↦
          age_read a c.args.from c.args.to c.args.seq c.in-Some.i w.quantum.result c.in-Some-at_number.sent
          c.index-member.result.now w.index-then-is_newer.result.now
          c.self.invariant h place sent c.index-member.ensures w.index-then-is_newer.ensures w.quantum.ensures
          (newer ∙ w.if-is_newer.true)
          ∙ w.in_ok-admit.ensures.ok
      | else-is_newer w ↦ if_old (net_of a.plan.now) (world_in a) c.args.from c.args.to c.args.seq c.in-Some.i
          c.in-Some-at_number.sent h place sent (newer ∙ w.if-is_newer.false)
    ] in
    subst
    (λ (p : Placed). IsAdmitted (net_of p.plan) p.world c.args.from c.args.to c.args.seq c.in-Some.i c.in-Some-at_number.sent) c.self.view_is
    (record { node = h; place = place; sent = sent; allowed = allowed })
