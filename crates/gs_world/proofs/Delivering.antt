-- What a delivery to a world asks and does.
use Rattle.std.proofs.Common.{◌≡◌, ℕ, ◌+◌, ◌-◌, ◌<◌, ◌≤◌, ◌∙◌, ◌==◌, arith, ap, sym, subst, refl, cond, Bool, true, false, length, List, Option, Some, None, nat_eq, nat_le, slice_get, slice_index_or}
use Rattle.std.specs.List.{find, position, range_with_len}
use Rattle.gs_topo.specs.Graph.{Graph, neighbours_of}
use Rattle.gs_plan.specs.Plans.{graph_of, text_of}
use Rattle.gs_units.proofs.FirstFault.{last_is}
use Rattle.gs_units.specs.declared.rate.Mode.{Mode}
use Rattle.gs_estimate.specs.Entries.{entry_at, is_fresh}
use Rattle.std.proofs.lemmas.List.{get_or-map}
use Rattle.std.proofs.lemmas.List.Elements.{All-contains}
use Rattle.std.proofs.lemmas.List.FromFn.{length-range_with_len}
use Rattle.std.proofs.lemmas.List.Sums.{count_by-le-length, length-filter}
use Rattle.gs_core.specs.Node.{delivered_at, freshened, link_at, link_place}
use Rattle.gs_core.specs.Steps.{deliver_fault}
use Rattle.gs_core.specs.declared.event.Event.TheVariants.{Deliver}
use Rattle.gs_units.specs.declared.params.NodeParams.{NodeParams}
use Rattle.gs_run.specs.Accepted.{AreNumbers}
use Rattle.gs_world.specs.inside.Admitted.{IsAdmitted}
use Rattle.gs_world.specs.inside.Delays.{age_refused, delay_of}
use Rattle.gs_world.specs.inside.Members.{fast_one, IsToldAs, member_of}
use Rattle.gs_run.specs.Fast.{fast_in, is_fast}
use Rattle.gs_world.specs.inside.Late.{AreDeadlines}
use Rattle.gs_world.specs.declared.deadlines.Deadlines.{Deadlines}
use Rattle.gs_world.proofs.Advancing.{few_nodes}
use Rattle.gs_world.proofs.Upkeep.{clocks_heard, deadlines_heard, fast_replaced}
use Rattle.gs_world.specs.inside.Find.{at_number}
use Rattle.gs_run.specs.Net.{Net, neighbour, neighbours, params_of, place_of}
use Rattle.gs_run.specs.Nets.{net_of}
use Rattle.gs_world.specs.Placed.{Placed}
use Rattle.gs_run.specs.Reach.{IsReachable}
use Rattle.gs_run.specs.Run.{ends, later_ends}
use Rattle.gs_world.specs.inside.Seen.{IsInside, placed_of, world_in}
use Rattle.gs_run.specs.Why.{why}
use Rattle.gs_run.specs.World.{Member, Sent, World, clocks_in, effect, heard_member, is_newer, member, sent_by, with_member, world_from}
use Rattle.gs_world.specs.declared.delay.Delay.{Delay}
use Rattle.gs_run.specs.declared.refused.Refused.TheVariants.{Shape, Unknown}
use Rattle.gs_world.specs.declared.member.Member.{Member as Seat}
use Rattle.gs_world.specs.declared.world.World.TheInside.{Inside}
use Rattle.gs_run.proofs.Current.{link_place_is}
use Rattle.gs_run.proofs.Dates.{AreNumbered, IsSent}
use Rattle.gs_run.proofs.Keeping.{found_place, run_watched}
use Rattle.gs_run.proofs.Moments.{last_moment, run_of_watched, start, whole_run}
use Rattle.gs_run.proofs.Places.{neighbour_is_node}
use Rattle.gs_run.proofs.PlanNumbers.{plan_has_numbers}
use Rattle.gs_world.proofs.Placing.{IsKnownMember, known_inside, member_read, seat_read, seats_with, step_inside, with_seat, world_with_seat}
use Rattle.gs_run.proofs.Reaching.{found_by_number, none_has_zero}
use Rattle.gs_run.proofs.Refusals.{find-Some}

-- ---- what was sent

-- every beacon that a node sent names it
sender_is : (net : Net) (w : World) → AreNumbers net → IsReachable net w → (from seq : ℕ) (s : Sent)
    → from < net.nodes → sent_by w from seq ≡ Some s → s.beacon.sender ≡ from
sender_is net w numbers r from seq s h found =
    let w0 : World = world_from net r.hw r.clocks in
    let total : List World = ends net w0 r.events in
    let last : ℕ = length (later_ends net w0 r.events) in
    let at = last_moment numbers (whole_run net r.hw r.clocks r.events r.allowed) in
    let x : World = (run_watched net (start net r.hw r.clocks) r.events).world in
    let is : x ≡ w = run_of_watched net (start net r.hw r.clocks) r.events ∙ sym r.is in
    let there : sent_by x from seq ≡ Some s = subst (λ (z : World). sent_by z from seq ≡ Some s) (sym is) found in
    (All-contains (IsSent net total x.quanta from) (member x from).sent s (at.each from h).1.sent (find-Some _ (member x from).sent s there)).sender

zero_test : (seq : ℕ) → (seq == 0) ≡ true → seq ≡ 0
zero_test seq e = grind (arith, e)

other_test : (seq : ℕ) → (seq == 0) ≡ false → 1 ≤ seq
other_test seq e = grind (arith, e)

-- the beacon of a number, found by its place
pub found_at : (own seq : ℕ) (sent : List Sent) → AreNumbered own sent
    → at_number sent seq ≡ find (λ s. s.beacon.seq == seq) sent
found_at own seq sent n = pick (seq == 0) refl where
  pick : (b : Bool) → (seq == 0) ≡ b → cond b None (slice_get sent (seq - 1)) ≡ find (λ s. s.beacon.seq == seq) sent
  pick true is = let zero : seq ≡ 0 = zero_test seq is in rw zero (sym (none_has_zero own sent n))
  pick false is = sym (found_by_number seq own sent n (other_test seq is))

-- ---- why a delivery is refused

below : (n v : ℕ) → v < n → nat_le n v ≡ false
below n v h = grind arith

pub no_edge : (net : Net) (w : World) (from to seq : ℕ) → to < net.nodes → place_of net to from ≡ None
    → why net w (Deliver from to seq) ≡ Some Shape
no_edge net w from to seq h place = let low : nat_le net.nodes to ≡ false = below net.nodes to h in rw (low, place) refl

pub not_sent : (net : Net) (w : World) (from to seq i : ℕ) → to < net.nodes → place_of net to from ≡ Some i
    → sent_by w from seq ≡ None → why net w (Deliver from to seq) ≡ Some Unknown
not_sent net w from to seq i h place sent =
    let low : nat_le net.nodes to ≡ false = below net.nodes to h in rw (low, place, sent) refl

pub if_newer : (net : Net) (w : World) (from to seq i : ℕ) (s : Sent) → to < net.nodes → place_of net to from ≡ Some i
    → sent_by w from seq ≡ Some s
    → is_newer (member w to) i s ≡ true
    → why net w (Deliver from to seq) ≡ age_refused (delay_of net to from) s.quantum w.quanta
if_newer net w from to seq i s h place sent newer =
    let low : nat_le net.nodes to ≡ false = below net.nodes to h in
    rw (low, place, sent, newer) (last_is (age_refused (delay_of net to from) s.quantum w.quanta))

pub if_old : (net : Net) (w : World) (from to seq i : ℕ) (s : Sent) → to < net.nodes → place_of net to from ≡ Some i
    → sent_by w from seq ≡ Some s
    → is_newer (member w to) i s ≡ false → why net w (Deliver from to seq) ≡ None
if_old net w from to seq i s h place sent old =
    let low : nat_le net.nodes to ≡ false = below net.nodes to h in rw (low, place, sent, old) refl

-- the delays at the place of a sender
pub delay_at : (net : Net) (v from i : ℕ) (s : Seat) (d : Delay) → IsKnownMember net v s → place_of net v from ≡ Some i
    → d ≡ slice_index_or s.delays.items i d → d ≡ delay_of net v from
delay_at net v from i s d known place read =
    let at = found_place net v from i place in
    read ∙ ap (λ (ds : List Delay). slice_index_or ds i d) known.seat.delays
    ∙ get_or-map (delay_of net v) (neighbours net v) i 0 d at.0 ∙ ap (delay_of net v) at.1

-- ---- what an admitted delivery finds

pub place_inside : (net : Net) (to from i : ℕ) → place_of net to from ≡ Some i
    → (i < length (neighbours net to)) × (from < net.nodes)
place_inside net to from i place =
    let at = found_place net to from i place in
    let node : neighbour net to i < net.nodes = neighbour_is_node net to i at.0 in
    (at.0, subst (λ (x : ℕ). x < net.nodes) at.1 node)

pub sender_place : (a : Inside) (from to seq i : ℕ) (s : Sent) (old : Seat) → IsInside a
    → IsAdmitted (net_of a.plan.now) (world_in a) from to seq i s
    → old ≡ slice_index_or a.members.items to old → link_place old.core.params s.beacon.sender ≡ Some i
sender_place a from to seq i s old inside may read =
    let net : Net = net_of a.plan.now in
    let sender : s.beacon.sender ≡ from =
    sender_is net (world_in a) (plan_has_numbers a.plan.now) inside.reachable from seq s
    (place_inside net to from i may.place).1 may.sent in
    ap (λ (q : NodeParams). link_place q s.beacon.sender) (seat_read a inside to old may.node read).seat.told
    ∙ link_place_is net to s.beacon.sender ∙ ap (place_of net to) sender ∙ may.place

pub hearing_has_no_fault : (a : Inside) (from to seq i : ℕ) (s : Sent) (old : Seat) → IsInside a
    → IsAdmitted (net_of a.plan.now) (world_in a) from to seq i s
    → old ≡ slice_index_or a.members.items to old
    → deliver_fault old.core.params old.core.node s.beacon old.reading ≡ None
hearing_has_no_fault a from to seq i s old inside may read =
    let net : Net = net_of a.plan.now in
    let none = (known_inside a inside).no_fault from to seq may.allowed s may.sent in
    let at : deliver_fault (params_of net to) old.core.node s.beacon old.reading ≡ None =
    subst (λ (m : Member). deliver_fault (params_of net to) m.node s.beacon m.reading ≡ None)
    (member_read a inside to old may.node read) none in
    subst (λ (q : NodeParams). deliver_fault q old.core.node s.beacon old.reading ≡ None)
    (sym (seat_read a inside to old may.node read).seat.told) at

hearing_is : (a : Inside) (from to seq i : ℕ) (s : Sent) (old new : Seat) → IsInside a
    → IsAdmitted (net_of a.plan.now) (world_in a) from to seq i s
    → old ≡ slice_index_or a.members.items to old → member_of new ≡ heard_member old.core.params i s (member_of old)
    → member_of new ≡ heard_member (params_of (net_of a.plan.now) to) i s (member (world_in a) to)
hearing_is a from to seq i s old new inside may read heard =
    heard
    ∙ ap (λ (q : NodeParams). heard_member q i s (member_of old)) (seat_read a inside to old may.node read).seat.told
    ∙ ap (heard_member (params_of (net_of a.plan.now) to) i s) (sym (member_read a inside to old may.node read))

effect_is : (net : Net) (w : World) (from to seq i : ℕ) (s : Sent) → IsAdmitted net w from to seq i s
    → effect net w (Deliver from to seq) ≡ with_member w to (heard_member (params_of net to) i s (member w to))
effect_is net w from to seq i s may = rw (may.place, may.sent) refl

delivered_world : (a : Inside) (from to seq i : ℕ) (s : Sent) (old new : Seat) (late : Deadlines) → IsInside a
    → IsAdmitted (net_of a.plan.now) (world_in a) from to seq i s
    → old ≡ slice_index_or a.members.items to old → member_of new ≡ heard_member old.core.params i s (member_of old)
    → world_in (with_seat a to new late a.fast) ≡ effect (net_of a.plan.now) (world_in a) (Deliver from to seq)
delivered_world a from to seq i s old new late inside may read heard =
    world_with_seat a to new late a.fast
    ∙ ap (with_member (world_in a) to) (hearing_is a from to seq i s old new inside may read heard)
    ∙ sym (effect_is (net_of a.plan.now) (world_in a) from to seq i s may)

-- what is kept beside the seats after a delivery
pub record KeepsHearing (a : Inside) (s : Sent) (late : Deadlines) : Type 0 where
  pub sooner : late.stale ≤ a.deadlines.stale
  pub by : late.stale ≤ s.quantum + (text_of a.plan.now).age
  pub same : late.due ≡ a.deadlines.due

-- a beacon leaves the mode as it is
same_mode : (p : NodeParams) (i : ℕ) (s : Sent) (m : Member)
    → (heard_member p i s m).node.mode ≡ m.node.mode
same_mode p i s m = place (link_place p s.beacon.sender) where
  fresh : (j : ℕ) (b : Bool)
      → (cond b (freshened p.rate (link_at p j) m.node j s.beacon m.reading) (record m.node { last = m.reading })).mode
      ≡ m.node.mode
  fresh j true = refl
  fresh j false = refl

  place : (o : Option ℕ) → (delivered_at p m.node s.beacon m.reading o).mode ≡ m.node.mode
  place None = refl
  place (Some j) = fresh j (is_fresh (entry_at m.node.entries j) s.beacon.seq)

pub delivered_inside : (a : Inside) (from to seq i : ℕ) (s : Sent) (old new : Seat) (late : Deadlines) → IsInside a
    → IsAdmitted (net_of a.plan.now) (world_in a) from to seq i s
    → old ≡ slice_index_or a.members.items to old → IsToldAs old new
    → member_of new ≡ heard_member old.core.params i s (member_of old) → KeepsHearing a s late
    → IsInside (with_seat a to new late a.fast)
delivered_inside a from to seq i s old new late inside may read told heard keeps =
    let net : Net = net_of a.plan.now in
    let w : World = world_in a in
    let members = (known_inside a inside).members in
    let node = may.node in
    let h : to < length w.members = omega (arith, members, node) in
    let after : Member = heard_member (params_of net to) i s (member w to) in
    let step = effect_is net w from to seq i s may in
    let replaced = fast_replaced w to after h in
    let mode = ap (λ (m : Mode). fast_one (is_fast m)) (same_mode (params_of net to) i s (member w to)) in
    let kept : fast_in (with_member w to after) ≡ fast_in w = omega (arith, replaced, mode) in
    step_inside a (with_seat a to new late a.fast) (Deliver from to seq) refl inside may.allowed
    (delivered_world a from to seq i s old new late inside may read heard)
    (seats_with a to old new inside may.node read told)
    (inside.clocks ∙ sym (clocks_heard net w to i s) ∙ ap (clocks_in net) (sym step))
    (subst (λ (x : World). AreDeadlines net x late) (sym step) (deadlines_heard net w to i (params_of net to) s a.deadlines late h inside.deadlines keeps.sooner keeps.by keeps.same))
    (inside.fast ∙ sym kept ∙ ap fast_in (sym step))

pub delivered_effect : (a : Inside) (p : Placed) (from to seq i : ℕ) (s : Sent) (old new : Seat) (late : Deadlines)
    → IsInside a
    → placed_of a ≡ p → IsAdmitted (net_of a.plan.now) (world_in a) from to seq i s
    → old ≡ slice_index_or a.members.items to old → member_of new ≡ heard_member old.core.params i s (member_of old)
    → world_in (with_seat a to new late a.fast) ≡ effect (net_of p.plan) p.world (Deliver from to seq)
delivered_effect a p from to seq i s old new late inside is may read heard =
    subst (λ (x : Placed). world_in (with_seat a to new late a.fast) ≡ effect (net_of x.plan) x.world (Deliver from to seq)) is
    (delivered_world a from to seq i s old new late inside may read heard)

pub admitted_inside : (a : Inside) (p : Placed) (from to seq i : ℕ) (s : Sent) → placed_of a ≡ p
    → IsAdmitted (net_of p.plan) p.world from to seq i s → IsAdmitted (net_of a.plan.now) (world_in a) from to seq i s
admitted_inside a p from to seq i s is may =
    subst (λ (x : Placed). IsAdmitted (net_of x.plan) x.world from to seq i s) (sym is) may

-- ---- what was read

pub place_read : (a : Inside) (to from : ℕ) (g : Graph) (xs : List ℕ) (o : Option ℕ) → g ≡ graph_of a.plan.now
    → xs ≡ neighbours_of g to → o ≡ position (λ y. nat_eq y from) xs
    → place_of (net_of a.plan.now) to from ≡ o
place_read a to from g xs o graph near is =
    sym (is ∙ ap (position (λ y. nat_eq y from)) (near ∙ ap (λ (x : Graph). neighbours_of x to) graph))

pub sent_read : (a : Inside) (from seq : ℕ) (s : Seat) (sent : List Sent) (o : Option Sent) → IsInside a
    → from < (net_of a.plan.now).nodes → s ≡ slice_index_or a.members.items from s
    → sent ≡ s.sent.items → o ≡ at_number sent seq → sent_by (world_in a) from seq ≡ o
sent_read a from seq s sent o inside h read items is =
    ap (λ (m : Member). find (λ (x : Sent). x.beacon.seq == seq) m.sent) (member_read a inside from s h read)
    ∙ sym (found_at s.core.node.seq seq s.sent.items (seat_read a inside from s h read).numbered)
    ∙ sym (is ∙ ap (λ (xs : List Sent). at_number xs seq) items)

pub newer_read : (a : Inside) (to i seq : ℕ) (s : Seat) (b : Sent) (f : Bool) → IsInside a
    → to < (net_of a.plan.now).nodes → s ≡ slice_index_or a.members.items to s
    → seq ≡ b.beacon.seq → f ≡ is_fresh (entry_at s.core.node.entries i) seq → is_newer (member (world_in a) to) i b ≡ f
newer_read a to i seq s b f inside h read same is =
    ap (λ (m : Member). is_newer m i b) (member_read a inside to s h read)
    ∙ sym (is ∙ ap (is_fresh (entry_at s.core.node.entries i)) same)

pub age_read : (a : Inside) (from to seq i sent : ℕ) (s : Sent) (old : Seat) (d : Delay) → IsInside a
    → to < (net_of a.plan.now).nodes → place_of (net_of a.plan.now) to from ≡ Some i
    → sent_by (world_in a) from seq ≡ Some s → old ≡ slice_index_or a.members.items to old
    → d ≡ slice_index_or old.delays.items i d → sent ≡ s.quantum
    → is_newer (member (world_in a) to) i s ≡ true
    → why (net_of a.plan.now) (world_in a) (Deliver from to seq) ≡ age_refused d sent a.quanta
age_read a from to seq i sent s old d inside h place found read delay quantum newer =
    if_newer (net_of a.plan.now) (world_in a) from to seq i s h place found newer
    ∙ ap (λ (x : Delay). age_refused x s.quantum a.quanta)
    (sym (delay_at (net_of a.plan.now) to from i old d (seat_read a inside to old h read) place delay))
    ∙ ap (λ (q : ℕ). age_refused d q a.quanta) (sym quantum)

-- a node has at most 512 neighbours
pub few_neighbours : (a : Inside) (v : ℕ) → length (neighbours (net_of a.plan.now) v) ≤ 512
few_neighbours a v =
    let net = net_of a.plan.now in
    let nodes = range_with_len 0 net.nodes in
    let filtered = length-filter (net.adjacent v) nodes in
    let most = count_by-le-length (net.adjacent v) nodes in
    let count = length-range_with_len 0 net.nodes in
    let few = few_nodes a in
    omega (arith, filtered, most, count, few)
