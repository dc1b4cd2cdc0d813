-- What a quantum of a world asks and does.
use Rattle.std.proofs.Common.{◌≡◌, ◌≢◌, ℕ, ◌+◌, ◌<◌, ◌≤◌, ◌^◌, ◌∙◌, ◌==◌, ◌||◌, All, arith, ap, sym, subst, refl, true, false, length, List, [], ◌∷◌, map, Option, Some, None, is_some, nat_le, nat_lt, slice_index, slice_index_or}
use Rattle.std.specs.List.{position, zip}
use Rattle.std.specs.Vec.{with_items}
use Rattle.std.proofs.lemmas.List.{get_or-map, get_or_default, length-map, with_items_is}
use Rattle.std.proofs.lemmas.List.Elements.{All-map}
use Rattle.std.proofs.lemmas.List.Quantifiers.{position-Some}
use Rattle.std.proofs.lemmas.Slice.Zip.{get_or-zip, length-zip}
use Rattle.gs_units.proofs.FirstFault.{last_is}
use Rattle.gs_units.specs.declared.rate.Rate.{Rate}
use Rattle.gs_core.specs.declared.event.Event.TheVariants.{Quantum}
use Rattle.gs_planfile.specs.declared.text.PlanText.{PlanText}
use Rattle.gs_plan.specs.Plans.{rate_of, text_of}
use Rattle.gs_plan.proofs.Telling.{plan_is_graph}
use Rattle.gs_world.specs.inside.Late.{stale_in, AreDeadlines, IsNoneDueBefore, IsNoneStaleBefore, due_in}
use Rattle.gs_units.specs.declared.params.NodeParams.{NodeParams}
use Rattle.gs_core.specs.Node.{clock_of}
use Rattle.gs_run.specs.Fast.{fast_in, is_fast}
use Rattle.gs_run.specs.Reach.{IsReachable}
use Rattle.gs_run.proofs.Current.{position-map}
use Rattle.gs_run.proofs.PlanNumbers.{plan_has_numbers}
use Rattle.gs_run.proofs.Reaching.{IsKnown, reachable_is_known, step_is_reachable}
use Rattle.gs_world.proofs.Reading.{clocks_are}
use Rattle.gs_world.specs.declared.deadlines.Deadlines.{Deadlines}
use Rattle.gs_world.proofs.Upkeep.{deadlines_advanced, fast_advanced, none_fast, slow_grows}
use Rattle.gs_run.specs.Net.{Net, neighbours}
use Rattle.gs_run.specs.Nets.{net_of}
use Rattle.gs_world.specs.Placed.{Placed}
use Rattle.gs_world.specs.inside.Members.{AreSlowClocks, IsReadable, IsMember, advance_members, advanced_seat, clock_at, member_of, sums}
use Rattle.gs_world.specs.inside.Seen.{IsInside, placed_of, world_in}
use Rattle.gs_run.specs.Why.{drifts, is_due_at, is_stale, stale_at, stale_of, stale_place, why}
use Rattle.gs_run.specs.World.{Member, World, advanced, clocks_in, effect, member, nobody}
use Rattle.gs_run.specs.declared.refused.Refused.{Refused}
use Rattle.gs_run.specs.declared.refused.Refused.TheVariants.{Drift, End, Shape, Stale}
use Rattle.gs_world.specs.declared.member.Member.{Member as Seat}
use Rattle.gs_world.specs.declared.world.World.TheInside.{Inside}
use Rattle.gs_run.proofs.Keeping.{quantum_is}
use Rattle.gs_world.proofs.Placing.{count_inside, known_inside, member_at, member_read, seat_at, step_inside}
use Rattle.gs_run.proofs.Refusals.{MayAdvance, may_advance}

-- a world has no more nodes than a plan
pub few_nodes : (a : Inside) → (net_of a.plan.now).nodes ≤ 512
few_nodes a = let p = a.plan.now in (plan_is_graph p.text p.topo p.accepted p.graph).few

-- ---- why a quantum is refused

same_test : (a b : ℕ) → a ≡ b → (a == b) ≡ true
same_test a b e = grind (arith, e)

other_test : (a b : ℕ) → a ≢ b → (a == b) ≡ false
other_test a b e = grind (arith, e)

most_test : (a b : ℕ) → b < a → nat_le a b ≡ false
most_test a b h = grind arith

end_test : (a b : ℕ) → a ≤ b → nat_le a b ≡ true
end_test a b h = grind arith

pub wrong_count : (net : Net) (w : World) (incs : List ℕ) → length incs ≢ net.nodes
    → why net w (Quantum incs) ≡ Some Shape
wrong_count net w incs other = rw (other_test (length incs) net.nodes other) refl

pub at_end : (net : Net) (w : World) (incs : List ℕ) → length incs ≡ net.nodes → 2 ^ 24 ≤ w.quanta
    → why net w (Quantum incs) ≡ Some End
at_end net w incs count end = rw (same_test (length incs) net.nodes count, end_test (2 ^ 24) w.quanta end) refl

pub drifting : (net : Net) (w : World) (incs : List ℕ) (v : ℕ) → length incs ≡ net.nodes → w.quanta < 2 ^ 24
    → position (drifts net) incs ≡ Some v
    → why net w (Quantum incs) ≡ Some (Drift v)
drifting net w incs v count few at =
    rw (same_test (length incs) net.nodes count, most_test (2 ^ 24) w.quanta few, at) refl

pub tick_due : (net : Net) (w : World) (incs : List ℕ) (r : Refused) → length incs ≡ net.nodes → w.quanta < 2 ^ 24
    → position (drifts net) incs ≡ None
    → due_in net w ≡ Some r → why net w (Quantum incs) ≡ Some r
tick_due net w incs r count few none at =
    rw (same_test (length incs) net.nodes count, most_test (2 ^ 24) w.quanta few, none, at) refl

pub else_stale : (net : Net) (w : World) (incs : List ℕ) → length incs ≡ net.nodes → w.quanta < 2 ^ 24
    → position (drifts net) incs ≡ None
    → due_in net w ≡ None → why net w (Quantum incs) ≡ stale_in net w
else_stale net w incs count few none ticked =
    rw (same_test (length incs) net.nodes count, most_test (2 ^ 24) w.quanta few, none, ticked) (last_is (stale_in net w))

-- ---- what was read

pub drift_read : (a : Inside) (rate : Rate) (lo hi : ℕ) (incs : List ℕ) (o : Option ℕ) → rate ≡ rate_of a.plan.now
    → lo ≡ rate.lo → hi ≡ rate.hi
    → o ≡ position (λ h. nat_lt h lo || nat_lt hi h) incs → position (drifts (net_of a.plan.now)) incs ≡ o
drift_read a rate lo hi incs o same low high is =
    sym (is ∙ ap (λ (l : ℕ). position (λ h. nat_lt h l || nat_lt hi h) incs) (low ∙ ap (λ (r : Rate). r.lo) same)
    ∙ ap (λ (u : ℕ). position (λ h. nat_lt h (rate_of a.plan.now).lo || nat_lt u h) incs)
    (high ∙ ap (λ (r : Rate). r.hi) same))

pub due_read : (a : Inside) (t : PlanText) (seats : List Seat) (o : Option ℕ) → t ≡ text_of a.plan.now
    → seats ≡ a.members.items
    → o ≡ position (λ s. nat_le (s.ticked_at + t.tick) a.quanta) seats
    → position (is_due_at (net_of a.plan.now) a.quanta) (world_in a).members ≡ o
due_read a t seats o text same is =
    position-map member_of (is_due_at (net_of a.plan.now) a.quanta) a.members.items
    ∙ sym (is ∙ ap (λ (x : PlanText). position (λ s. nat_le (s.ticked_at + x.tick) a.quanta) seats) text
    ∙ ap (position (λ s. nat_le (s.ticked_at + (text_of a.plan.now).tick) a.quanta)) same)

pub stale_read : (a : Inside) (t : PlanText) (seats : List Seat) (o : Option ℕ) → t ≡ text_of a.plan.now
    → seats ≡ a.members.items
    → o ≡ position (λ s. is_some (position (λ sent. nat_le (sent + t.age) a.quanta) s.heard.items)) seats
    → position (λ m. is_some (stale_place (net_of a.plan.now) a.quanta m)) (world_in a).members ≡ o
stale_read a t seats o text same is =
    position-map member_of (λ m. is_some (stale_place (net_of a.plan.now) a.quanta m)) a.members.items
    ∙ sym
    (is ∙ ap (λ (x : PlanText). position (λ s. is_some (position (λ sent. nat_le (sent + x.age) a.quanta) s.heard.items)) seats) text
    ∙ ap
    (position (λ s. is_some (position (λ sent. nat_le (sent + (text_of a.plan.now).age) a.quanta) s.heard.items)))
    same)

-- the node that was found is one of the plan's
pub stale_node : (a : Inside) (v : ℕ) → IsInside a
    → position (λ m. is_some (stale_place (net_of a.plan.now) a.quanta m)) (world_in a).members ≡ Some v
    → v < (net_of a.plan.now).nodes
stale_node a v i at =
    let found =
    position-Some (λ m. is_some (stale_place (net_of a.plan.now) a.quanta m)) (world_in a).members v
    (member (world_in a) v) at in
    let count = (known_inside a i).members in
    let inside = found.0 in
    omega (arith, inside, count)

pub due_node : (a : Inside) (v : ℕ) → IsInside a
    → position (is_due_at (net_of a.plan.now) a.quanta) (world_in a).members ≡ Some v → v < (net_of a.plan.now).nodes
due_node a v i at =
    let found =
    position-Some (is_due_at (net_of a.plan.now) a.quanta) (world_in a).members v (member (world_in a) v) at in
    let count = (known_inside a i).members in
    let inside = found.0 in
    omega (arith, inside, count)

-- and so is the place there
pub stale_link : (a : Inside) (t : PlanText) (v : ℕ) (s : Seat) (heard : List ℕ) (o : Option ℕ) → IsInside a
    → v < (net_of a.plan.now).nodes → t ≡ text_of a.plan.now
    → s ≡ slice_index_or a.members.items v s → heard ≡ s.heard.items
    → o ≡ position (λ sent. nat_le (sent + t.age) a.quanta) heard
    → stale_place (net_of a.plan.now) a.quanta (member (world_in a) v) ≡ o
stale_link a t v s heard o i h text read same is =
    ap (stale_place (net_of a.plan.now) a.quanta) (member_read a i v s h read)
    ∙ sym
    (is ∙ ap (λ (x : PlanText). position (λ sent. nat_le (sent + x.age) a.quanta) heard) text ∙ ap (position (λ sent. nat_le (sent + (text_of a.plan.now).age) a.quanta)) same)

pub link_inside : (a : Inside) (v k : ℕ) (s : Seat) → IsInside a → v < (net_of a.plan.now).nodes
    → s ≡ slice_index_or a.members.items v s
    → stale_place (net_of a.plan.now) a.quanta (member (world_in a) v) ≡ Some k
    → k < length (neighbours (net_of a.plan.now) v)
link_inside a v k s i h read at =
    let found = position-Some (is_stale (net_of a.plan.now) a.quanta) (member (world_in a) v).heard k 0 at in
    let count = (known_inside a i).heard v h in
    let inside = found.0 in
    omega (arith, inside, count)

pub none_stale : (net : Net) (w : World) → position (λ m. is_some (stale_place net w.quanta m)) w.members ≡ None
    → stale_in net w ≡ None
none_stale net w none = rw none refl

pub no_place : (net : Net) (w : World) (v : ℕ)
    → position (λ m. is_some (stale_place net w.quanta m)) w.members ≡ Some v
    → stale_place net w.quanta (member w v) ≡ None → stale_in net w ≡ None
no_place net w v at none = ap (stale_of net w) at ∙ ap (stale_at net v) none

pub some_stale : (net : Net) (w : World) (v k : ℕ)
    → position (λ m. is_some (stale_place net w.quanta m)) w.members ≡ Some v
    → stale_place net w.quanta (member w v) ≡ Some k
    → stale_in net w ≡ Some (Stale (slice_index (neighbours net v) k) v)
some_stale net w v k at link = ap (stale_of net w) at ∙ ap (stale_at net v) link

-- ---- from when on to look again

pub ticks_ahead : (a : Inside) (seats : List Seat) (oldest gap due : ℕ) → seats ≡ a.members.items
    → All (λ s. oldest ≤ s.ticked_at) seats → gap ≡ (text_of a.plan.now).tick → due ≡ oldest + gap
    → IsNoneDueBefore (net_of a.plan.now) (world_in a) due
ticks_ahead a seats oldest gap due same all is sum =
    All-map (λ (m : Member). due ≤ m.ticked_at + (net_of a.plan.now).tick) member_of a.members.items
    (subst (λ (ss : List Seat). All (λ s. due ≤ s.ticked_at + (net_of a.plan.now).tick) ss) same (λ k d h. let far = all k d h in omega (arith, far, is, sum)))

pub ages_ahead : (a : Inside) (seats : List Seat) (oldest age stale : ℕ) → seats ≡ a.members.items
    → All (λ s. All (λ sent. oldest ≤ sent) s.heard.items) seats → age ≡ (text_of a.plan.now).age → stale ≡ oldest + age
    → IsNoneStaleBefore (net_of a.plan.now) (world_in a) stale
ages_ahead a seats oldest age stale same all is sum =
    All-map (λ (m : Member). All (λ sent. stale ≤ sent + (net_of a.plan.now).age) m.heard) member_of a.members.items
    (subst (λ (ss : List Seat). All (λ s. All (λ sent. stale ≤ sent + (net_of a.plan.now).age) s.heard.items) ss) same (λ k d h j e l. let far = all k d h j e l in omega (arith, far, is, sum)))

-- ---- what a quantum does

members_advanced : (seats : List Seat) (incs : List ℕ)
    → map member_of (advance_members seats incs) ≡ map (λ p. advanced p.0 p.1) (zip (map member_of seats) incs)
members_advanced [] incs = refl
members_advanced (s ∷ ss) [] = refl
members_advanced (s ∷ ss) (h ∷ hs) = ap (λ ms. advanced (member_of s) h ∷ ms) (members_advanced ss hs)

advanced_at : (seats : List Seat) (incs : List ℕ) (k : ℕ) (d : Seat) → length incs ≡ length seats → k < length seats
    → slice_index_or (advance_members seats incs) k d ≡ advanced_seat (slice_index_or seats k d) (slice_index incs k)
advanced_at seats incs k d count h =
    let pairs : List (Seat × ℕ) = zip seats incs in
    let long : length pairs ≡ length seats = let z = length-zip seats incs in omega (arith, z, count) in
    get_or-map (λ p. advanced_seat p.0 p.1) pairs k (d, 0) d (omega (arith, long, h))
    ∙ ap (λ (p : Seat × ℕ). advanced_seat p.0 p.1) (get_or-zip seats incs k (d, 0) h (omega (arith, count, h)))

length_advanced : (seats : List Seat) (incs : List ℕ) → length incs ≡ length seats
    → length (advance_members seats incs) ≡ length seats
length_advanced seats incs count =
    let z = length-zip seats incs in let m = length-map (zip seats incs) (λ p. advanced_seat p.0 p.1) in omega
    (arith, z, m, count)

pub may_inside : (a : Inside) (p : Placed) (incs : List ℕ) → placed_of a ≡ p
    → why (net_of p.plan) p.world (Quantum incs) ≡ None → MayAdvance (net_of a.plan.now) (world_in a) incs
may_inside a p incs is none =
    may_advance (net_of a.plan.now) (world_in a) incs
    (subst (λ (x : Placed). why (net_of x.plan) x.world (Quantum incs) ≡ None) (sym is) none)

-- the world after a quantum
abbrev world_next : Inside → List ℕ → World
world_next a incs = record { quanta = a.quanta + 1; members = map member_of (advance_members a.members.items incs) }

next_is : (a : Inside) (incs : List ℕ) → IsInside a
    → why (net_of a.plan.now) (world_in a) (Quantum incs) ≡ None
    → world_next a incs ≡ effect (net_of a.plan.now) (world_in a) (Quantum incs)
next_is a incs i none =
    ap (λ (ms : List Member). let w : World = record { quanta = a.quanta + 1; members = ms } in w)
    (members_advanced a.members.items incs)
    ∙ sym (quantum_is (net_of a.plan.now) (world_in a) incs (known_inside a i).members (may_advance (net_of a.plan.now) (world_in a) incs none))

readable_next : (a : Inside) (incs : List ℕ) → IsInside a
    → why (net_of a.plan.now) (world_in a) (Quantum incs) ≡ None → All IsReadable (advance_members a.members.items incs)
readable_next a incs i none =
    let net : Net = net_of a.plan.now in
    let known : IsKnown net (world_next a incs) =
    reachable_is_known net (world_next a incs) (plan_has_numbers a.plan.now)
    (subst (λ (x : World). IsReachable net x) (sym (next_is a incs i none)) (step_is_reachable net (world_in a) (Quantum incs) i.reachable none)) in
    let members : length (map member_of (advance_members a.members.items incs)) ≡ net.nodes = known.members in
    let long = length-map (advance_members a.members.items incs) member_of in
    λ k d h.
    let inside : k < net.nodes = omega (arith, members, long, h) in
    let is : member (world_next a incs) k ≡ member_of (slice_index_or (advance_members a.members.items incs) k d) =
    get_or-map member_of (advance_members a.members.items incs) k d nobody h in (
      subst (λ (m : Member). m.node.last ≤ m.reading) is (known.last k inside),
      subst (λ (m : Member). m.reading < 2 ^ 62) is (known.short k inside).reading,
    )

-- the clocks at the seats of a world
clocks_at : (a : Inside) → IsInside a → a.clocks.items ≡ map clock_at a.members.items
clocks_at a i =
    i.clocks
    ∙ sym (clocks_are (net_of a.plan.now) a.members.items (λ k d h. ap (λ (q : NodeParams). q.rate) (i.members k d h).told))

-- what the clocks may go on with
pub record MayAdvanceClocks (a : Inside) (incs : List ℕ) : Type 0 where
  pub count : length incs ≡ length a.clocks.items
  pub room : All (λ x. x < 2 ^ 62) a.clocks.items
  pub readable : All IsReadable (advance_members a.members.items incs)
  pub slow : AreSlowClocks (advance_members a.members.items incs) (sums a.clocks.items incs)
  pub none_fast : a.fast ≡ 0 → All (λ s. is_fast s.core.node.mode ≡ false) (advance_members a.members.items incs)

may_advance_clocks : (a : Inside) (incs : List ℕ) → IsInside a
    → why (net_of a.plan.now) (world_in a) (Quantum incs) ≡ None → MayAdvanceClocks a incs
may_advance_clocks a incs i none =
    let net : Net = net_of a.plan.now in
    let seats : List Seat = a.members.items in
    let shown = clocks_at a i in
    let nodes = count_inside a i in
    let may = may_advance net (world_in a) incs none in
    let count : length incs ≡ length seats = may.count ∙ sym nodes in
    let long : length a.clocks.items ≡ length seats = ap (λ (xs : List ℕ). length xs) shown ∙ length-map seats clock_at in
    let each : length incs ≡ length a.clocks.items = count ∙ sym long in
    let pairs : List (ℕ × ℕ) = zip a.clocks.items incs in
    let wide : length pairs ≡ length seats = let z = length-zip a.clocks.items incs in omega (arith, z, count, long) in
    let after : length (advance_members seats incs) ≡ length seats = length_advanced seats incs count in
    let clock : (k : ℕ) (d : Seat) → k < length seats → slice_index a.clocks.items k ≡ clock_at (slice_index_or seats k d) =
    λ k d h. ap (λ (xs : List ℕ). slice_index xs k) shown ∙ get_or-map clock_at seats k d 0 h in
    record {
      count = each;
      room = subst (λ (xs : List ℕ). All (λ x. x < 2 ^ 62) xs) (sym i.clocks)
          (All-map (λ (x : ℕ). x < 2 ^ 62) (λ (m : Member). clock_of net.rate m.node m.reading) (world_in a).members (λ k d h.
          let members = (known_inside a i).members in
          subst (λ (m : Member). clock_of net.rate m.node m.reading < 2 ^ 62)
          (get_or_default (world_in a).members k nobody d h)
          ((known_inside a i).short k (omega (arith, members, h))).clock));
      readable = readable_next a incs i none;
      slow = record {
        places = length-map pairs (λ p. p.0 + p.1) ∙ wide ∙ sym after;
        slow = λ k d h mode.
            let inside : k < length seats = omega (arith, h, after) in
            let next = advanced_at seats incs k d count inside in
            let s : Seat = slice_index_or seats k d in
            let inc : ℕ = slice_index incs k in
            let still : is_fast s.core.node.mode ≡ false =
            subst (λ (x : Seat). is_fast x.core.node.mode ≡ false) next mode in
            let at = (seat_at a i k d (omega (arith, inside, nodes))).at in
            let sum : slice_index (sums a.clocks.items incs) k ≡ slice_index a.clocks.items k + inc =
            get_or-map (λ p. p.0 + p.1) pairs k (0, 0) 0 (omega (arith, wide, inside))
            ∙ ap (λ (p : ℕ × ℕ). p.0 + p.1) (get_or-zip a.clocks.items incs k (0, 0) (omega (arith, long, inside)) (omega (arith, count, inside))) in
            sum ∙ ap (λ (x : ℕ). x + inc) (clock k d inside)
            ∙ sym (slow_grows s.core.params.rate s.core.node s.reading inc still at)
            ∙ ap clock_at (sym next);
      };
      none_fast = λ none k d h.
          let inside : k < length seats = omega (arith, h, after) in
          let next = advanced_at seats incs k d count inside in
          let members = (known_inside a i).members in
          let slow = none_fast (world_in a) (sym i.fast ∙ none) k (omega (arith, members, inside, nodes)) in
          let here : is_fast (slice_index_or seats k d).core.node.mode ≡ false =
          subst (λ (m : Member). is_fast m.node.mode ≡ false) (member_at a k d inside) slow in
          subst (λ (x : Seat). is_fast x.core.node.mode ≡ false) (sym next) here;
    }

pub clocks_may : (a : Inside) (p : Placed) (incs : List ℕ) → IsInside a → placed_of a ≡ p
    → why (net_of p.plan) p.world (Quantum incs) ≡ None → MayAdvanceClocks a incs
clocks_may a p incs i is none =
    may_advance_clocks a incs i
    (subst (λ (x : Placed). why (net_of x.plan) x.world (Quantum incs) ≡ None) (sym is) none)

pub seats_next : (a : Inside) (p : Placed) (incs : List ℕ) (seats new : List Seat) → IsInside a → placed_of a ≡ p
    → why (net_of p.plan) p.world (Quantum incs) ≡ None → seats ≡ a.members.items → new ≡ advance_members seats incs
    → ((with_items a.members new).items ≡ new) × (new ≡ advance_members a.members.items incs)
seats_next a p incs seats new i is none same done =
    let may =
    may_advance (net_of a.plan.now) (world_in a) incs
    (subst (λ (x : Placed). why (net_of x.plan) x.world (Quantum incs) ≡ None) (sym is) none) in
    let nodes = count_inside a i in
    let all : new ≡ advance_members a.members.items incs = done ∙ ap (λ (ss : List Seat). advance_members ss incs) same in
    let long : length new ≡ length a.members.items =
    ap (λ (ss : List Seat). length ss) all ∙ length_advanced a.members.items incs (may.count ∙ sym nodes) in
    (with_items_is a.members new (let v = a.members in omega (arith, long, v)), all)

-- the fields after a quantum
abbrev pub after_quantum : Inside → List Seat → List ℕ → Deadlines → Inside
after_quantum a seats clocks late = record {
  plan = a.plan;
  quanta = a.quanta + 1;
  members = with_items a.members seats;
  clocks = with_items a.clocks clocks;
  deadlines = late;
  fast = a.fast;
}

-- all that is known where a quantum is allowed
pub record Advances (a : Inside) (incs : List ℕ) (new : List Seat) (clocks : List ℕ) (late : Deadlines) : Type 0 where
  pub items : (with_items a.members new).items ≡ new
  pub world : world_in (after_quantum a new clocks late) ≡ effect (net_of a.plan.now) (world_in a) (Quantum incs)
  pub inside : IsInside (after_quantum a new clocks late)

pub advances : (a : Inside) (p : Placed) (incs : List ℕ) (seats new : List Seat) (clocks : List ℕ) (late : Deadlines)
    → IsInside a
    → placed_of a ≡ p → why (net_of p.plan) p.world (Quantum incs) ≡ None
    → AreDeadlines (net_of p.plan) p.world late
    → seats ≡ a.members.items → new ≡ advance_members seats incs → clocks ≡ map clock_at new
    → Advances a incs new clocks late
advances a p incs seats new clocks late i is none ahead same done shown =
    let net : Net = net_of a.plan.now in
    let here : why net (world_in a) (Quantum incs) ≡ None =
    subst (λ (x : Placed). why (net_of x.plan) x.world (Quantum incs) ≡ None) (sym is) none in
    let may = may_advance net (world_in a) incs here in
    let nodes = count_inside a i in
    let count : length incs ≡ length a.members.items = may.count ∙ sym nodes in
    let all : new ≡ advance_members a.members.items incs = done ∙ ap (λ (ss : List Seat). advance_members ss incs) same in
    let long : length new ≡ length a.members.items =
    ap (λ (ss : List Seat). length ss) all ∙ length_advanced a.members.items incs count in
    let items : (with_items a.members new).items ≡ new =
    with_items_is a.members new (let v = a.members in omega (arith, long, v)) in
    let next = quantum_is net (world_in a) incs (known_inside a i).members may in
    let each_counts : length incs ≡ length (world_in a).members = may.count ∙ sym (known_inside a i).members in
    let late_here : AreDeadlines net (world_in a) late =
    subst (λ (x : Placed). AreDeadlines (net_of x.plan) x.world late) (sym is) ahead in
    let rows : length clocks ≡ length a.clocks.items =
    ap (λ (xs : List ℕ). length xs) shown ∙ length-map new clock_at ∙ long
    ∙ sym (ap (λ (xs : List ℕ). length xs) (clocks_at a i) ∙ length-map a.members.items clock_at) in
    let row : (with_items a.clocks clocks).items ≡ clocks =
    with_items_is a.clocks clocks (let v = a.clocks in omega (arith, rows, v)) in
    let world : world_in (after_quantum a new clocks late) ≡ effect net (world_in a) (Quantum incs) =
    ap (λ (ss : List Seat). let w : World = record { quanta = a.quanta + 1; members = map member_of ss } in w)
    (items ∙ all)
    ∙ ap (λ (ms : List Member). let w : World = record { quanta = a.quanta + 1; members = ms } in w)
    (members_advanced a.members.items incs)
    ∙ sym next in
    let each : (k : ℕ) (d : Seat) → k < length a.members.items → IsMember net k (slice_index_or (advance_members a.members.items incs) k d) =
    λ k d h.
    let before = i.members k d h in
    let after : IsMember net k (advanced_seat (slice_index_or a.members.items k d) (slice_index incs k)) =
    record { told = before.told; delays = before.delays } in
    subst (λ (s : Seat). IsMember net k s) (sym (advanced_at a.members.items incs k d count h)) after in
    let seats_are : (k : ℕ) (d : Seat) → k < length (after_quantum a new clocks late).members.items → IsMember net k
    (slice_index_or (after_quantum a new clocks late).members.items k d) =
    subst (λ (ss : List Seat). (k : ℕ) (d : Seat) → k < length ss → IsMember net k (slice_index_or ss k d))
    (sym (items ∙ all))
    (λ k d h. each k d (let l = length_advanced a.members.items incs count in omega (arith, l, h))) in
    record {
      items = items;
      world = world;
      inside =
          step_inside a (after_quantum a new clocks late) (Quantum incs) refl i here world seats_are
          (row ∙ shown ∙ ap (map clock_at) all
          ∙ clocks_are net (advance_members a.members.items incs) (λ k d h. ap (λ (q : NodeParams). q.rate) (each k d (let l = length_advanced a.members.items incs count in omega (arith, l, h))).told)
          ∙ ap (clocks_in net) (next_is a incs i here))
          (subst (λ (x : World). AreDeadlines net x late) (sym next) (deadlines_advanced net (world_in a) incs late each_counts late_here))
          (i.fast ∙ sym (fast_advanced (world_in a) incs each_counts) ∙ ap fast_in (sym next));
    }
