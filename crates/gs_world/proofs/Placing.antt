-- What is known of the fields of a world, and what one event does to them.
use Rattle.std.proofs.Common.{◌≡◌, ◌≢◌, ℕ, ◌+◌, ◌<◌, ◌≤◌, ◌-◌, ◌^◌, ◌∙◌, arith, false, nat_le, ap, sym, subst, refl, inl, inr, length, List, None, Result, Ok, Err, OnErr, slice_index_or, slice_set, vec_len}
use Rattle.std.specs.Vec.{with_item}
use Rattle.std.proofs.lemmas.Bool.{cases_lt}
use Rattle.std.proofs.lemmas.Grind.{get_or-set_at}
use Rattle.std.proofs.lemmas.List.{get_or-map, get_or-set_other, length-map, length-set, map-set}
use Rattle.std.proofs.Math.Seq.{map-set_same}
use Rattle.gs_core.specs.Steps.{tick_fault}
use Rattle.gs_core.specs.declared.event.Event.{Event}
use Rattle.gs_core.specs.declared.event.Event.TheVariants.{Tick}
use Rattle.gs_plan.specs.declared.plan.Plan.{Plan}
use Rattle.gs_plan.specs.Plans.{graph_of, text_of}
use Rattle.gs_units.specs.declared.params.NodeParams.{NodeParams}
use Rattle.gs_world.specs.inside.Members.{fast_one, IsMember, IsToldAs, member_of}
use Rattle.gs_run.specs.Fast.{fast_in, is_fast}
use Rattle.gs_world.specs.inside.Late.{AreDeadlines}
use Rattle.gs_run.specs.Net.{Net, neighbours, params_of}
use Rattle.gs_run.specs.Nets.{net_of}
use Rattle.gs_world.specs.Placed.{Placed}
use Rattle.gs_run.specs.Reach.{IsReachable}
use Rattle.gs_world.specs.inside.Seen.{IsInside, placed_of, world_in}
use Rattle.gs_run.specs.Why.{why}
use Rattle.gs_run.specs.World.{Member, World, clocks_in, effect, member, nobody, ticked_member, with_member}
use Rattle.gs_world.specs.declared.deadlines.Deadlines.{Deadlines}
use Rattle.gs_world.specs.declared.member.Member.{Member as Seat}
use Rattle.gs_world.specs.declared.world.World.TheInside.{Inside}
use Rattle.gs_run.proofs.Dates.{AreNumbered}
use Rattle.gs_run.proofs.PlanNumbers.{plan_has_numbers}
use Rattle.gs_run.proofs.Reaching.{IsKnown, known_tick, reachable_is_known, step_is_reachable}
use Rattle.gs_run.proofs.Safe.{IsShort}
use Rattle.gs_world.proofs.Upkeep.{clocks_ticked, deadlines_ticked, few_fast, fast_counted, fast_replaced}

-- ---- what is known

pub known_inside : (a : Inside) → IsInside a → IsKnown (net_of a.plan.now) (world_in a)
known_inside a i = reachable_is_known (net_of a.plan.now) (world_in a) (plan_has_numbers a.plan.now) i.reachable

-- there is a seat for each node
pub count_inside : (a : Inside) → IsInside a → length a.members.items ≡ (net_of a.plan.now).nodes
count_inside a i = sym (length-map a.members.items member_of) ∙ (known_inside a i).members

pub room_inside : (a : Inside) → IsInside a → vec_len a.members ≡ (net_of a.plan.now).nodes
room_inside a i = let k = count_inside a i in let v = a.members in omega (arith, k, v)

-- the member at a seat
pub member_at : (a : Inside) (v : ℕ) (d : Seat) → v < length a.members.items
    → member (world_in a) v ≡ member_of (slice_index_or a.members.items v d)
member_at a v d h = get_or-map member_of a.members.items v d nobody h

-- what is known of the seat of node v
pub record IsKnownMember (net : Net) (v : ℕ) (s : Seat) : Type 0 where
  pub seat : IsMember net v s
  pub short : IsShort net (member_of s)
  pub at : s.core.node.at ≤ s.reading
  pub last : s.core.node.last ≤ s.reading
  pub heard : length s.heard.items ≡ length (neighbours net v)
  pub numbered : AreNumbered s.core.node.seq s.sent.items

pub seat_at : (a : Inside) → IsInside a → (v : ℕ) (d : Seat) → v < (net_of a.plan.now).nodes
    → IsKnownMember (net_of a.plan.now) v (slice_index_or a.members.items v d)
seat_at a i v d h =
    let net : Net = net_of a.plan.now in
    let k = known_inside a i in
    let inside : v < length a.members.items = let n = count_inside a i in omega (arith, n, h) in
    let is : member (world_in a) v ≡ member_of (slice_index_or a.members.items v d) = member_at a v d inside in
    record {
      seat = i.members v d inside;
      short = subst (λ (m : Member). IsShort net m) is (k.short v h);
      at = subst (λ (m : Member). m.node.at ≤ m.reading) is (k.at v h);
      last = subst (λ (m : Member). m.node.last ≤ m.reading) is (k.last v h);
      heard = subst (λ (m : Member). length m.heard ≡ length (neighbours net v)) is (k.heard v h);
      numbered = subst (λ (m : Member). AreNumbered m.node.seq m.sent) is (k.numbered v h);
    }

-- the same of what was read there
pub seat_read : (a : Inside) → IsInside a → (v : ℕ) (s : Seat) → v < (net_of a.plan.now).nodes
    → s ≡ slice_index_or a.members.items v s → IsKnownMember (net_of a.plan.now) v s
seat_read a i v s h is = subst (λ (x : Seat). IsKnownMember (net_of a.plan.now) v x) (sym is) (seat_at a i v s h)

pub member_read : (a : Inside) → IsInside a → (v : ℕ) (s : Seat) → v < (net_of a.plan.now).nodes
    → s ≡ slice_index_or a.members.items v s → member (world_in a) v ≡ member_of s
member_read a i v s h is =
    let inside : v < length a.members.items = let n = count_inside a i in omega (arith, n, h) in
    member_at a v s inside ∙ ap member_of (sym is)

-- ---- one event

-- what is so of all seats and of a new one is so of all after it took its place
set_seats : (net : Net) (seats : List Seat) (v : ℕ) (s : Seat)
    → ((k : ℕ) (d : Seat) → k < length seats → IsMember net k (slice_index_or seats k d)) → IsMember net v s
    → (k : ℕ) (d : Seat) → k < length (slice_set seats v s) → IsMember net k (slice_index_or (slice_set seats v s) k d)
set_seats net seats v s each new k d h =
    let inside : k < length seats = rw (length-set seats v s) at h in
    elim (cases_lt k v) [
      | inl before ↦ let other : k ≢ v =
          omega (arith, before) in rw (get_or-set_other seats v k s d other) (each k d inside)
      | inr from ↦ elim (cases_lt v k) [
        | inl after ↦ let other : k ≢ v =
            omega (arith, after) in rw (get_or-set_other seats v k s d other) (each k d inside)
        | inr to ↦ let same : k ≡ v =
            omega (arith, from, to) in rw (get_or-set_at seats v k s d same (omega (arith, same, inside)), same) new
      ]
    ]

-- an allowed event leads to fields that stand for a world
pub step_inside : (a b : Inside) (e : Event) → b.plan.now ≡ a.plan.now → IsInside a
    → why (net_of a.plan.now) (world_in a) e ≡ None
    → world_in b ≡ effect (net_of a.plan.now) (world_in a) e
    → ((v : ℕ) (d : Seat) → v < length b.members.items → IsMember (net_of a.plan.now) v (slice_index_or b.members.items v d))
    → b.clocks.items ≡ clocks_in (net_of a.plan.now) (effect (net_of a.plan.now) (world_in a) e)
    → AreDeadlines (net_of a.plan.now) (effect (net_of a.plan.now) (world_in a) e) b.deadlines
    → b.fast ≡ fast_in (effect (net_of a.plan.now) (world_in a) e)
    → IsInside b
step_inside a b e same i none is seats clocks late fast =
    let reachable : IsReachable (net_of a.plan.now) (world_in b) =
    subst (λ (w : World). IsReachable (net_of a.plan.now) w) (sym is)
    (step_is_reachable (net_of a.plan.now) (world_in a) e i.reachable none) in
    let shown : b.clocks.items ≡ clocks_in (net_of a.plan.now) (world_in b) =
    clocks ∙ ap (clocks_in (net_of a.plan.now)) (sym is) in
    let deadlines : AreDeadlines (net_of a.plan.now) (world_in b) b.deadlines =
    subst (λ (w : World). AreDeadlines (net_of a.plan.now) w b.deadlines) (sym is) late in
    record {
      members =
          subst
          (λ (p : Plan). (v : ℕ) (d : Seat) → v < length b.members.items → IsMember (net_of p) v (slice_index_or b.members.items v d)) (sym same) seats;
      reachable = subst (λ (p : Plan). IsReachable (net_of p) (world_in b)) (sym same) reachable;
      clocks = subst (λ (p : Plan). b.clocks.items ≡ clocks_in (net_of p) (world_in b)) (sym same) shown;
      deadlines = subst (λ (p : Plan). AreDeadlines (net_of p) (world_in b) b.deadlines) (sym same) deadlines;
      fast = fast ∙ ap fast_in (sym is);
    }

-- the fields with one seat changed, and what is kept beside
abbrev pub with_seat : Inside → ℕ → Seat → Deadlines → ℕ → Inside
with_seat a v s late fast =
    record {
      plan = a.plan;
      quanta = a.quanta;
      members = with_item a.members v s;
      clocks = a.clocks;
      deadlines = late;
      fast = fast;
    }

pub world_with_seat : (a : Inside) (v : ℕ) (s : Seat) (late : Deadlines) (fast : ℕ)
    → world_in (with_seat a v s late fast) ≡ with_member (world_in a) v (member_of s)
world_with_seat a v s late fast =
    ap (λ (ms : List Member). let w : World = record { quanta = a.quanta; members = ms } in w)
    (map-set member_of a.members.items v s)

-- ---- in the words of contracts

-- the seats of a world, one for each node
pub seats_of : (a : Inside) (p : Placed) → IsInside a → placed_of a ≡ p → vec_len a.members ≡ (graph_of p.plan).nodes
seats_of a p i is = subst (λ (x : Placed). vec_len a.members ≡ (graph_of x.plan).nodes) is (room_inside a i)

-- what was read at node v
pub record Reads (p : Placed) (v : ℕ) (s : Seat) : Type 0 where
  pub known : IsKnownMember (net_of p.plan) v s
  pub member : member p.world v ≡ member_of s

pub reads : (a : Inside) (p : Placed) (v : ℕ) (s : Seat) → IsInside a → placed_of a ≡ p → v < (graph_of p.plan).nodes
    → s ≡ slice_index_or a.members.items v s → Reads p v s
reads a p v s i is h read =
    subst (λ (x : Placed). v < (graph_of x.plan).nodes → Reads x v s) is
    (λ h. record { known = seat_read a i v s h read; member = member_read a i v s h read }) h

-- ---- a tick

told_seat : (net : Net) (v : ℕ) (old new : Seat) → IsMember net v old → IsToldAs old new → IsMember net v new
told_seat net v old new seat told = record { told = told.told ∙ seat.told; delays = told.delays ∙ seat.delays }

pub seats_with : (a : Inside) (v : ℕ) (old new : Seat) → IsInside a → v < (net_of a.plan.now).nodes
    → old ≡ slice_index_or a.members.items v old → IsToldAs old new
    → (k : ℕ) (d : Seat) → k < length (slice_set a.members.items v new)
    → IsMember (net_of a.plan.now) k (slice_index_or (slice_set a.members.items v new) k d)
seats_with a v old new i h read told =
    set_seats (net_of a.plan.now) a.members.items v new i.members
    (told_seat (net_of a.plan.now) v old new (seat_read a i v old h read).seat told)

same_world : (a : Inside) (v : ℕ) (old new : Seat) → old ≡ slice_index_or a.members.items v old
    → member_of new ≡ member_of old → world_in (with_seat a v new a.deadlines a.fast) ≡ world_in a
same_world a v old new read same =
    ap (λ (ms : List Member). let w : World = record { quanta = a.quanta; members = ms } in w)
    (map-set_same member_of a.members.items v new old (same ∙ ap member_of read))

-- a seat whose member is as it was changes nothing
pub unchanged_inside : (a : Inside) (v : ℕ) (old new : Seat) → IsInside a → v < (net_of a.plan.now).nodes
    → old ≡ slice_index_or a.members.items v old → IsToldAs old new
    → member_of new ≡ member_of old → IsInside (with_seat a v new a.deadlines a.fast)
unchanged_inside a v old new i h read told same =
    let is = same_world a v old new read same in
    record {
      members = seats_with a v old new i h read told;
      reachable = subst (λ (w : World). IsReachable (net_of a.plan.now) w) (sym is) i.reachable;
      clocks = i.clocks ∙ ap (clocks_in (net_of a.plan.now)) (sym is);
      deadlines = subst (λ (w : World). AreDeadlines (net_of a.plan.now) w a.deadlines) (sym is) i.deadlines;
      fast = i.fast ∙ ap fast_in (sym is);
    }

pub unchanged_view : (a : Inside) (v : ℕ) (old new : Seat) → old ≡ slice_index_or a.members.items v old
    → member_of new ≡ member_of old → placed_of (with_seat a v new a.deadlines a.fast) ≡ placed_of a
unchanged_view a v old new read same =
    ap (λ (w : World). let p : Placed = record { plan = a.plan.now; world = w } in p)
    (same_world a v old new read same)

-- a tick of a node is allowed and has no fault
pub tick_is_allowed : (net : Net) (w : World) (v : ℕ) → v < net.nodes → why net w (Tick v) ≡ None
tick_is_allowed net w v h = let low : nat_le net.nodes v ≡ false = below net.nodes v h in rw low refl where
  below : (n v : ℕ) → v < n → nat_le n v ≡ false
  below n v h = grind arith

pub tick_has_no_fault : (a : Inside) (v : ℕ) (s : Seat) → IsInside a → v < (net_of a.plan.now).nodes
    → s ≡ slice_index_or a.members.items v s → length s.sent.items < 2 ^ 64 - 1
    → tick_fault s.core.params s.core.node s.reading ≡ None
tick_has_no_fault a v s i h read room =
    let is = member_read a i v s h read in
    let here : length (member (world_in a) v).sent < 2 ^ 64 - 1 =
    subst (λ (m : Member). length m.sent < 2 ^ 64 - 1) (sym is) room in
    let none = known_tick (net_of a.plan.now) (world_in a) v (known_inside a i) h here in
    let at : tick_fault (params_of (net_of a.plan.now) v) s.core.node s.reading ≡ None =
    subst (λ (m : Member). tick_fault (params_of (net_of a.plan.now) v) m.node m.reading ≡ None) is none in
    subst (λ (q : NodeParams). tick_fault q s.core.node s.reading ≡ None) (sym (seat_read a i v s h read).seat.told) at

tick_is : (a : Inside) (v : ℕ) (old new : Seat) → IsInside a → v < (net_of a.plan.now).nodes
    → old ≡ slice_index_or a.members.items v old
    → member_of new ≡ ticked_member old.core.params a.quanta (member_of old)
    → member_of new ≡ ticked_member (params_of (net_of a.plan.now) v) a.quanta (member (world_in a) v)
tick_is a v old new i h read ticked =
    ticked
    ∙ ap (λ (q : NodeParams). ticked_member q a.quanta (member_of old)) (seat_read a i v old h read).seat.told
    ∙ ap (ticked_member (params_of (net_of a.plan.now) v) a.quanta) (sym (member_read a i v old h read))

ticked_world : (a : Inside) (v : ℕ) (old new : Seat) (late : Deadlines) (fast : ℕ) → IsInside a
    → v < (net_of a.plan.now).nodes → old ≡ slice_index_or a.members.items v old
    → member_of new ≡ ticked_member old.core.params a.quanta (member_of old)
    → world_in (with_seat a v new late fast) ≡ effect (net_of a.plan.now) (world_in a) (Tick v)
ticked_world a v old new late fast i h read ticked =
    world_with_seat a v new late fast ∙ ap (with_member (world_in a) v) (tick_is a v old new i h read ticked)

-- what is kept beside the seats after a tick
pub record KeepsTick (a : Inside) (old new : Seat) (late : Deadlines) (fast : ℕ) : Type 0 where
  pub sooner : late.due ≤ a.deadlines.due
  pub by : late.due ≤ a.quanta + (text_of a.plan.now).tick
  pub same : late.stale ≡ a.deadlines.stale
  pub counted : fast + fast_one (is_fast old.core.node.mode) ≡ a.fast + fast_one (is_fast new.core.node.mode)

-- the count before the tick has the node in it, and is small
pub count_before : (a : Inside) (v : ℕ) (old : Seat) → IsInside a → v < (net_of a.plan.now).nodes
    → old ≡ slice_index_or a.members.items v old
    → (fast_one (is_fast old.core.node.mode) ≤ a.fast) × (a.fast ≤ (net_of a.plan.now).nodes)
count_before a v old i h read =
    let members = (known_inside a i).members in
    let inside : v < length (world_in a).members = omega (arith, members, h) in
    let one : fast_one (is_fast old.core.node.mode) ≤ fast_in (world_in a) =
    subst (λ (m : Member). fast_one (is_fast m.node.mode) ≤ fast_in (world_in a)) (member_read a i v old h read)
    (fast_counted (world_in a) v inside) in
    let few = few_fast (world_in a) in
    let is = i.fast in
    (omega (arith, one, is), omega (arith, few, members, is))

pub ticked_inside : (a : Inside) (v : ℕ) (old new : Seat) (late : Deadlines) (fast : ℕ) → IsInside a
    → v < (net_of a.plan.now).nodes
    → old ≡ slice_index_or a.members.items v old → IsToldAs old new
    → member_of new ≡ ticked_member old.core.params a.quanta (member_of old) → KeepsTick a old new late fast
    → IsInside (with_seat a v new late fast)
ticked_inside a v old new late fast i h read told ticked keeps =
    let net : Net = net_of a.plan.now in
    let members = (known_inside a i).members in
    let inside : v < length (world_in a).members = omega (arith, members, h) in
    let after : Member = ticked_member (params_of net v) a.quanta (member (world_in a) v) in
    let was = ap (λ (m : Member). fast_one (is_fast m.node.mode)) (member_read a i v old h read) in
    let is = ap (λ (m : Member). fast_one (is_fast m.node.mode)) (tick_is a v old new i h read ticked) in
    let replaced = fast_replaced (world_in a) v after inside in
    let counted = keeps.counted in
    let before = i.fast in
    step_inside a (with_seat a v new late fast) (Tick v) refl i (tick_is_allowed net (world_in a) v h)
    (ticked_world a v old new late fast i h read ticked) (seats_with a v old new i h read told)
    (i.clocks ∙ sym (clocks_ticked net (world_in a) v))
    (deadlines_ticked net (world_in a) v (params_of net v) a.deadlines late inside i.deadlines keeps.sooner keeps.by keeps.same)
    (omega (arith, was, is, replaced, counted, before))

pub ticked_effect : (a : Inside) (p : Placed) (v : ℕ) (old new : Seat) (late : Deadlines) (fast : ℕ) → IsInside a
    → placed_of a ≡ p
    → v < (net_of a.plan.now).nodes → old ≡ slice_index_or a.members.items v old
    → member_of new ≡ ticked_member old.core.params a.quanta (member_of old)
    → world_in (with_seat a v new late fast) ≡ effect (net_of p.plan) p.world (Tick v)
ticked_effect a p v old new late fast i is h read ticked =
    subst (λ (x : Placed). world_in (with_seat a v new late fast) ≡ effect (net_of x.plan) x.world (Tick v)) is
    (ticked_world a v old new late fast i h read ticked)

-- what holds anyway holds of a refusal
pub on_err : {X E : Type 0} (P : Type 0) (r : Result X E) → P → OnErr r P
on_err P (Ok x) h = tt
on_err P (Err e) h = h
