-- What is read of all nodes of a world.
use Rattle.std.proofs.Common.{◌≡◌, ℕ, suc, ◌+◌, ◌-◌, ◌<◌, ◌^◌, ◌∙◌, arith, ap, subst, refl, get_or, length, List, [], ◌∷◌, map, slice_index, slice_index_or}
use Rattle.std.proofs.lemmas.List.{get_or-map, get_or_default, length-map}
use Rattle.gs_core.specs.Node.{clock_of}
use Rattle.gs_plan.specs.declared.plan.Plan.{Plan}
use Rattle.gs_plan.specs.Plans.{graph_of}
use Rattle.gs_plan.proofs.Telling.{plan_is_graph}
use Rattle.gs_run.specs.Net.{Net}
use Rattle.gs_run.specs.Nets.{net_of}
use Rattle.gs_world.specs.Placed.{Placed}
use Rattle.gs_world.specs.inside.Members.{clock_at, member_of}
use Rattle.gs_world.specs.inside.Seen.{IsInside, placed_of, world_in}
use Rattle.gs_run.specs.World.{World, clock_in, clocks_in, nobody}
use Rattle.gs_world.specs.declared.member.Member.{Member as Seat}
use Rattle.gs_world.specs.declared.world.World.TheInside.{Inside}
use Rattle.gs_world.proofs.Placing.{known_inside}

-- the clocks at the seats are those of the world
pub clocks_are : (net : Net) (seats : List Seat)
    → ((k : ℕ) (d : Seat) → k < length seats → (slice_index_or seats k d).core.params.rate ≡ net.rate)
    → map clock_at seats ≡ map (λ m. clock_of net.rate m.node m.reading) (map member_of seats)
clocks_are net [] each = refl
clocks_are net (s ∷ ss) each =
    let here = each 0 s (omega arith) in
    let rest = clocks_are net ss (λ k d h. each (suc k) d (omega (arith, h))) in
    rw (here, rest) refl

-- the clocks that are kept are those of the world
pub clocks_shown : (a : Inside) (p : Placed) → IsInside a → placed_of a ≡ p
    → a.clocks.items ≡ clocks_in (net_of p.plan) p.world
clocks_shown a p i is =
    subst (λ (x : Placed). a.clocks.items ≡ clocks_in (net_of x.plan) x.world) is i.clocks

pub clocks_inside : (a : Inside) → IsInside a → length a.clocks.items ≡ (net_of a.plan.now).nodes
clocks_inside a i =
    ap (λ (xs : List ℕ). length xs) i.clocks
    ∙ length-map (world_in a).members (λ m. clock_of (net_of a.plan.now).rate m.node m.reading)
    ∙ (known_inside a i).members

pub clocks_count : (a : Inside) (p : Placed) → IsInside a → placed_of a ≡ p
    → length a.clocks.items ≡ (graph_of p.plan).nodes
clocks_count a p i is =
    subst (λ (x : Placed). length a.clocks.items ≡ (graph_of x.plan).nodes) is (clocks_inside a i)

-- the clock of a node stands at its place
pub clock_listed : (net : Net) (w : World) (v : ℕ) → v < length w.members
    → slice_index (clocks_in net w) v ≡ clock_in net w v
clock_listed net w v h = get_or-map (λ m. clock_of net.rate m.node m.reading) w.members v nobody 0 h

pub clock_found : (a : Inside) (p : Placed) (v : ℕ) → IsInside a → placed_of a ≡ p → v < (graph_of p.plan).nodes
    → slice_index (clocks_in (net_of p.plan) p.world) v ≡ clock_in (net_of p.plan) p.world v
clock_found a p v i is h =
    subst
    (λ (x : Placed). v < (graph_of x.plan).nodes → slice_index (clocks_in (net_of x.plan) x.world) v ≡ clock_in (net_of x.plan) x.world v) is
    (λ here. clock_listed (net_of a.plan.now) (world_in a) v (let n = (known_inside a i).members in omega (arith, n, here))) h

-- the same of what was read there
pub clock_shown : (a : Inside) (p : Placed) (v clock : ℕ) → IsInside a → placed_of a ≡ p → v < (graph_of p.plan).nodes
    → clock ≡ slice_index_or a.clocks.items v clock → clock ≡ clock_in (net_of p.plan) p.world v
clock_shown a p v clock i is h read =
    let count = clocks_count a p i is in
    read ∙ get_or_default a.clocks.items v clock 0 (omega (arith, count, h))
    ∙ ap (λ (xs : List ℕ). slice_index xs v) (clocks_shown a p i is) ∙ clock_found a p v i is h

pub clock_small : (a : Inside) (p : Placed) (v clock : ℕ) → IsInside a → placed_of a ≡ p → v < (graph_of p.plan).nodes
    → clock ≡ slice_index_or a.clocks.items v clock → clock < 2 ^ 62
clock_small a p v clock i is h read =
    let e = clock_shown a p v clock i is h read in
    let small : (x : Placed) → placed_of a ≡ x → v < (graph_of x.plan).nodes → clock_in (net_of x.plan) x.world v < 2 ^ 62 =
    λ x same. subst (λ (y : Placed). v < (graph_of y.plan).nodes → clock_in (net_of y.plan) y.world v < 2 ^ 62) same
    (λ here. ((known_inside a i).short v here).clock) in
    let below = small p is h in
    omega (arith, e, below)

-- the ends of an edge are nodes
pub ends_of_edge : (p : Plan) (e : ℕ) → e < length (graph_of p).edges
    → ((get_or (graph_of p).edges e (0, 0)).0 < (graph_of p).nodes) × ((get_or (graph_of p).edges e (0, 0)).1 < (graph_of p).nodes)
ends_of_edge p e h =
    let graph = plan_is_graph p.text p.topo p.accepted p.graph in
    let upright = graph.upright e (0, 0) h in
    let below = graph.below e (0, 0) h in
    (omega (arith, upright, below), below)

pub either_way : (r a b x y : ℕ) → r ≡ (a - b) + (b - a) → a ≡ x → b ≡ y → r ≡ (y - x) + (x - y)
either_way r a b x y is first second = omega (arith, is, first, second)
