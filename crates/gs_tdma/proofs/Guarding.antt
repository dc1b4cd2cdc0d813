-- Guards suffice: two clocks that send in different slots are further apart than nodes within reach can be.
use Rattle.std.proofs.Common.{◌≡◌, ◌≢◌, ℕ, ◌+◌, ◌-◌, ◌*◌, ◌/◌, ◌%◌, ◌<◌, ◌≤◌, ◌&&◌, ◌⊎◌, inl, inr, arith, ap, sym, ◌∙◌, subst, if◌then◌else◌, List, [], ◌∷◌, length, take, slice_index}
use Rattle.std.proofs.Math.Nat.{add-mul, div-add-mod', mul-le-mul_left, mul-le-mul_right, mul_comm}
use Rattle.std.proofs.lemmas.Bool.{and_parts, cases_lt, leb-true, ltb-true}
use Rattle.std.proofs.lemmas.Grind.{div_ceil_times}
use Rattle.std.proofs.lemmas.List.{length-map}
use Rattle.gs_topo.specs.Graph.{Graph}
use Rattle.gs_topo.specs.Walks.{distance_of}
use Rattle.gs_topo.proofs.Distances.{are_metric}
use Rattle.gs_topo.proofs.Tables.{le_greatest}
use Rattle.gs_core.specs.Node.{clock_of}
use Rattle.gs_core.specs.declared.event.Event.{Event}
use Rattle.gs_plan.specs.Bounds.{best_edge_in, greatest_kappa_in}
use Rattle.gs_plan.proofs.Keeping.{best_is}
use Rattle.gs_plan.specs.Plans.{graph_of, rate_of, text_of}
use Rattle.gs_plan.specs.declared.plan.Plan.{Plan}
use Rattle.gs_plan.proofs.Weights.{graph_is, least_in_plan}
use Rattle.gs_run.specs.Bounds.{Bounded}
use Rattle.gs_run.specs.Net.{Net, level_of}
use Rattle.gs_run.specs.Nets.{net_of}
use Rattle.gs_run.specs.Run.{Allowed, run}
use Rattle.gs_run.specs.World.{World, clock_in, clocks_in, world_at_start, world_from}
use Rattle.gs_run.specs.Accepted.{AreNumbers}
use Rattle.gs_run.proofs.Moments.{last_moment, run_of_watched, start, whole_run}
use Rattle.gs_run.proofs.Pairs.{within_potential}
use Rattle.gs_run.proofs.PlanNumbers.{level_is, plan_has_numbers}
use Rattle.gs_run.proofs.Theorems.{allowed_front, always_bounded, clock_at}
use Rattle.gs_tdma.specs.Laws.{NoneCollide, SlotsNeverCollide}
use Rattle.gs_tdma.specs.Near.{bound_over, kappas_in, near_in}
use Rattle.gs_tdma.specs.Slots.{AreSlots, Slots, colour_of, count_of}

-- ---- two clocks in different slots

-- x = a*m + i and y = b*m + j, in the slots of colours c and d below n, off both borders by g; here y is in a later period
later_period : (n slot g a b i j c d : ℕ) → c < n → a < b → i + g < (c + 1) * slot → d * slot + g ≤ j
    → a * (n * slot) + i + 2 * g < b * (n * slot) + j
later_period n slot g a b i j c d hc later above below =
    let m : ℕ = n * slot in
    let up : (c + 1) * slot ≤ m = mul-le-mul_right slot (omega (arith, hc)) in
    let more : (a + 1) * m ≤ b * m = mul-le-mul_right m (omega (arith, later)) in
    let one : (a + 1) * m ≡ a * m + 1 * m = add-mul a 1 m in
    omega (arith, up, more, one, above, below)

-- or in a later slot of the same
later_slot : (slot g p i j c d : ℕ) → c < d → i + g < (c + 1) * slot → d * slot + g ≤ j → p + i + 2 * g < p + j
later_slot slot g p i j c d later above below =
    let more : (c + 1) * slot ≤ d * slot = mul-le-mul_right slot (omega (arith, later)) in
    omega (arith, more, above, below)

-- Clocks that send in the slots of different colours differ by more than twice the guard.
pub apart : (n slot g x y c d : ℕ) → c ≢ d → c < n → d < n
    → c * slot + g ≤ x % (n * slot) → x % (n * slot) + g < (c + 1) * slot
    → d * slot + g ≤ y % (n * slot) → y % (n * slot) + g < (d + 1) * slot
    → (x + 2 * g < y) ⊎ (y + 2 * g < x)
apart n slot g x y c d other hc hd low_x high_x low_y high_y =
    let m : ℕ = n * slot in
    let whole_x = div-add-mod' x m in
    let whole_y = div-add-mod' y m in
    elim (cases_lt (x / m) (y / m)) [
      | inl later ↦
          let l = later_period n slot g (x / m) (y / m) (x % m) (y % m) c d hc later high_x low_y in
          inl (omega (arith, l, whole_x, whole_y))
      | inr rest ↦ elim (cases_lt (y / m) (x / m)) [
        | inl later ↦
            let l = later_period n slot g (y / m) (x / m) (y % m) (x % m) d c hd later high_y low_x in
            inr (omega (arith, l, whole_x, whole_y))
        | inr same ↦
            let e : x / m ≡ y / m = omega (arith, rest, same) in
            let period : x / m * m ≡ y / m * m = ap (λ (z : ℕ). z * m) e in
            elim (cases_lt c d) [
              | inl up ↦
                  let l = later_slot slot g (x / m * m) (x % m) (y % m) c d up high_x low_y in
                  inl (omega (arith, l, whole_x, whole_y, period))
              | inr not_up ↦ elim (cases_lt d c) [
                | inl down ↦
                    let l = later_slot slot g (y / m * m) (y % m) (x % m) d c down high_y low_x in
                    inr (omega (arith, l, whole_x, whole_y, period))
                | inr not_down ↦ absurd (other (omega (arith, not_up, not_down)))
              ]
            ]
      ]
    ]

-- ---- how far nodes within reach can be apart

-- By the bounds of all levels two nodes within reach are within near(R).
pub within_near : (p : Plan) (reach v w : ℕ) (clock : ℕ → ℕ) → v < (graph_of p).nodes → w < (graph_of p).nodes
    → distance_of (graph_of p) v w ≤ reach
    → ((s : ℕ) → clock w ≤ clock v + 2 * s * (net_of p).weight v w + level_of (net_of p) s)
    → clock w ≤ clock v + near_in p reach
within_near p reach v w clock hv hw near levels =
    let g : Graph = graph_of p in
    let kmax : ℕ = greatest_kappa_in (text_of p) g in
    let best = best_is (bound_over p reach) (text_of p).levels in
    let s : ℕ = (best_edge_in (text_of p) g (kappas_in p reach)).0 in
    let light = (least_in_plan p v w hv hw).1 in
    let steps : kmax * distance_of g v w ≤ kmax * reach = mul-le-mul_left kmax near in
    let turned : kmax * reach ≡ reach * kmax = mul_comm kmax reach in
    let times : 2 * s * (net_of p).weight v w ≤ 2 * s * (reach * kmax) = mul-le-mul_left (2 * s) (omega (arith, light, steps, turned)) in
    let level = level_is (text_of p) g (rate_of p) s p.rates in
    let l = levels s in
    let is = best.value in
    omega (arith, l, times, level, is)

-- ---- so none collide

-- colours are below their count
pub below_count : (colours : List ℕ) (v : ℕ) → v < length colours → slice_index colours v < count_of colours
below_count colours v h = let most = (le_greatest colours 0 v).1 h in omega (arith, most)

pub none_collide : (p : Plan) (s : Slots) (clock : ℕ → ℕ) → AreSlots p s
    → ((l v w : ℕ) → v < (graph_of p).nodes → w < (graph_of p).nodes
    → clock w ≤ clock v + 2 * l * (net_of p).weight v w + level_of (net_of p) l)
    → NoneCollide p s clock
none_collide p s clock slots levels v w hv hw other near send_v send_w =
    let g : Graph = graph_of p in
    let count = slots.colours.count in
    let back = (are_metric g (graph_is p).connected).same v w hv hw in
    let there = within_near p s.reach v w clock hv hw near (λ l. levels l v w hv hw) in
    let here = within_near p s.reach w v clock hw hv (omega (arith, near, back)) (λ l. levels l w v hw hv) in
    let enough = (div_ceil_times (near_in p s.reach) 2 (omega arith)).0 in
    let guard = slots.guard in
    let differ : colour_of s v ≢ colour_of s w = elim (cases_lt v w) [
      | inl up ↦ slots.colours.other v w up hw near
      | inr rest ↦ elim (cases_lt w v) [
        | inl down ↦ λ e. slots.colours.other w v down hv (omega (arith, near, back)) (sym e)
        | inr same ↦ absurd (other (omega (arith, rest, same)))
      ]
    ] in
    let cv = below_count s.colours v (omega (arith, count, hv)) in
    let cw = below_count s.colours w (omega (arith, count, hw)) in
    let low_v = leb-true _ _ (and_parts _ _ send_v).0 in
    let high_v = ltb-true _ _ (and_parts _ _ send_v).1 in
    let low_w = leb-true _ _ (and_parts _ _ send_w).0 in
    let high_w = ltb-true _ _ (and_parts _ _ send_w).1 in
    elim (apart (count_of s.colours) s.slot s.guard (clock v) (clock w) (colour_of s v) (colour_of s w) differ cv cw low_v high_v low_w high_w) [
      | inl above ↦ absurd (omega (arith, above, there, enough, guard))
      | inr below ↦ absurd (omega (arith, below, here, enough, guard))
    ]

-- ---- at every moment

members_of : (net : Net) (hw clocks : ℕ → ℕ) (es : List Event) → AreNumbers net → Allowed net (world_from net hw clocks) es
    → length (run net (world_from net hw clocks) es).members ≡ net.nodes
members_of net hw clocks es numbers allowed =
    let P : World → Type 0 = λ w. length w.members ≡ net.nodes in
    subst P (run_of_watched net (start net hw clocks) es) (last_moment numbers (whole_run net hw clocks es allowed)).members

-- two clocks of a bounded world
bounded_pair : (net : Net) (w : World) (l v x : ℕ) → Bounded net w → length w.members ≡ net.nodes → v < net.nodes → x < net.nodes
    → clock_in net w x ≤ clock_in net w v + 2 * l * net.weight v x + level_of net l
bounded_pair net w l v x bounded members hv hx =
    let clocks : List ℕ = clocks_in net w in
    let long : length clocks ≡ length w.members = length-map w.members (λ m. clock_of net.rate m.node m.reading) in
    let within = within_potential net.weight clocks l v x (omega (arith, long, members, hv)) (omega (arith, long, members, hx)) in
    let level = bounded.levels l in
    let a = clock_at net w v (omega (arith, members, hv)) in
    let b = clock_at net w x (omega (arith, members, hx)) in
    omega (arith, within, level, a, b)

pub never_collide : SlotsNeverCollide
never_collide p s hw l0 es i slots allowed =
    let net : Net = net_of p in
    let w0 : World = world_at_start net hw l0 in
    let w : World = run net w0 (take i es) in
    let bounded : Bounded net w = (always_bounded net hw l0 es (plan_has_numbers p) allowed i).0 in
    let members : length w.members ≡ net.nodes =
    members_of net (slice_index hw) (λ v. l0) (take i es) (plan_has_numbers p) (allowed_front net w0 es i allowed) in
    none_collide p s (clock_in net w) slots (λ l v x hv hx. bounded_pair net w l v x bounded members hv hx)
