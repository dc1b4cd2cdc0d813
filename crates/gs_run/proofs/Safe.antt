-- No node of a world refuses an event of the world, as its values stay far below the end of all clocks.
use Rattle.std.proofs.Common.{◌≡◌, ℕ, zero, suc, ◌+◌, ◌-◌, ◌*◌, ◌<◌, ◌≤◌, ◌^◌, ◌==◌, arith, ap, sym, ◌∙◌, refl, List, length, false, Some, None}
use Rattle.std.proofs.lemmas.Bool.{lt-leb, le-ltb, eq-eqb, ne_eqb, and_right, not_from_true}
use Rattle.std.proofs.lemmas.List.Elements.{All-contains}
use Rattle.std.proofs.Math.Nat.{mul-le-mul_left, mul-le-mul_right, div-le_of_le-mul}
use Rattle.gs_units.specs.Rates.{top_of, boost_of}
use Rattle.gs_units.specs.declared.rate.Rate.{Rate}
use Rattle.gs_core.specs.Node.{Decision, clock_of, maximum_of, is_due, link_place}
use Rattle.gs_core.specs.Steps.{is_end, is_past, tick_fault, deliver_fault}
use Rattle.gs_core.specs.declared.event.Event.{Event}
use Rattle.gs_run.specs.Net.{Net, Adjacent, params_of, neighbours, neighbour, place_of, comp_of, jump_of}
use Rattle.gs_run.specs.World.{World, Member, Sent, member}
use Rattle.gs_run.specs.Budget.{Watched, decision}
use Rattle.gs_run.specs.Accepted.{AreNumbers, IsSmall}
use Rattle.gs_run.proofs.Places.{neighbour_is_next, neighbour_is_node}
use Rattle.gs_run.proofs.Rows.{Grows, row_since_most, reading_since_most}
use Rattle.gs_run.proofs.Keeping.{Holds, Arrives}
use Rattle.gs_run.proofs.Current.{row_of, reading_of, link_place_is, link_at_is}
use Rattle.gs_run.proofs.Dates.{IsSent, IsDated, maximum_reached}
use Rattle.gs_run.proofs.Start.{first_row, first_reading}
use Rattle.gs_run.proofs.Moments.{IsRun, starts_at, run_grows, Dated, dated_before}

-- ---- numbers

top_small : (rate : Rate) → top_of rate ≤ 2 ^ 31 + 1
top_small rate =
    let high = rate.accepted.high in
    let boost = rate.accepted.boost in
    let scaled : rate.hi * rate.mu ≤ rate.hi * 1000000 = mul-le-mul_left rate.hi (omega (arith, boost)) in
    let turned : rate.hi * 1000000 ≡ 1000000 * rate.hi = omega arith in
    let small : boost_of rate rate.hi ≤ rate.hi = div-le_of_le-mul 1000000 (omega (arith, scaled, turned)) in
    omega (arith, high, small)

grown_small : (a top t : ℕ) → a ≤ 2 ^ 61 → top ≤ 2 ^ 31 + 1 → t ≤ 2 ^ 24 → a + top * t ≤ 2 ^ 61 + 2 ^ 56
grown_small a top t ha htop ht =
    let x : top * t ≤ (2 ^ 31 + 1) * t = mul-le-mul_right t htop in
    let y : (2 ^ 31 + 1) * t ≤ (2 ^ 31 + 1) * 2 ^ 24 = mul-le-mul_left (2 ^ 31 + 1) ht in
    omega (arith, x, y, ha)

-- ---- an allowed run has at most 2^24 quanta

few_from : {net : Net} {hw clocks : ℕ → ℕ} {es : List Event} {total : List World} {last : ℕ}
    → AreNumbers net → IsRun net hw clocks es total last → (t : ℕ) → t < last → t < 2 ^ 24
few_from numbers r t ht =
    let b = dated_before numbers r t ht in
    rw (← b.quanta) b.may.end

pub few_quanta : {net : Net} {hw clocks : ℕ → ℕ} {es : List Event} {total : List World} (last : ℕ)
    → AreNumbers net → IsRun net hw clocks es total last → last ≤ 2 ^ 24
few_quanta zero numbers r = omega arith
few_quanta (suc t) numbers r = few_from numbers r t (omega arith)

-- ---- values of a run

-- how readings and clocks grow, and how great they get
pub record AreFar (net : Net) (total : List World) (last : ℕ) : Type 0 where
  pub grows : Grows net last (row_of net total) (reading_of total)
  pub rows : (t v : ℕ) → t ≤ last → v < net.nodes → row_of net total t v ≤ 2 ^ 61 + 2 ^ 56
  pub readings : (t v : ℕ) → t ≤ last → v < net.nodes → reading_of total t v ≤ 2 ^ 61 + 2 ^ 56

pub run_is_far : {net : Net} {hw clocks : ℕ → ℕ} {es : List Event} {total : List World} {last : ℕ}
    → AreNumbers net → IsSmall net hw clocks → IsRun net hw clocks es total last → AreFar net total last
run_is_far {net} {hw} {clocks} {es} {total} {last} numbers small r =
    let grows = run_grows numbers r in
    let few = few_quanta last numbers r in
    let top = top_small net.rate in
    let s = starts_at r in
    record {
      grows = grows;
      rows = λ t v ht hv.
          let first = first_row s v hv in
          let grown = row_since_most net last (row_of net total) (reading_of total) grows v 0 t hv (omega arith) ht in
          let same : t - 0 ≡ t = omega arith in
          let up : row_of net total t v ≤ row_of net total 0 v + top_of net.rate * t = rw same at grown in
          let bound = grown_small (clocks v) (top_of net.rate) t (small.clocks v hv) top (omega (arith, ht, few)) in
          omega (arith, first, up, bound);
      readings = λ t v ht hv.
          let first = first_reading s v hv in
          let grown =
          reading_since_most net last (row_of net total) (reading_of total) grows v 0 t hv (omega arith) ht in
          let same : t - 0 ≡ t = omega arith in
          let up : reading_of total t v ≤ reading_of total 0 v + net.rate.hi * t = rw same at grown in
          let high = net.rate.accepted.high in
          let bound = grown_small (hw v) net.rate.hi t (small.readings v hv) (omega (arith, high)) (omega (arith, ht, few)) in
          omega (arith, first, up, bound);
    }

-- ---- so no node refuses an event of the world

-- the reading, the clock and the maximum of a node
pub record IsShort (net : Net) (m : Member) : Type 0 where
  pub reading : m.reading < 2 ^ 62
  pub clock : clock_of net.rate m.node m.reading < 2 ^ 62
  pub maximum : maximum_of net.rate m.node m.reading < 2 ^ 62

pub member_is_short : {net : Net} {total : List World} {last : ℕ} → AreFar net total last
    → (t v : ℕ) (m : Member) (d : Decision) → t ≤ last → v < net.nodes → IsDated net total t v m d → IsShort net m
member_is_short {net} {total} {last} far t v m d ht hv k =
    let c = k.current in
    let reading = c.reading in
    let clock = c.clock in
    let r = far.readings t v ht hv in
    let l = far.rows t v ht hv in
    let top = maximum_reached net total last far.grows t v m ht hv c k.base in
    let x = far.rows t top.0 ht top.1 in
    let reached = top.2 in
    record {
      reading = omega (arith, reading, r);
      clock = omega (arith, clock, l);
      maximum = omega (arith, reached, x);
    }

not_past : (net : Net) (v : ℕ) (m : Member) → IsShort net m → is_past (params_of net v) m.node m.reading ≡ false
not_past net v m s = rw (lt-leb (2 ^ 62) _ s.reading, lt-leb (2 ^ 62) _ s.clock, lt-leb (2 ^ 62) _ s.maximum) refl

pub tick_has_no_fault : (net : Net) (v : ℕ) (m : Member) → IsShort net m → m.node.last ≤ m.reading
    → m.node.seq < 2 ^ 64 - 1 → tick_fault (params_of net v) m.node m.reading ≡ None
tick_has_no_fault net v m s last low =
    let room : (m.node.seq == 2 ^ 64 - 1) ≡ false =
    ne_eqb m.node.seq (2 ^ 64 - 1) (λ same. absurd (omega (arith, same, low))) in
    let none = and_right (is_due (params_of net v) m.node) false refl in
    rw (le-ltb m.reading m.node.last last, not_past net v m s, room, none) refl

-- how much a beacon is raised on its way
way_small : (net : Net) (v x : ℕ) → AreNumbers net → Adjacent net v x → comp_of net v x ≤ 2 ^ 46
way_small net v x numbers next =
    let near = numbers.near v x next in
    let order = numbers.delays v x next in
    let above = net.rate.accepted.above in
    let high = net.rate.accepted.high in
    let low : net.rate.lo ≤ 2 ^ 30 = omega (arith, above, high) in
    let sum : net.rate.lo * net.delay_min v x + net.rate.lo * (net.delay_max v x - net.delay_min v x)
    ≡ net.rate.lo * net.delay_max v x =
    parts net.rate.lo (net.delay_min v x) (net.delay_max v x) order in
    let a : net.rate.lo * net.delay_max v x ≤ 2 ^ 30 * net.delay_max v x = mul-le-mul_right (net.delay_max v x) low in
    let b : 2 ^ 30 * net.delay_max v x ≤ 2 ^ 30 * 2 ^ 16 = mul-le-mul_left (2 ^ 30) near in
    omega (arith, sum, a, b)
  where
    parts : (lo a b : ℕ) → a ≤ b → lo * a + lo * (b - a) ≡ lo * b
    parts lo a b le =
        let e : a + (b - a) ≡ b = omega (arith, le) in
        let p : lo * (a + (b - a)) ≡ lo * a + lo * (b - a) = grind arith in
        sym p ∙ ap (λ (n : ℕ). lo * n) e

-- a beacon that was sent, at the neighbour at place i
beacon_has_no_fault : {net : Net} {total : List World} {last : ℕ} → AreNumbers net → AreFar net total last
    → (t v i : ℕ) (m : Member) (s : Sent) → t ≤ last → IsShort net m → m.node.last ≤ m.reading
    → i < length (neighbours net v) → place_of net v (neighbour net v i) ≡ Some i
    → IsSent net total t (neighbour net v i) s → deliver_fault (params_of net v) m.node s.beacon m.reading ≡ None
beacon_has_no_fault {net} {total} {last} numbers far t v i m s ht short last_le hi place sent =
    let x : ℕ = neighbour net v i in
    let found : link_place (params_of net v) s.beacon.sender ≡ Some i =
    link_place_is net v s.beacon.sender ∙ ap (λ (y : ℕ). place_of net v y) sent.sender ∙ place in
    let comp = way_small net v x numbers (neighbour_is_next net v i hi) in
    let before : s.quantum ≤ last = let b = sent.before in omega (arith, b, ht) in
    let row = far.rows s.quantum x before (neighbour_is_node net v i hi) in
    let top = far.rows s.quantum sent.reached.0 before sent.reached.1 in
    let l = sent.l in
    let reached = sent.reached.2 in
    let cluster = not_from_true _ (eq-eqb s.beacon.cluster net.cluster sent.cluster) in
    let value : is_end (s.beacon.l + comp_of net v x) ≡ false = lt-leb (2 ^ 62) _ (omega (arith, l, row, comp)) in
    let maximum : is_end (s.beacon.m + jump_of net v x) ≡ false =
    lt-leb (2 ^ 62) _ (omega (arith, reached, top, comp)) in
    let later = le-ltb m.reading m.node.last last_le in
    rw (cluster, found, later, not_past net v m short, link_at_is net v i hi, value, maximum) refl

pub delivery_has_no_fault : {net : Net} {total : List World} {last : ℕ} → AreNumbers net → AreFar net total last
    → (x : Watched) → x.world.quanta ≤ last → Holds net (Dated net total) x
    → (from to seq i : ℕ) (s : Sent) → Arrives net x.world from to seq i s
    → deliver_fault (params_of net to) (member x.world to).node s.beacon (member x.world to).reading ≡ None
delivery_has_no_fault {net} {total} numbers far x ht h from to seq i s a =
    let t : ℕ = x.world.quanta in
    let y : ℕ = neighbour net to i in
    let k = h.each to a.node in
    let short = member_is_short far t to (member x.world to) (decision x to) ht a.node k in
    let sent = All-contains (IsSent net total t y) (member x.world y).sent s (h.each y a.sender).sent a.sent in
    beacon_has_no_fault numbers far t to i (member x.world to) s ht short k.last a.inside a.place sent
