-- The start of a run: everything dates from it, and its modes are those of a decision.
use Rattle.std.proofs.Common.{◌≡◌, ℕ, ◌+◌, ◌-◌, ◌*◌, ◌<◌, inr, arith, ap, sym, ◌∙◌, refl, pos, ◌-ℤ◌, ◌≤ℤ◌, List, length, map, slice_index, slice_index_or, All}
use Rattle.std.specs.List.{zip}
use Rattle.std.proofs.lemmas.Int.{ints}
use Rattle.std.proofs.lemmas.List.{get_or-map, length-map}
use Rattle.std.proofs.lemmas.List.Elements.{All-nil}
use Rattle.std.proofs.lemmas.List.FromFn.{get_or-map-range_with_len}
use Rattle.gs_units.specs.Rates.{steer_of, creep_of, g_of}
use Rattle.gs_units.specs.declared.params.Link.{Link}
use Rattle.gs_units.specs.declared.rate.Mode.TheVariants.{Slow}
use Rattle.gs_units.specs.declared.rate.Rate.{Rate}
use Rattle.gs_estimate.specs.Entries.{entry_at, estimate_of, offset_of}
use Rattle.gs_trigger.specs.Triggers.{Sight}
use Rattle.gs_trigger.proofs.Apart.{not_fast_in_front}
use Rattle.gs_steer.specs.Modes.{mode_of}
use Rattle.gs_steer.proofs.Deciding.{slow_near_maximum}
use Rattle.gs_core.specs.Node.{Decision, decision_of, clock_of, maximum_of}
use Rattle.gs_run.specs.Net.{Net, params_of, link_of, neighbour, neighbours, iota_of}
use Rattle.gs_run.specs.World.{World, Member, member, nobody, member_at_start, world_from}
use Rattle.gs_run.specs.Accepted.{AreNumbers}
use Rattle.gs_run.proofs.Places.{neighbour_is_next}
use Rattle.gs_run.proofs.Keeping.{world_at}
use Rattle.gs_run.proofs.Current.{row_of, reading_of, most_of, IsCurrent, creep_zero, steer_zero}
use Rattle.gs_run.proofs.Dates.{IsEntry, IsSent, IsDated}
use Rattle.gs_run.proofs.Ticks.{entry_estimates, sight_at, sight_count}

-- ---- what the first row is

pub start_member : (net : Net) (hw clocks : ℕ → ℕ) (v : ℕ) → v < net.nodes
    → member (world_from net hw clocks) v ≡ member_at_start net v (hw v) (clocks v)
start_member net hw clocks v hv =
    get_or-map-range_with_len (λ u. member_at_start net u (hw u) (clocks u)) 0 net.nodes v v nobody hv (omega arith)

-- what each node begins with
abbrev pub first_member : Net → (ℕ → ℕ) → (ℕ → ℕ) → ℕ → Member
first_member net hw clocks v = member_at_start net v (hw v) (clocks v)

abbrev pub first_decision : Net → (ℕ → ℕ) → (ℕ → ℕ) → ℕ → Decision
first_decision net hw clocks v = decision_of (params_of net v) (first_member net hw clocks v).node (hw v)

-- the first row of a run from these readings and clocks
pub record StartsAt (net : Net) (total : List World) (hw clocks : ℕ → ℕ) : Type 0 where
  pub first : (v : ℕ) → v < net.nodes → member (world_at total 0) v ≡ member_at_start net v (hw v) (clocks v)

start_clock : (rate : Rate) (hw l0 : ℕ) → l0 + steer_of rate Slow (hw - hw) ≡ l0
start_clock rate hw l0 = let z = steer_zero rate Slow hw in omega (arith, z)

start_heard : (rate : Rate) (hw l0 : ℕ) → l0 + creep_of rate (hw - hw) ≡ l0
start_heard rate hw l0 = let z = creep_zero rate hw in omega (arith, z)

pub first_row : {net : Net} {total : List World} {hw clocks : ℕ → ℕ} → StartsAt net total hw clocks
    → (v : ℕ) → v < net.nodes → row_of net total 0 v ≡ clocks v
first_row {net} {total} {hw} {clocks} s v hv =
    ap (λ (m : Member). clock_of net.rate m.node m.reading) (s.first v hv)
    ∙ start_clock net.rate (hw v) (clocks v)

pub first_reading : {net : Net} {total : List World} {hw clocks : ℕ → ℕ} → StartsAt net total hw clocks
    → (v : ℕ) → v < net.nodes → reading_of total 0 v ≡ hw v
first_reading {net} {total} {hw} {clocks} s v hv = ap (λ (m : Member). m.reading) (s.first v hv)

pub first_most : {net : Net} {total : List World} {hw clocks : ℕ → ℕ} → StartsAt net total hw clocks
    → (v : ℕ) → v < net.nodes → most_of net total 0 v ≡ clocks v
first_most {net} {total} {hw} {clocks} s v hv =
    let e : most_of net total 0 v ≡ maximum_of net.rate (member_at_start net v (hw v) (clocks v)).node (hw v) =
    ap (λ (m : Member). maximum_of net.rate m.node m.reading) (s.first v hv) in
    let a = start_clock net.rate (hw v) (clocks v) in
    let b = start_heard net.rate (hw v) (clocks v) in
    e ∙ (omega (arith, a, b))

-- ---- the start as a decision

-- the entry that every place has at the start
start_entry_at : (net : Net) (v hw l0 i : ℕ) → i < length (neighbours net v)
    → entry_at (member_at_start net v hw l0).node.entries i ≡ record { seq = 0; value = l0; at = hw }
start_entry_at net v hw l0 i hi =
    get_or-map (λ (k : Link). record { seq = 0; value = l0; at = hw }) (map (link_of net v) (neighbours net v)) i
    (link_of net v 0) (record { seq = 0; value = 0; at = 0 })
    (rw (length-map (neighbours net v) (link_of net v)) hi)

start_heard_at : (net : Net) (v hw l0 i : ℕ) → i < length (neighbours net v)
    → slice_index (member_at_start net v hw l0).heard i ≡ 0
start_heard_at net v hw l0 i hi = get_or-map (λ (x : ℕ). 0) (neighbours net v) i 0 0 hi

start_entries : (net : Net) (v hw l0 : ℕ)
    → length (member_at_start net v hw l0).node.entries ≡ length (neighbours net v)
start_entries net v hw l0 =
    length-map (map (link_of net v) (neighbours net v)) (λ (k : Link). record { seq = 0; value = l0; at = hw })
    ∙ length-map (neighbours net v) (link_of net v)

-- what a decision by the clock l would see
abbrev start_sights : Net → ℕ → ℕ → ℕ → ℕ → List Sight
start_sights net v hw l0 l =
    zip (map (link_of net v) (neighbours net v)) (map (offset_of l hw) (member_at_start net v hw l0).node.entries)

-- every node sees the others at its own clock l, with the margin of its links
start_sight : (net : Net) (v hw l0 l i : ℕ) (z : Sight) → AreNumbers net → l ≡ l0 → i < length (neighbours net v)
    → (P : Sight → Type 0) → ((link : Link) → 2 * link.delta < link.kappa → P (link, pos l0 -ℤ pos l0))
    → P (slice_index_or (start_sights net v hw l0 l) i z)
start_sight net v hw l0 l i z numbers same hi P each =
    let entries = (member_at_start net v hw l0).node.entries in
    let entry = start_entry_at net v hw l0 i hi in
    let estimate : estimate_of (entry_at entries i) hw ≡ l0 = rw entry (omega arith) in
    let sight = sight_at net v i l hw entries z hi (start_entries net v hw l0) in
    let x : ℕ = neighbour net v i in
    rw (sight, estimate, same) (each (link_of net v x) (numbers.margin v x (neighbour_is_next net v i hi)))

-- so no fast trigger holds, and its mode is the one that a decision would take
start_mode : (net : Net) (v hw l0 : ℕ) → AreNumbers net → (l m : ℕ) → l ≡ l0 → m ≡ l0
    → mode_of (iota_of net) (start_sights net v hw l0 l) m l0 ≡ Slow
start_mode net v hw l0 numbers l m same top =
    let sights : List Sight = start_sights net v hw l0 l in
    let count : length sights ≡ length (neighbours net v) =
    sight_count net v l hw (member_at_start net v hw l0).node.entries (start_entries net v hw l0) in
    let wide : All (λ x. 2 * x.0.delta < x.0.kappa) sights = λ i z hi.
    start_sight net v hw l0 l i z numbers same (rw count at hi) (λ x. 2 * x.0.delta < x.0.kappa)
    (λ link margin. margin) in
    let near : All (λ x. x.1 ≤ℤ pos x.0.delta) sights = λ i z hi.
    start_sight net v hw l0 l i z numbers same (rw count at hi) (λ x. x.1 ≤ℤ pos x.0.delta)
    (λ link margin. omega (arith, ints)) in
    slow_near_maximum (iota_of net) m l0 sights (λ s one. not_fast_in_front sights s wide one near) (omega (arith, top))

start_current : {net : Net} {total : List World} {hw clocks : ℕ → ℕ} → StartsAt net total hw clocks
    → (v : ℕ) → v < net.nodes → IsCurrent net total 0 v (member_at_start net v (hw v) (clocks v))
start_current {net} {total} {hw} {clocks} s v hv = record {
  reading = sym (first_reading s v hv);
  clock = start_clock net.rate (hw v) (clocks v) ∙ sym (first_row s v hv);
  maximum =
      let a = first_most s v hv in
      let b = start_clock net.rate (hw v) (clocks v) in
      omega (arith, a, b);
  at = omega arith;
  base_at = omega arith;
}

start_entry : {net : Net} {total : List World} {hw clocks : ℕ → ℕ} → StartsAt net total hw clocks
    → (v i : ℕ) → v < net.nodes → i < length (neighbours net v)
    → IsEntry net total 0 v i (member_at_start net v (hw v) (clocks v))
start_entry {net} {total} {hw} {clocks} s v i hv hi =
    let entry = start_entry_at net v (hw v) (clocks v) i hi in
    let quantum = start_heard_at net v (hw v) (clocks v) i hi in
    let row = first_row s v hv in
    let reading = first_reading s v hv in
    record {
      heard = 0;
      before = omega (arith, quantum);
      until = omega arith;
      recent = omega arith;
      from = inr (rw (entry, row) refl, quantum, refl);
      at = rw (entry, reading) refl;
    }

pub start_dated : {net : Net} {total : List World} {hw clocks : ℕ → ℕ} → AreNumbers net → StartsAt net total hw clocks
    → (v : ℕ) → v < net.nodes → IsDated net total 0 v (first_member net hw clocks v) (first_decision net hw clocks v)
start_dated {net} {total} {hw} {clocks} numbers s v hv =
    let c = start_current s v hv in
    let m : Member = member_at_start net v (hw v) (clocks v) in
    let row = first_row s v hv in
    let most = first_most s v hv in
    let clock = start_clock net.rate (hw v) (clocks v) in
    let heard = start_heard net.rate (hw v) (clocks v) in
    let maximum : maximum_of net.rate m.node (hw v) ≡ clocks v = omega (arith, clock, heard) in
    let l : ℕ = clock_of net.rate m.node (hw v) in
    record {
      current = c;
      last = omega arith;
      decided = record {
        before = omega arith;
        l = sym row;
        at = c.reading;
        mode = sym (start_mode net v (hw v) (clocks v) numbers l (maximum_of net.rate m.node (hw v)) clock maximum);
        count = sight_count net v l (hw v) m.node.entries (start_entries net v (hw v) (clocks v));
        sees = λ i z hi. record {
          estimate = estimate_of (entry_at m.node.entries i) (hw v);
          is = sight_at net v i l (hw v) m.node.entries z hi (start_entries net v (hw v) (clocks v))
              ∙ ap (λ (k : ℕ). (link_of net v (neighbour net v i), pos (estimate_of (entry_at m.node.entries i) (hw v)) -ℤ pos k))
              c.clock;
          told = entry_estimates net total 0 v i m c (start_entry s v i hv hi);
        };
        told = omega (arith, most, maximum);
        own = omega (arith, row, maximum);
        reached = (v, hv, omega (arith, row, maximum));
      };
      entries = start_entries net v (hw v) (clocks v);
      heard = length-map (neighbours net v) (λ (x : ℕ). 0);
      entry = λ i hi. start_entry s v i hv hi;
      base = record { set = 0; before = omega arith; at = c.reading; reached = (v, hv, omega (arith, row)) };
      since = let none : g_of net.rate * 0 ≡ 0 = omega arith in omega (arith, row, heard, none);
      hears = λ i hi. inr (start_heard_at net v (hw v) (clocks v) i hi);
      sent = All-nil (IsSent net total 0 v);
      numbered = record { count = refl; each = λ k z hk. absurd (omega arith) };
    }
