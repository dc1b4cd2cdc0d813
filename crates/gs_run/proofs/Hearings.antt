-- A beacon that comes keeps the dates.
use Rattle.std.proofs.Common.{◌≡◌, ◌≢◌, ℕ, ◌+◌, ◌-◌, ◌*◌, ◌<◌, ◌≤◌, inl, inr, arith, ap, sym, ◌∙◌, List, length, slice_index, slice_index_or, slice_set, true, Some, Contains, subst, get_or-set_same, get_or-set_other}
use Rattle.std.proofs.Math.Nat.{mul-le-mul_left, mul-le-mul_right, mul-add}
use Rattle.std.proofs.Math.ListN.{length-set}
use Rattle.std.proofs.lemmas.Bool.{cases_eq}
use Rattle.std.proofs.lemmas.List.Elements.{All-contains}
use Rattle.gs_units.specs.Rates.{g_of}
use Rattle.gs_units.specs.declared.params.Link.{Link}
use Rattle.gs_estimate.specs.Entries.{entry_at}
use Rattle.gs_estimate.specs.declared.slots.Entry.{Entry}
use Rattle.gs_maximum.specs.Maximum.{heard_of, raised_to}
use Rattle.gs_maximum.specs.declared.maximum.Max.{Max}
use Rattle.gs_maximum.proofs.Creeping.{g-below}
use Rattle.gs_maximum.proofs.Raising.{hearing_raises}
use Rattle.gs_core.specs.Node.{Decision}
use Rattle.gs_run.specs.Net.{Net, params_of, link_of, neighbour, neighbours, place_of, comp_of, jump_of, spread_of}
use Rattle.gs_run.specs.World.{World, Member, Sent, is_newer, heard_member}
use Rattle.gs_run.specs.Accepted.{AreNumbers}
use Rattle.gs_run.proofs.Places.{neighbour_is_next}
use Rattle.gs_run.proofs.Rows.{Grows, reached_later}
use Rattle.gs_run.proofs.Keeping.{IsInTime}
use Rattle.gs_run.proofs.Current.{row_of, reading_of, most_of, IsCurrent, fresh_member, old_member, hear_cases, raise_cases, fresh_current, heard_over}
use Rattle.gs_run.proofs.Dates.{IsEntry, IsSent, IsBase, IsToldOf, IsDated}

-- ---- a beacon

-- the entry of the place over which a fresh beacon came
new_entry : (net : Net) (total : List World) (t v i : ℕ) (m : Member) (s : Sent) → AreNumbers net
    → i < length (neighbours net v) → length m.node.entries ≡ length (neighbours net v)
    → length m.heard ≡ length (neighbours net v)
    → IsCurrent net total t v m → IsSent net total t (neighbour net v i) s → IsInTime net t v (neighbour net v i) s
    → IsEntry net total t v i (fresh_member net.rate (link_of net v (neighbour net v i)) i s m)
new_entry net total t v i m s numbers hi entries places c sent in_time =
    let x : ℕ = neighbour net v i in
    let new : Entry = record { seq = s.beacon.seq; value = s.beacon.l + comp_of net v x; at = m.reading } in
    let quantum : slice_index (slice_set m.heard i s.quantum) i ≡ s.quantum =
    get_or-set_same m.heard i s.quantum 0 (rw places hi) in
    let entry : slice_index_or (slice_set m.node.entries i new) i (record { seq = 0; value = 0; at = 0 }) ≡ new =
    get_or-set_same m.node.entries i new (record { seq = 0; value = 0; at = 0 }) (rw entries hi) in
    let age = numbers.in_age v x (neighbour_is_next net v i hi) in
    let early = in_time.early in
    let late = in_time.late in
    record {
      heard = t;
      before = rw quantum (sent.before);
      until = omega arith;
      recent = rw quantum (omega (arith, late, age));
      from = rw (entry, quantum) (inl (ap (λ (n : ℕ). n + comp_of net v x) sent.l, early, late));
      at = rw entry c.reading;
    }

-- the entries of the other places
other_entry : (net : Net) (total : List World) (t v i j : ℕ) (m : Member) (s : Sent) → j ≢ i
    → IsEntry net total t v j m
    → IsEntry net total t v j (fresh_member net.rate (link_of net v (neighbour net v i)) i s m)
other_entry net total t v i j m s other e =
    let x : ℕ = neighbour net v i in
    let new : Entry = record { seq = s.beacon.seq; value = s.beacon.l + comp_of net v x; at = m.reading } in
    let quantum : slice_index (slice_set m.heard i s.quantum) j ≡ slice_index m.heard j =
    get_or-set_other m.heard i j s.quantum 0 other in
    let entry : slice_index_or (slice_set m.node.entries i new) j (record { seq = 0; value = 0; at = 0 })
    ≡ entry_at m.node.entries j =
    get_or-set_other m.node.entries i j new (record { seq = 0; value = 0; at = 0 }) other in
    record {
      heard = e.heard;
      before = rw quantum e.before;
      until = e.until;
      recent = rw quantum e.recent;
      from = rw (entry, quantum) e.from;
      at = rw entry e.at;
    }

-- the maximum base after it
new_base : (net : Net) (total : List World) (last t v i : ℕ) (m : Member) (s : Sent)
    → Grows net last (row_of net total) (reading_of total) → t ≤ last
    → IsCurrent net total t v m → IsBase net total t v m.node.max → IsSent net total t (neighbour net v i) s
    → IsInTime net t v (neighbour net v i) s
    → IsBase net total t v (raised_to net.rate m.node.max (s.beacon.m + jump_of net v (neighbour net v i)) m.reading)
new_base net total last t v i m s grows ht c b sent in_time =
    let x : ℕ = neighbour net v i in
    let later =
    reached_later net last (row_of net total) (reading_of total) grows s.quantum t s.beacon.m sent.before ht
    sent.reached in
    let early = in_time.early in
    let travelled : net.rate.lo * net.delay_min v x ≤ net.rate.lo * (t - s.quantum) =
    mul-le-mul_left net.rate.lo (omega (arith, early)) in
    raise_cases net.rate m.node.max (s.beacon.m + jump_of net v x) m.reading (λ new. IsBase net total t v new)
    (λ more.
    let reached = later.2 in
    record {
      set = t;
      before = omega arith;
      at = c.reading;
      reached = (later.0, later.1, omega (arith, reached, travelled));
    })
    (λ less. b)

-- what the beacon tells of its sender's maximum
tells : (net : Net) (total : List World) (t v x : ℕ) (s : Sent) → net.delay_min v x ≤ net.delay_max v x
    → IsSent net total t x s → IsInTime net t v x s
    → most_of net total s.quantum x + g_of net.rate * (t - s.quantum) ≤ s.beacon.m + jump_of net v x + spread_of net v x
tells net total t v x s order sent in_time =
    let most = sent.most in
    let late = in_time.late in
    let less : g_of net.rate * (t - s.quantum) ≤ net.rate.lo * (t - s.quantum) =
    mul-le-mul_right (t - s.quantum) (g-below net.rate) in
    let way : net.rate.lo * (t - s.quantum) ≤ net.rate.lo * (net.delay_min v x + (net.delay_max v x - net.delay_min v x)) =
    mul-le-mul_left net.rate.lo (omega (arith, late, order)) in
    let parts : net.rate.lo * (net.delay_min v x + (net.delay_max v x - net.delay_min v x))
    ≡ net.rate.lo * net.delay_min v x + net.rate.lo * (net.delay_max v x - net.delay_min v x) =
    mul-add net.rate.lo (net.delay_min v x) (net.delay_max v x - net.delay_min v x) in
    omega (arith, most, less, way, parts)

-- a fresh beacon
fresh_dated : (net : Net) (total : List World) (last t v i : ℕ) (m : Member) (d : Decision) (s : Sent)
    → AreNumbers net → Grows net last (row_of net total) (reading_of total) → t ≤ last → v < net.nodes
    → i < length (neighbours net v)
    → IsDated net total t v m d → IsSent net total t (neighbour net v i) s → IsInTime net t v (neighbour net v i) s
    → IsCurrent net total t v (fresh_member net.rate (link_of net v (neighbour net v i)) i s m)
    → IsDated net total t v (fresh_member net.rate (link_of net v (neighbour net v i)) i s m) d
fresh_dated net total last t v i m d s numbers grows ht hv hi k sent in_time current =
    let x : ℕ = neighbour net v i in
    let new : Entry = record { seq = s.beacon.seq; value = s.beacon.l + comp_of net v x; at = m.reading } in
    let raised = hearing_raises net.rate m.node.max (s.beacon.m + jump_of net v x) m.reading in
    let kept = raised.kept in
    let value = raised.reached in
    record {
      current = current;
      last = omega arith;
      decided =
          let e = k.decided in
          record {
            before = e.before;
            l = e.l;
            at = e.at;
            mode = e.mode;
            count = e.count;
            sees = e.sees;
            told = e.told;
            own = e.own;
            reached = e.reached;
          };
      entries = length-set m.node.entries i new ∙ k.entries;
      heard = length-set m.heard i s.quantum ∙ k.heard;
      entry = λ j hj. elim (cases_eq j i) [
        | inl same ↦
            let P : ℕ → Type 0 = λ y. IsEntry net total t v y (fresh_member net.rate (link_of net v x) i s m) in
            subst P (sym same) (new_entry net total t v i m s numbers hi k.entries k.heard k.current sent in_time)
        | inr other ↦ other_entry net total t v i j m s other (k.entry j hj)
      ];
      base = new_base net total last t v i m s grows ht k.current k.base sent in_time;
      since = let old = k.since in omega (arith, old, kept);
      hears = λ j hj. elim (cases_eq j i) [
        | inl same ↦
            let max : Max = raised_to net.rate m.node.max (s.beacon.m + jump_of net v x) m.reading in
            let places : List ℕ = slice_set m.heard i s.quantum in
            let P : ℕ → Type 0 =
            λ y. IsToldOf net total t v (neighbour net v y) (slice_index places y) (heard_of net.rate max m.reading) in
            let quantum : slice_index (slice_set m.heard i s.quantum) i ≡ s.quantum =
            get_or-set_same m.heard i s.quantum 0 (rw k.heard hi) in
            let told = tells net total t v x s (numbers.delays v x (neighbour_is_next net v i hi)) sent in_time in
            let here : P i = rw quantum (inl (omega (arith, told, value))) in
            subst P (sym same) here
        | inr other ↦
            let quantum : slice_index (slice_set m.heard i s.quantum) j ≡ slice_index m.heard j =
            get_or-set_other m.heard i j s.quantum 0 other in
            rw quantum (elim (k.hears j hj) [
              | inl old ↦ inl (omega (arith, old, kept))
              | inr start ↦ inr start
            ])
      ];
      sent = k.sent;
      numbered = k.numbered;
    }

-- an old beacon
old_dated : (net : Net) (total : List World) (t v : ℕ) (m : Member) (d : Decision) → IsDated net total t v m d
    → IsDated net total t v (old_member m) d
old_dated net total t v m d k = record {
  current =
      let c = k.current in
      record { reading = c.reading; clock = c.clock; maximum = c.maximum; at = c.at; base_at = c.base_at };
  last = omega arith;
  decided =
      let e = k.decided in
      record {
        before = e.before;
        l = e.l;
        at = e.at;
        mode = e.mode;
        count = e.count;
        sees = e.sees;
        told = e.told;
        own = e.own;
        reached = e.reached;
      };
  entries = k.entries;
  heard = k.heard;
  entry = λ i hi.
      let e = k.entry i hi in
      record { heard = e.heard; before = e.before; until = e.until; recent = e.recent; from = e.from; at = e.at };
  base = k.base;
  since = k.since;
  hears = k.hears;
  sent = k.sent;
  numbered = k.numbered;
}

pub hear_dated : (net : Net) (total : List World) (last t v i : ℕ) (m n : Member) (d e : Decision) (s : Sent)
    → AreNumbers net → Grows net last (row_of net total) (reading_of total) → t ≤ last → v < net.nodes
    → i < length (neighbours net v)
    → place_of net v (neighbour net v i) ≡ Some i → IsDated net total t v m d
    → IsDated net total t (neighbour net v i) n e → Contains n.sent s
    → (is_newer m i s ≡ true → IsInTime net t v (neighbour net v i) s)
    → IsDated net total t v (heard_member (params_of net v) i s m) d
hear_dated net total last t v i m n d e s numbers grows ht hv hi place k sender found in_time =
    let x : ℕ = neighbour net v i in
    let sent : IsSent net total t x s = All-contains (IsSent net total t x) n.sent s sender.sent found in
    let link : Link = link_of net v x in
    let fresh_case : is_newer m i s ≡ true → IsDated net total t v (fresh_member net.rate link i s m) d = λ fresh.
    fresh_dated net total last t v i m d s numbers grows ht hv hi k sent (in_time fresh)
    (fresh_current net total t v i link s.beacon m (slice_set m.heard i s.quantum) k.current) in
    rw (heard_over net v i s m hi place sent.sender)
    (hear_cases net.rate link i s m (λ z. IsDated net total t v z d) fresh_case (old_dated net total t v m d k))
