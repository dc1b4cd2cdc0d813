-- A tick keeps the dates.
use Rattle.std.proofs.Common.{◌≡◌, ℕ, ◌+◌, ◌<◌, ◌≤◌, inl, inr, arith, ap, ◌∙◌, refl, ℤ, pos, ◌-ℤ◌, List, [], ◌∷◌, ◌++◌, length, map, slice_index, slice_index_or, Bool, true, false, Some, None, All, if◌then◌else◌}
use Rattle.std.specs.List.{zip}
use Rattle.std.proofs.lemmas.Bool.{cases_lt}
use Rattle.std.proofs.lemmas.List.{get_or-map, length-map, length_push, get_or_push, get_or_append_left}
use Rattle.std.proofs.lemmas.List.Elements.{All-push}
use Rattle.std.proofs.lemmas.Slice.Zip.{get_or-zip, length-zip}
use Rattle.gs_units.specs.declared.params.Link.{Link}
use Rattle.gs_beacon.specs.declared.beacon.Beacon.{Beacon}
use Rattle.gs_estimate.specs.Entries.{entry_at, estimate_of, offset_of}
use Rattle.gs_estimate.specs.declared.slots.Entry.{Entry}
use Rattle.gs_trigger.specs.Triggers.{Sight}
use Rattle.gs_core.specs.Node.{decision_of, clock_of, maximum_of, beacon_of, is_due, Decision}
use Rattle.gs_run.specs.Net.{Net, params_of, link_of, neighbour, neighbours}
use Rattle.gs_run.specs.World.{World, Member, Sent, ticked_member, sends}
use Rattle.gs_run.proofs.History.{Estimates}
use Rattle.gs_run.proofs.Rows.{Grows}
use Rattle.gs_run.proofs.Current.{row_of, reading_of, IsCurrent, tick_current}
use Rattle.gs_run.proofs.Dates.{AreNumbered, IsEntry, IsSent, IsDecided, IsDated, maximum_reached}

-- ---- a tick

-- an entry as an estimate
pub entry_estimates : (net : Net) (total : List World) (t v i : ℕ) (m : Member) → IsCurrent net total t v m
    → (e : IsEntry net total t v i m)
    → Estimates net (row_of net total) (reading_of total) v (neighbour net v i) t (estimate_of (entry_at m.node.entries i) m.reading)
entry_estimates net total t v i m c e = record {
  sent = slice_index m.heard i;
  heard = e.heard;
  value = (entry_at m.node.entries i).value;
  before = e.before;
  until = e.until;
  recent = e.recent;
  from = e.from;
  is = let a = e.at in let r = c.reading in rw (a, r) refl;
}

-- the sight of a place
pub sight_at : (net : Net) (v i l now : ℕ) (entries : List Entry) (z : Sight) → i < length (neighbours net v)
    → length entries ≡ length (neighbours net v)
    → slice_index_or (zip (map (link_of net v) (neighbours net v)) (map (offset_of l now) entries)) i z
    ≡ (link_of net v (neighbour net v i), offset_of l now (slice_index_or entries i (record { seq = 0; value = 0; at = 0 })))
sight_at net v i l now entries z hi count =
    let links : List Link = map (link_of net v) (neighbours net v) in
    let offsets : List ℤ = map (offset_of l now) entries in
    let a : i < length links = rw (length-map (neighbours net v) (link_of net v)) hi in
    let b : i < length offsets = rw (length-map entries (offset_of l now), count) hi in
    let pair = get_or-zip links offsets i z a b in
    let link : slice_index_or links i z.0 ≡ link_of net v (neighbour net v i) =
    get_or-map (link_of net v) (neighbours net v) i 0 z.0 hi in
    let offset : slice_index_or offsets i z.1 ≡ offset_of l now (slice_index_or entries i (record { seq = 0; value = 0; at = 0 })) =
    get_or-map (offset_of l now) entries i (record { seq = 0; value = 0; at = 0 }) z.1 (rw count hi) in
    rw (pair, link, offset) refl

pub sight_count : (net : Net) (v l now : ℕ) (entries : List Entry) → length entries ≡ length (neighbours net v)
    → length (zip (map (link_of net v) (neighbours net v)) (map (offset_of l now) entries)) ≡ length (neighbours net v)
sight_count net v l now entries count =
    let links : List Link = map (link_of net v) (neighbours net v) in
    let offsets : List ℤ = map (offset_of l now) entries in
    let a : length links ≡ length (neighbours net v) = length-map (neighbours net v) (link_of net v) in
    let b : length offsets ≡ length (neighbours net v) = length-map entries (offset_of l now) ∙ count in
    let c = length-zip links offsets in
    omega (arith, a, b, c)

-- what a tick decides by
tick_decided : (net : Net) (total : List World) (last t v : ℕ) (m : Member) (d : Decision)
    → Grows net last (row_of net total) (reading_of total) → t ≤ last → v < net.nodes
    → IsDated net total t v m d
    → IsDecided net total t v (ticked_member (params_of net v) t m) (decision_of (params_of net v) m.node m.reading)
tick_decided net total last t v m d grows ht hv h =
    let c = h.current in
    let clock = c.clock in
    let maximum = c.maximum in
    record {
      before = omega arith;
      l = clock;
      at = c.reading;
      mode = refl;
      count = sight_count net v (clock_of net.rate m.node m.reading) m.reading m.node.entries h.entries;
      sees = λ i z hi. record {
        estimate = estimate_of (entry_at m.node.entries i) m.reading;
        is =
            let x : ℕ = neighbour net v i in
            let estimate : ℕ = estimate_of (entry_at m.node.entries i) m.reading in
            sight_at net v i (clock_of net.rate m.node m.reading) m.reading m.node.entries z hi h.entries
            ∙ ap (λ (l : ℕ). (link_of net v x, pos estimate -ℤ pos l)) clock;
        told = entry_estimates net total t v i m c (h.entry i hi);
      };
      told = maximum;
      own = omega (arith, clock);
      reached = maximum_reached net total last grows t v m ht hv c h.base;
    }

-- the beacon of a tick, where there is one
sends_keep : (P : Sent → Type 0) (sent : List Sent) (t : ℕ) (due : Bool) (b : Beacon) → All P sent
    → P (record { quantum = t; beacon = b }) → All P (sends sent t (if due then Some b else None))
sends_keep P sent t true b all new = All-push P sent (record { quantum = t; beacon = b }) all new
sends_keep P sent t false b all new = all

-- the beacon that a tick gives where one is due
abbrev next_beacon : Net → ℕ → Member → Beacon
next_beacon net v m = record {
  cluster = net.cluster;
  sender = v;
  seq = m.node.seq + 1;
  l = clock_of net.rate m.node m.reading;
  m = maximum_of net.rate m.node m.reading;
}

tick_sent : (net : Net) (total : List World) (last t v : ℕ) (m : Member) (d : Decision)
    → Grows net last (row_of net total) (reading_of total) → t ≤ last → v < net.nodes
    → IsDated net total t v m d
    → All (IsSent net total t v) (sends m.sent t (beacon_of (params_of net v) m.node m.reading))
tick_sent net total last t v m d grows ht hv h =
    sends_keep (IsSent net total t v) m.sent t (is_due (params_of net v) m.node) (next_beacon net v m) h.sent
    (record {
      cluster = refl;
      sender = refl;
      before = omega arith;
      l = h.current.clock;
      most = h.current.maximum;
      reached = maximum_reached net total last grows t v m ht hv h.current h.base;
    })

tick_numbered : (due : Bool) (seq t : ℕ) (b : Beacon) (sent : List Sent) → b.seq ≡ seq + 1 → AreNumbered seq sent
    → AreNumbered (if due then seq + 1 else seq) (sends sent t (if due then Some b else None))
tick_numbered false seq t b sent is n = n
tick_numbered true seq t b sent is n =
    let new : Sent = record { quantum = t; beacon = b } in
    let long : length (sent ++ new ∷ []) ≡ length sent + 1 = length_push sent new in
    record {
      count = let c = n.count in omega (arith, c, long);
      each = λ k d hk. elim (cases_lt k (length sent)) [
        | inr last ↦
            let at : length sent ≡ k = omega (arith, last, hk, long) in
            let found : slice_index_or (sent ++ new ∷ []) k d ≡ new = get_or_push sent new d k at in
            let c = n.count in
            rw found (omega (arith, is, c, at))
        | inl before ↦ rw (get_or_append_left sent (new ∷ []) d k before) (n.each k d before)
      ];
    }

pub tick_dated : (net : Net) (total : List World) (last t v : ℕ) (m : Member) (d : Decision)
    → Grows net last (row_of net total) (reading_of total) → t ≤ last → v < net.nodes
    → IsDated net total t v m d
    → IsDated net total t v (ticked_member (params_of net v) t m) (decision_of (params_of net v) m.node m.reading)
tick_dated net total last t v m d grows ht hv h = record {
  current = tick_current net total t v m h.current;
  last = omega arith;
  decided = tick_decided net total last t v m d grows ht hv h;
  entries = h.entries;
  heard = h.heard;
  entry = λ i hi.
      let e = h.entry i hi in
      record { heard = e.heard; before = e.before; until = e.until; recent = e.recent; from = e.from; at = e.at };
  base = h.base;
  since = h.since;
  hears = h.hears;
  sent = tick_sent net total last t v m d grows ht hv h;
  numbered =
      tick_numbered (is_due (params_of net v) m.node) m.node.seq t (next_beacon net v m) m.sent refl h.numbered;
}
