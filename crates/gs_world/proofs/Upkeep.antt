-- What is kept beside the members of a world stays right as events come.
use Rattle.std.proofs.Common.{◌≡◌, ℕ, zero, suc, ◌+◌, ◌-◌, ◌<◌, ◌≤◌, ◌∙◌, ◌∷◌, [], All, arith, ap, sym, subst, refl, cond, Bool, true, false, filter, length, List, map, None, Option, Some, is_some, nat_le, slice_index, slice_index_or, slice_set}
use Rattle.std.specs.List.{zip}
use Rattle.std.proofs.lemmas.List.{get_or-map, length-map}
use Rattle.std.proofs.lemmas.List.Elements.{All-set}
use Rattle.std.proofs.lemmas.Slice.Zip.{get_or-zip, length-zip}
use Rattle.gs_topo.proofs.Nearer.{position_nowhere}
use Rattle.gs_units.specs.declared.params.NodeParams.{NodeParams}
use Rattle.std.proofs.Math.Seq.{map-set_same}
use Rattle.gs_units.specs.Rates.{steer_of}
use Rattle.gs_units.specs.declared.rate.Mode.{Mode}
use Rattle.gs_units.specs.declared.rate.Mode.TheVariants.{Fast, Slow}
use Rattle.gs_units.specs.declared.rate.Rate.{Rate}
use Rattle.gs_estimate.specs.Entries.{entry_at, is_fresh}
use Rattle.gs_core.specs.Node.{Node, clock_of, delivered_at, freshened, link_at, link_place}
use Rattle.gs_run.proofs.Current.{steer_zero}
use Rattle.gs_world.specs.inside.Late.{stale_in, AreDeadlines, IsNoneDueBefore, IsNoneStaleBefore, due_in}
use Rattle.gs_world.specs.inside.Members.{fast_one}
use Rattle.gs_run.specs.Fast.{fast_in, is_fast}
use Rattle.gs_run.specs.Net.{Net, params_of}
use Rattle.gs_run.specs.Why.{at_node, is_due_at, is_stale, stale_of, stale_place}
use Rattle.gs_run.specs.World.{Member, Sent, World, advance_all, advanced, clocks_in, heard_member, is_newer, member, nobody, ticked_member, with_member}
use Rattle.gs_world.specs.declared.deadlines.Deadlines.{Deadlines}
use Rattle.gs_run.specs.declared.refused.Refused.TheVariants.{TickDue}

-- ---- nothing is late before a deadline

later : (quanta deadline sent age : ℕ) → quanta < deadline → deadline ≤ sent + age → nat_le (sent + age) quanta ≡ false
later quanta deadline sent age early far = grind (arith, early, far)

pub none_due : (net : Net) (w : World) (due : ℕ) → w.quanta < due → IsNoneDueBefore net w due → due_in net w ≡ None
none_due net w due early far =
    ap (at_node TickDue) (position_nowhere (is_due_at net w.quanta) w.members nobody (λ k h. later w.quanta due (member w k).ticked_at net.tick early (far k nobody h)))

no_stale_place : (net : Net) (quanta stale : ℕ) (m : Member) → quanta < stale → All (λ sent. stale ≤ sent + net.age) m.heard
    → is_some (stale_place net quanta m) ≡ false
no_stale_place net quanta stale m early far =
    let none : stale_place net quanta m ≡ None =
    position_nowhere (is_stale net quanta) m.heard 0 (λ i h. later quanta stale (slice_index m.heard i) net.age early (far i 0 h)) in
    rw none refl

pub none_stale_yet : (net : Net) (w : World) (stale : ℕ) → w.quanta < stale → IsNoneStaleBefore net w stale
    → stale_in net w ≡ None
none_stale_yet net w stale early far =
    ap (stale_of net w) (position_nowhere (λ m. is_some (stale_place net w.quanta m)) w.members nobody (λ k h. no_stale_place net w.quanta stale (member w k) early (far k nobody h)))

-- ---- deadlines

-- what a quantum keeps of each member is so of all after it
all_advanced : (P : Member → Type 0) → ((m : Member) (h : ℕ) → P m → P (advanced m h)) → (ms : List Member) (incs : List ℕ)
    → length incs ≡ length ms → All P ms → All P (map (λ p. advanced p.0 p.1) (zip ms incs))
all_advanced P keeps ms incs count each = λ k d h.
    let pairs : List (Member × ℕ) = zip ms incs in
    let long : length pairs ≡ length ms = let z = length-zip ms incs in omega (arith, z, count) in
    let m = length-map pairs (λ p. advanced p.0 p.1) in
    let inside : k < length ms = omega (arith, h, m, long) in
    let is =
    get_or-map (λ p. advanced p.0 p.1) pairs k (d, 0) d (omega (arith, long, inside))
    ∙ ap (λ (p : Member × ℕ). advanced p.0 p.1) (get_or-zip ms incs k (d, 0) inside (omega (arith, count, inside))) in
    subst P (sym is) (keeps (slice_index_or ms k d) (slice_index incs k) (each k d inside))

pub deadlines_advanced : (net : Net) (w : World) (incs : List ℕ) (d : Deadlines) → length incs ≡ length w.members
    → AreDeadlines net w d → AreDeadlines net (advance_all w incs) d
deadlines_advanced net w incs d count at = record {
  ticks = all_advanced (λ m. d.due ≤ m.ticked_at + net.tick) (λ m h is. is) w.members incs count at.ticks;
  heard = all_advanced (λ m. All (λ sent. d.stale ≤ sent + net.age) m.heard) (λ m h is. is) w.members incs count at.heard;
}

pub deadlines_ticked : (net : Net) (w : World) (v : ℕ) (p : NodeParams) (d e : Deadlines) → v < length w.members
    → AreDeadlines net w d → e.due ≤ d.due → e.due ≤ w.quanta + net.tick → e.stale ≡ d.stale
    → AreDeadlines net (with_member w v (ticked_member p w.quanta (member w v))) e
deadlines_ticked net w v p d e h at sooner by same = record {
  ticks =
      All-set (λ m. e.due ≤ m.ticked_at + net.tick) w.members v (ticked_member p w.quanta (member w v)) by
      (λ k x i. let far = at.ticks k x i in omega (arith, far, sooner));
  heard =
      let kept : All (λ m. All (λ sent. e.stale ≤ sent + net.age) m.heard) w.members =
      λ k x i j y l. let far = at.heard k x i j y l in omega (arith, far, same) in
      All-set (λ m. All (λ sent. e.stale ≤ sent + net.age) m.heard) w.members v
      (ticked_member p w.quanta (member w v)) (kept v nobody h) kept;
}

pub deadlines_heard : (net : Net) (w : World) (v i : ℕ) (p : NodeParams) (s : Sent) (d e : Deadlines)
    → v < length w.members → AreDeadlines net w d
    → e.stale ≤ d.stale → e.stale ≤ s.quantum + net.age → e.due ≡ d.due
    → AreDeadlines net (with_member w v (heard_member p i s (member w v))) e
deadlines_heard net w v i p s d e h at sooner by same = record {
  ticks =
      let kept : All (λ m. e.due ≤ m.ticked_at + net.tick) w.members =
      λ k x l. let far = at.ticks k x l in omega (arith, far, same) in
      All-set (λ m. e.due ≤ m.ticked_at + net.tick) w.members v (heard_member p i s (member w v)) (kept v nobody h)
      kept;
  heard =
      let kept : All (λ m. All (λ sent. e.stale ≤ sent + net.age) m.heard) w.members =
      λ k x j l y n. let far = at.heard k x j l y n in omega (arith, far, sooner) in
      All-set (λ m. All (λ sent. e.stale ≤ sent + net.age) m.heard) w.members v (heard_member p i s (member w v))
      (either (is_newer (member w v) i s) (member w v).heard (kept v nobody h)) kept;
} where
  either : (b : Bool) (xs : List ℕ) → All (λ sent. e.stale ≤ sent + net.age) xs
      → All (λ sent. e.stale ≤ sent + net.age) (cond b (slice_set xs i s.quantum) xs)
  either true xs all = All-set (λ sent. e.stale ≤ sent + net.age) xs i s.quantum by all
  either false xs all = all

-- ---- clocks

-- a tick and a beacon leave the clock as it is
pub clocks_ticked : (net : Net) (w : World) (v : ℕ)
    → clocks_in net (with_member w v (ticked_member (params_of net v) w.quanta (member w v))) ≡ clocks_in net w
clocks_ticked net w v =
    let m : Member = member w v in
    let after : Member = ticked_member (params_of net v) w.quanta m in
    let z = steer_zero net.rate after.node.mode m.reading in
    map-set_same (λ (x : Member). clock_of net.rate x.node x.reading) w.members v after nobody (omega (arith, z))

same_clock : (rate : Rate) (p : NodeParams) (i : ℕ) (s : Sent) (m : Member)
    → clock_of rate (heard_member p i s m).node m.reading ≡ clock_of rate m.node m.reading
same_clock rate p i s m = place (link_place p s.beacon.sender) where
  fresh : (j : ℕ) (b : Bool)
      → clock_of rate (cond b (freshened p.rate (link_at p j) m.node j s.beacon m.reading) (record m.node { last = m.reading })) m.reading
      ≡ clock_of rate m.node m.reading
  fresh j true = refl
  fresh j false = refl

  place : (o : Option ℕ)
      → clock_of rate (delivered_at p m.node s.beacon m.reading o) m.reading ≡ clock_of rate m.node m.reading
  place None = refl
  place (Some j) = fresh j (is_fresh (entry_at m.node.entries j) s.beacon.seq)

pub clocks_heard : (net : Net) (w : World) (v i : ℕ) (s : Sent)
    → clocks_in net (with_member w v (heard_member (params_of net v) i s (member w v))) ≡ clocks_in net w
clocks_heard net w v i s =
    map-set_same (λ (x : Member). clock_of net.rate x.node x.reading) w.members v (heard_member (params_of net v) i s (member w v)) nobody
    (same_clock net.rate (params_of net v) i s (member w v))

-- in the slow mode a clock grows as its reading
pub slow_grows : (rate : Rate) (n : Node) (now h : ℕ) → is_fast n.mode ≡ false → n.at ≤ now
    → clock_of rate n (now + h) ≡ clock_of rate n now + h
slow_grows rate n now h slow le = pick n.mode slow where
  pick : (mode : Mode) → is_fast mode ≡ false
      → n.l + steer_of rate mode ((now + h) - n.at) ≡ (n.l + steer_of rate mode (now - n.at)) + h
  pick Slow e = omega (arith, le)
  pick Fast e = absurd (cc)

-- ---- the count of fast nodes

abbrev fast_among : List Member → List Member
fast_among ms = filter (λ m. is_fast m.node.mode) ms

fast_map : (ms : List Member) (incs : List ℕ) → length incs ≡ length ms
    → length (fast_among (map (λ p. advanced p.0 p.1) (zip ms incs))) ≡ length (fast_among ms)
fast_map [] incs count = refl
fast_map (m ∷ ms) [] count = absurd (omega (arith, count))
fast_map (m ∷ ms) (h ∷ hs) count = pick (is_fast m.node.mode) (fast_map ms hs (omega (arith, count))) where
  pick : (b : Bool) → length (fast_among (map (λ p. advanced p.0 p.1) (zip ms hs))) ≡ length (fast_among ms)
      → length
      (cond b (advanced m h ∷ fast_among (map (λ p. advanced p.0 p.1) (zip ms hs))) (fast_among (map (λ p. advanced p.0 p.1) (zip ms hs))))
      ≡ length (cond b (m ∷ fast_among ms) (fast_among ms))
  pick true rest = omega (arith, rest)
  pick false rest = rest

pub fast_advanced : (w : World) (incs : List ℕ) → length incs ≡ length w.members
    → fast_in (advance_all w incs) ≡ fast_in w
fast_advanced w incs count = fast_map w.members incs count

fast_with : (ms : List Member) (v : ℕ) (m d : Member) → v < length ms
    → length (fast_among (slice_set ms v m)) + fast_one (is_fast (slice_index_or ms v d).node.mode)
    ≡ length (fast_among ms) + fast_one (is_fast m.node.mode)
fast_with [] v m d h = absurd (omega (arith, h))
fast_with (x ∷ xs) zero m d h = pick (is_fast x.node.mode) (is_fast m.node.mode) where
  pick : (b c : Bool) → length (cond c (m ∷ fast_among xs) (fast_among xs)) + fast_one b
      ≡ length (cond b (x ∷ fast_among xs) (fast_among xs)) + fast_one c
  pick true true = omega arith
  pick true false = omega arith
  pick false true = omega arith
  pick false false = omega arith
fast_with (x ∷ xs) (suc v) m d h =
    pick (is_fast x.node.mode) (fast_one (is_fast (slice_index_or xs v d).node.mode)) (fast_one (is_fast m.node.mode))
    (fast_with xs v m d (omega (arith, h))) where
      pick : (b : Bool) (was is : ℕ)
          → length (fast_among (slice_set xs v m)) + was ≡ length (fast_among xs) + is
          → length (cond b (x ∷ fast_among (slice_set xs v m)) (fast_among (slice_set xs v m))) + was
          ≡ length (cond b (x ∷ fast_among xs) (fast_among xs)) + is
      pick true was is rest = omega (arith, rest)
      pick false was is rest = rest

-- a member takes the place of another
pub fast_replaced : (w : World) (v : ℕ) (m : Member) → v < length w.members
    → fast_in (with_member w v m) + fast_one (is_fast (member w v).node.mode)
    ≡ fast_in w + fast_one (is_fast m.node.mode)
fast_replaced w v m h = fast_with w.members v m nobody h

-- a fast node is counted
pub fast_counted : (w : World) (v : ℕ) → v < length w.members → fast_one (is_fast (member w v).node.mode) ≤ fast_in w
fast_counted w v h = let one = fast_replaced w v nobody h in omega (arith, one)

-- where none is counted, each is slow
pub none_fast : (w : World) → fast_in w ≡ 0 → (v : ℕ) → v < length w.members
    → is_fast (member w v).node.mode ≡ false
none_fast w none v h =
    let one = fast_counted w v h in pick (is_fast (member w v).node.mode) (omega (arith, one, none)) where
      pick : (b : Bool) → fast_one b ≤ 0 → b ≡ false
      pick true le = absurd (omega (arith, le))
      pick false le = refl

-- no more are counted than there are
fast_most : (ms : List Member) → length (fast_among ms) ≤ length ms
fast_most [] = omega arith
fast_most (m ∷ ms) = pick (is_fast m.node.mode) (fast_most ms) where
  pick : (b : Bool) → length (fast_among ms) ≤ length ms
      → length (cond b (m ∷ fast_among ms) (fast_among ms)) ≤ length (m ∷ ms)
  pick true rest = omega (arith, rest)
  pick false rest = omega (arith, rest)

pub few_fast : (w : World) → fast_in w ≤ length w.members
few_fast w = fast_most w.members
