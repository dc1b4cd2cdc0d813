-- A world agrees with the calendar at the end of each quantum: when a node ticked last, and which beacons it has sent when.
use Rattle.std.proofs.Common.{◌≡◌, ℕ, zero, suc, ◌+◌, ◌<◌, ◌≤◌, ◌&&◌, ◌==◌, inl, inr, arith, ap, sym, refl, ◌∙◌, subst, List, [], ◌∷◌, ◌++◌, length, map, find, append-nil, Option, Some, None, Bool, true, false, if◌then◌else◌, nat_le}
use Rattle.std.specs.List.{AllByRecursion}
use Rattle.std.specs.Option.{option_or}
use Rattle.std.proofs.lemmas.Bool.{cases_Bool, cases_eq, eq-eqb, ne_eqb}
use Rattle.std.proofs.lemmas.List.{length-map, map_push}
use Rattle.std.proofs.lemmas.List.Folds.{find-append}
use Rattle.std.proofs.lemmas.List.FromFn.{length-map-range_with_len}
use Rattle.std.proofs.lemmas.Option.{same_Some, none-some}
use Rattle.gs_core.specs.Node.{clock_of, maximum_of}
use Rattle.gs_run.specs.Net.{Net, params_of, neighbours, link_of}
use Rattle.gs_run.specs.World.{World, Member, Sent, member, advanced, sends, ticked_member, member_at_start, world_from}
use Rattle.gs_run.specs.Run.{run}
use Rattle.gs_calendar.specs.Course.{Course}
use Rattle.gs_calendar.specs.Calendar.{Turn}
use Rattle.gs_calendar.specs.Calendar.{turn, ticks, gives_next, sent_at}
use Rattle.gs_calendar.specs.Events.{quantum_at, events_upto}
use Rattle.gs_calendar.proofs.Counting.{IsQuiet}
use Rattle.gs_run.proofs.Start.{start_member}
use Rattle.gs_run.proofs.Written.{run_more}
use Rattle.gs_calendar.proofs.OneSeat.{IsQuietWorld, begun, listened, begun_count, begun_member, listened_is_quiet, ticked_if, quantum_shape, quantum_member}
use Rattle.gs_calendar.proofs.Turns.{turn_given, turn_held, turn_stays}
use Rattle.gs_calendar.proofs.Parts.{each_append, each_weaker}

-- ---- what the calendar says was sent

-- the quantum and the sequence of a beacon, if there is one
abbrev pub mail_of : ℕ → Option ℕ → List (ℕ × ℕ)
mail_of t None = []
mail_of t (Some k) = (t, k) ∷ []

-- the same of all beacons of v that the calendar has by the end of quantum t
abbrev pub mails_upto : Net → Course → ℕ → ℕ → List (ℕ × ℕ)
mails_upto net c v zero = []
mails_upto net c v (suc t) = mails_upto net c v t ++ mail_of (suc t) (sent_at net c v (suc t))

-- and of beacons that were sent
abbrev pub mails_in : List Sent → List (ℕ × ℕ)
mails_in sent = map (λ s. (s.quantum, s.beacon.seq)) sent

-- v's beacon of this sequence is among those sent, as one that was sent in quantum n
abbrev pub HasMail : ℕ → List Sent → ℕ → ℕ → Type 0
HasMail v sent n k = (s : Sent) × (find (λ s. s.beacon.seq == k) sent ≡ Some s) × (s.quantum ≡ n) × (s.beacon.seq ≡ k) × (s.beacon.sender ≡ v)

-- member v is as the calendar says at the end of quantum t, and has a place for each neighbour
pub record Agrees (net : Net) (c : Course) (v t : ℕ) (m : Member) : Type 0 where
  pub last : m.ticked_at ≡ (turn net c v t).last
  pub count : m.node.ticks ≡ (turn net c v t).count
  pub seq : m.node.seq ≡ (turn net c v t).seq
  pub sent : mails_in m.sent ≡ mails_upto net c v t
  pub numbers : AllByRecursion (λ s. s.beacon.seq ≤ m.node.seq) m.sent
  pub mails : (n k : ℕ) → n ≤ t → sent_at net c v n ≡ Some k → HasMail v m.sent n k
  pub places : length m.heard ≡ length (neighbours net v)
  pub entries : length m.node.entries ≡ length (neighbours net v)

-- what a quantum adds and what is heard change none of it
pub advanced_agrees : (net : Net) (c : Course) (v t inc : ℕ) (m : Member) → Agrees net c v t m → Agrees net c v t (advanced m inc)
advanced_agrees net c v t inc m h = record { last = h.last; count = h.count; seq = h.seq; sent = h.sent; numbers = h.numbers; mails = h.mails; places = h.places; entries = h.entries }

pub quiet_agrees : (net : Net) (c : Course) (v t : ℕ) (m n : Member) → IsQuiet m n → Agrees net c v t m → Agrees net c v t n
quiet_agrees net c v t m n q h = record {
  last = q.last ∙ h.last;
  count = q.count ∙ h.count;
  seq = q.seq ∙ h.seq;
  sent = ap mails_in q.sent ∙ h.sent;
  numbers = let P : List Sent → ℕ → Type 0 = λ xs k. AllByRecursion (λ s. s.beacon.seq ≤ k) xs in
      subst (λ (k : ℕ). P n.sent k) (sym q.seq) (subst (λ (xs : List Sent). P xs m.node.seq) (sym q.sent) h.numbers);
  mails = λ j k le e. subst (λ (xs : List Sent). HasMail v xs j k) (sym q.sent) (h.mails j k le e);
  places = q.places ∙ h.places;
  entries = q.entries ∙ h.entries;
}

-- ---- what was sent stays, and what is new is found

find_old : (sent ys : List Sent) (k : ℕ) (s : Sent) → find (λ x. x.beacon.seq == k) sent ≡ Some s → find (λ x. x.beacon.seq == k) (sent ++ ys) ≡ Some s
find_old sent ys k s e = find-append (λ x. x.beacon.seq == k) sent ys ∙ ap (λ o. option_or o (find (λ x. x.beacon.seq == k) ys)) e

find_none : (sent : List Sent) (k n : ℕ) → n < k → AllByRecursion (λ s. s.beacon.seq ≤ n) sent → find (λ x. x.beacon.seq == k) sent ≡ None
find_none [] k n less h = refl
find_none (s ∷ sent) k n less h = let other : (s.beacon.seq == k) ≡ false = ne_eqb s.beacon.seq k (λ e. omega (arith, e, less, h.0)) in rw other (find_none sent k n less h.1)

find_new : (sent : List Sent) (s : Sent) (n : ℕ) → s.beacon.seq ≡ n + 1 → AllByRecursion (λ s. s.beacon.seq ≤ n) sent → find (λ x. x.beacon.seq == n + 1) (sent ++ s ∷ []) ≡ Some s
find_new sent s n e h =
    find-append (λ x. x.beacon.seq == n + 1) sent (s ∷ [])
    ∙ ap (λ o. option_or o (find (λ x. x.beacon.seq == n + 1) (s ∷ []))) (find_none sent (n + 1) n (omega arith) h)
    ∙ (let own : (s.beacon.seq == n + 1) ≡ true = eq-eqb s.beacon.seq (n + 1) e in rw own refl)

mail_stays : (v : ℕ) (sent ys : List Sent) (n k : ℕ) → HasMail v sent n k → HasMail v (sent ++ ys) n k
mail_stays v sent ys n k h = (h.0, find_old sent ys k h.0 h.1, h.2, h.3, h.4)

-- the mails by quantum t + 1, where those by t stay and the new one is known
mails_more : (net : Net) (c : Course) (v t : ℕ) (sent next : List Sent)
    → ((n k : ℕ) → n ≤ t → sent_at net c v n ≡ Some k → HasMail v sent n k)
    → ((n k : ℕ) → HasMail v sent n k → HasMail v next n k)
    → ((k : ℕ) → sent_at net c v (suc t) ≡ Some k → HasMail v next (suc t) k)
    → (n k : ℕ) → n ≤ suc t → sent_at net c v n ≡ Some k → HasMail v next n k
mails_more net c v t sent next old stays new n k le e = elim (cases_eq n (suc t)) [
  | inl same ↦ subst (λ (x : ℕ). sent_at net c v x ≡ Some k → HasMail v next x k) (sym same) (new k) e
  | inr other ↦ stays n k (old n k (omega (arith, le, other)) e)
]

-- ---- a tick, or none

sent_is : (net : Net) (c : Course) (v t : ℕ) (a d : Bool) → ticks net c v (suc t) ≡ a → gives_next net.every (turn net c v t) ≡ d
    → sent_at net c v (suc t) ≡ (if a && d then Some ((turn net c v t).seq + 1) else None)
sent_is net c v t a d e g = rw (e, g) refl

-- the beacon of v's tick in quantum t
beacon_then : Net → ℕ → ℕ → Member → Sent
beacon_then net v t m = record { quantum = t; beacon = record { cluster = net.cluster; sender = v; seq = m.node.seq + 1; l = clock_of net.rate m.node m.reading; m = maximum_of net.rate m.node m.reading } }

sent_then : (net : Net) (v t : ℕ) (m : Member) (d : Bool) → nat_le net.every (m.node.ticks + 1) ≡ d
    → (ticked_member (params_of net v) t m).sent ≡ (if d then m.sent ++ beacon_then net v t m ∷ [] else m.sent)
unfolding beacon_then
sent_then net v t m d e = ap (λ b. sends m.sent t (if b then Some (beacon_then net v t m).beacon else None)) e ∙ pick d
  where
    pick : (b : Bool) → sends m.sent t (if b then Some (beacon_then net v t m).beacon else None) ≡ (if b then m.sent ++ beacon_then net v t m ∷ [] else m.sent)
    pick true = refl
    pick false = refl

due_is : (net : Net) (c : Course) (v t : ℕ) (m : Member) (d : Bool) → Agrees net c v t m → gives_next net.every (turn net c v t) ≡ d → nat_le net.every (m.node.ticks + 1) ≡ d
due_is net c v t m d h g = ap (λ n. nat_le net.every (n + 1)) h.count ∙ g

tick_gives : (net : Net) (c : Course) (v t : ℕ) (m : Member) → Agrees net c v t m → ticks net c v (suc t) ≡ true → gives_next net.every (turn net c v t) ≡ true
    → Agrees net c v (suc t) (ticked_member (params_of net v) (suc t) m)
unfolding beacon_then
tick_gives net c v t m h e g =
    let u : Turn = turn net c v t in
    let s : Sent = beacon_then net v (suc t) m in
    let n : Member = ticked_member (params_of net v) (suc t) m in
    let is = turn_given net c v t e g in
    let due : nat_le net.every (m.node.ticks + 1) ≡ true = due_is net c v t m true h g in
    let sent : n.sent ≡ m.sent ++ s ∷ [] = sent_then net v (suc t) m true due in
    let now : sent_at net c v (suc t) ≡ Some (u.seq + 1) = sent_is net c v t true true e g in
    let seq : n.node.seq ≡ m.node.seq + 1 = ap (λ b. if b then m.node.seq + 1 else m.node.seq) due in
    let more : m.node.seq + 1 ≡ u.seq + 1 = ap (λ k. k + 1) h.seq in
    record {
      last = sym (ap (λ (x : Turn). x.last) is);
      count = ap (λ b. if b then 0 else m.node.ticks + 1) due ∙ sym (ap (λ (x : Turn). x.count) is);
      seq = seq ∙ more ∙ sym (ap (λ (x : Turn). x.seq) is);
      sent = ap mails_in sent ∙ map_push (λ s. (s.quantum, s.beacon.seq)) m.sent s ∙ ap (λ xs. xs ++ (suc t, m.node.seq + 1) ∷ []) h.sent
          ∙ ap (λ k. mails_upto net c v t ++ mail_of (suc t) (Some k)) more ∙ ap (λ o. mails_upto net c v t ++ mail_of (suc t) o) (sym now);
      numbers = subst (λ (xs : List Sent). AllByRecursion (λ s. s.beacon.seq ≤ n.node.seq) xs) (sym sent)
          (each_append _ m.sent (s ∷ []) (each_weaker _ _ (λ x le. omega (arith, le, seq)) m.sent h.numbers) (omega (arith, seq), tt));
      mails = mails_more net c v t m.sent n.sent h.mails (λ j k old. subst (λ (xs : List Sent). HasMail v xs j k) (sym sent) (mail_stays v m.sent (s ∷ []) j k old))
          (λ k new.
          let k_is : m.node.seq + 1 ≡ k = more ∙ same_Some (u.seq + 1) k (sym now ∙ new) in
          subst (λ (xs : List Sent). HasMail v xs (suc t) k) (sym sent)
          (subst (λ (j : ℕ). HasMail v (m.sent ++ s ∷ []) (suc t) j) k_is (s, find_new m.sent s m.node.seq refl h.numbers, refl, refl, refl)));
      places = h.places;
      entries = h.entries;
    }

tick_holds : (net : Net) (c : Course) (v t : ℕ) (m : Member) → Agrees net c v t m → ticks net c v (suc t) ≡ true → gives_next net.every (turn net c v t) ≡ false
    → Agrees net c v (suc t) (ticked_member (params_of net v) (suc t) m)
tick_holds net c v t m h e g =
    let u : Turn = turn net c v t in
    let n : Member = ticked_member (params_of net v) (suc t) m in
    let is = turn_held net c v t e g in
    let due : nat_le net.every (m.node.ticks + 1) ≡ false = due_is net c v t m false h g in
    let sent : n.sent ≡ m.sent = sent_then net v (suc t) m false due in
    let now : sent_at net c v (suc t) ≡ None = sent_is net c v t true false e g in
    let seq : n.node.seq ≡ m.node.seq = ap (λ b. if b then m.node.seq + 1 else m.node.seq) due in
    record {
      last = sym (ap (λ (x : Turn). x.last) is);
      count = ap (λ b. if b then 0 else m.node.ticks + 1) due ∙ ap (λ k. k + 1) h.count ∙ sym (ap (λ (x : Turn). x.count) is);
      seq = seq ∙ h.seq ∙ sym (ap (λ (x : Turn). x.seq) is);
      sent = ap mails_in sent ∙ h.sent ∙ sym (append-nil (mails_upto net c v t)) ∙ ap (λ o. mails_upto net c v t ++ mail_of (suc t) o) (sym now);
      numbers = subst (λ (xs : List Sent). AllByRecursion (λ s. s.beacon.seq ≤ n.node.seq) xs) (sym sent) (each_weaker _ _ (λ x le. omega (arith, le, seq)) m.sent h.numbers);
      mails = mails_more net c v t m.sent n.sent h.mails (λ j k old. subst (λ (xs : List Sent). HasMail v xs j k) (sym sent) old) (λ k new. absurd (none-some k (sym now ∙ new)));
      places = h.places;
      entries = h.entries;
    }

stays : (net : Net) (c : Course) (v t : ℕ) (m : Member) → Agrees net c v t m → ticks net c v (suc t) ≡ false → Agrees net c v (suc t) m
stays net c v t m h e =
    let is = turn_stays net c v t e in
    let now : sent_at net c v (suc t) ≡ None = rw e refl in
    record {
      last = h.last ∙ sym (ap (λ (x : Turn). x.last) is);
      count = h.count ∙ sym (ap (λ (x : Turn). x.count) is);
      seq = h.seq ∙ sym (ap (λ (x : Turn). x.seq) is);
      sent = h.sent ∙ sym (append-nil (mails_upto net c v t)) ∙ ap (λ o. mails_upto net c v t ++ mail_of (suc t) o) (sym now);
      numbers = h.numbers;
      mails = mails_more net c v t m.sent m.sent h.mails (λ j k old. old) (λ k new. absurd (none-some k (sym now ∙ new)));
      places = h.places;
      entries = h.entries;
    }

-- a tick where the calendar has one
tick_agrees : (net : Net) (c : Course) (v t : ℕ) (m : Member) → Agrees net c v t m → (b : Bool) → ticks net c v (suc t) ≡ b → Agrees net c v (suc t) (ticked_if net v (suc t) b m)
tick_agrees net c v t m h true e = elim (cases_Bool (gives_next net.every (turn net c v t))) [
  | inl g ↦ tick_gives net c v t m h e g
  | inr g ↦ tick_holds net c v t m h e g
]
tick_agrees net c v t m h false e = stays net c v t m h e

-- ---- a world

pub record IsCalendar (net : Net) (c : Course) (t : ℕ) (w : World) : Type 0 where
  pub quanta : w.quanta ≡ t
  pub count : length w.members ≡ net.nodes
  pub each : (v : ℕ) → v < net.nodes → Agrees net c v t (member w v)

-- a world between the first event of quantum t + 1 and its ticks
pub record Listens (net : Net) (c : Course) (t : ℕ) (w : World) : Type 0 where
  pub quanta : w.quanta ≡ suc t
  pub count : length w.members ≡ net.nodes
  pub each : (v : ℕ) → v < net.nodes → Agrees net c v t (member w v)

pub begun_listens : (net : Net) (c : Course) (t : ℕ) (w : World) → IsCalendar net c t w → Listens net c t (begun net c (suc t) w)
begun_listens net c t w h = record {
  quanta = let q = h.quanta in omega (arith, q);
  count = begun_count net c (suc t) w h.count;
  each = λ v hv. subst (λ (m : Member). Agrees net c v t m) (sym (begun_member net c (suc t) w v h.count hv)) (advanced_agrees net c v t (c.inc v (suc t)) (member w v) (h.each v hv));
}

pub quiet_listens : (net : Net) (c : Course) (t : ℕ) (w z : World) → IsQuietWorld w z → Listens net c t w → Listens net c t z
quiet_listens net c t w z q h = record {
  quanta = q.quanta ∙ h.quanta;
  count = q.count ∙ h.count;
  each = λ v hv. quiet_agrees net c v t (member w v) (member z v) (q.each v) (h.each v hv);
}

pub quantum_agrees : (net : Net) (c : Course) (t : ℕ) (w : World) → IsCalendar net c t w → IsCalendar net c (suc t) (run net w (quantum_at net c (suc t)))
quantum_agrees net c t w h =
    let shape = quantum_shape net c (suc t) w h.count in
    let now : w.quanta + 1 ≡ suc t = (let q = h.quanta in omega (arith, q)) in
    let listens : Listens net c t (listened net c (suc t) w) = quiet_listens net c t (begun net c (suc t) w) (listened net c (suc t) w) (listened_is_quiet net c (suc t) w) (begun_listens net c t w h) in
    record {
      quanta = shape.0 ∙ now;
      count = shape.1;
      each = λ v hv.
          let m : Member = member (listened net c (suc t) w) v in
          subst (λ (x : Member). Agrees net c v (suc t) x) (sym (quantum_member net c (suc t) w v h.count hv ∙ ap (λ n. ticked_if net v n (ticks net c v (suc t)) m) now))
          (tick_agrees net c v t m (listens.each v hv) (ticks net c v (suc t)) refl);
    }

-- the world after t quanta of a script
abbrev pub world_at : Net → Course → World → ℕ → World
world_at net c w t = run net w (events_upto net c t)

pub world_next : (net : Net) (c : Course) (w : World) (t : ℕ) → world_at net c w (suc t) ≡ run net (world_at net c w t) (quantum_at net c (suc t))
world_next net c w t = run_more net w (events_upto net c t) (quantum_at net c (suc t))

-- A run of a script agrees with its calendar at the end of each quantum, whatever the clocks are.
pub run_agrees : (net : Net) (c : Course) (w : World) → IsCalendar net c 0 w → (t : ℕ) → IsCalendar net c t (world_at net c w t)
run_agrees net c w h zero = h
run_agrees net c w h (suc t) = subst (λ (z : World). IsCalendar net c (suc t) z) (sym (world_next net c w t)) (quantum_agrees net c t (world_at net c w t) (run_agrees net c w h t))

-- every start does
start_agrees : (net : Net) (c : Course) (v hw l0 : ℕ) → Agrees net c v 0 (member_at_start net v hw l0)
start_agrees net c v hw l0 = record {
  last = refl;
  count = refl;
  seq = refl;
  sent = refl;
  numbers = tt;
  mails = λ n k le e. let z : n ≡ 0 = omega (arith, le) in let none : sent_at net c v 0 ≡ Some k = subst (λ (x : ℕ). sent_at net c v x ≡ Some k) z e in absurd (none-some k none);
  places = length-map (neighbours net v) (λ x. 0);
  entries = length-map (map (link_of net v) (neighbours net v)) (λ link. record { seq = 0; value = l0; at = hw }) ∙ length-map (neighbours net v) (link_of net v);
}

pub start_is_calendar : (net : Net) (c : Course) (hw clocks : ℕ → ℕ) → IsCalendar net c 0 (world_from net hw clocks)
start_is_calendar net c hw clocks = record {
  quanta = refl;
  count = length-map-range_with_len (λ v. member_at_start net v (hw v) (clocks v)) 0 net.nodes;
  each = λ v h. subst (λ (m : Member). Agrees net c v 0 m) (sym (start_member net hw clocks v h)) (start_agrees net c v (hw v) (clocks v));
}
