-- A seat through a window and its hand-over.
use Rattle.std.proofs.Common.{◌≡◌, ◌+◌, ◌<◌, ◌≤◌, min, ℕ, suc, arith, ap, sym, ◌∙◌, subst, inl, inr, List, [], ◌∷◌, ◌++◌, length, Some, None, true, false, Bool, cond, nat_le}
use Rattle.std.specs.BTreeSet.{insert_key}
use Rattle.std.specs.List.{AllByRecursion}
use Rattle.std.specs.Vec.{vec_capacity}
use Rattle.std.proofs.lemmas.Bool.{cases_eq}
use Rattle.std.proofs.lemmas.Option.{same_Some}
use Rattle.gs_beacon.specs.declared.beacon.Beacon.{Beacon}
use Rattle.gs_run.specs.Accepted.{AreNumbers}
use Rattle.gs_run.specs.Net.{Net, neighbours, place_of}
use Rattle.gs_run.specs.World.{World, Sent, member, sent_by}
use Rattle.gs_calendar.specs.Calendar.{sent_at, given_seq, turn}
use Rattle.gs_calendar.specs.Course.{Course}
use Rattle.gs_calendar.specs.Due.{Key, key_cmp}
use Rattle.gs_calendar.specs.inside.Feeds.{key_of}
use Rattle.gs_calendar.specs.Transits.{Has}
use Rattle.gs_calendar.proofs.Agree.{HasMail}
use Rattle.gs_calendar.proofs.Fitting.{IsCourse}
use Rattle.gs_calendar.proofs.OnTheWay.{is_neighbour, neighbour_is}
use Rattle.gs_script.specs.declared.run.WayRun.{WayRun}
use Rattle.gs_seat.specs.Alone.{Carries, AreCarried}
use Rattle.gs_seat.specs.Held.{IsHeld, IsNext, IsWindow, AreSentIn, SendsNone, handed}
use Rattle.gs_seat.specs.Letters.{Letter, keys, letters_after, put_letter, first_due}
use Rattle.gs_seat.specs.Letters as letters
use Rattle.gs_seat.specs.Seats.{IsSeatAt, IsSeatIn, wake_of}
use Rattle.gs_seat.specs.Sleepers.{IsAsleep}
use Rattle.gs_seat.specs.Ways.{HoldsWays}
use Rattle.gs_seat.specs.Worlds.{world_of, part_at, part_begun, WasSent}
use Rattle.gs_seat.specs.declared.seat.Seat.{Seat}
use Rattle.gs_seat.proofs.Carried.{all_carried_next, sent_stays}
use Rattle.gs_seat.proofs.First.{keys_after}
use Rattle.gs_seat.proofs.Held.{handed_other, handed_own, held_as, held_idle, held_lost, held_none, held_put, held_taken, is_new}
use Rattle.gs_seat.proofs.Idle.{first_by, idle_is, no_tick, none_due}
use Rattle.gs_seat.proofs.Put.{each_put, keys_put}
use Rattle.gs_seat.proofs.Seating.{asleep_on}
use Rattle.gs_seat.proofs.Known.{ways_as, ways_later}
use Rattle.gs_seat.proofs.Turning.{IsReady, longer, next_world, window_late, world_agrees}

-- ---- what was sent in a window

was_stays : (net : Net) (c : Course) (v t : ℕ) (x : Sent) → v < net.nodes → WasSent net c v t x → WasSent net c v (suc t) x
was_stays net c v t x hv was = record {
  by = (let by = was.by in omega (arith, by));
  sent = was.sent;
  found = ap (λ (w : World). sent_by w v x.beacon.seq) (next_world net c t) ∙ sent_stays net c t (world_of net c t) v x.beacon.seq x (world_agrees net c t) hv was.found;
}

next_stays : (net : Net) (c : Course) (v m t : ℕ) (x : Sent) → v < net.nodes → IsNext net c v m t x → IsNext net c v m (suc t) x
next_stays net c v m t x hv is = record { after = is.after; none = is.none; was = was_stays net c v t x hv is.was }

-- a quantum in which v sends nothing
pub sent_none : (net : Net) (c : Course) (v m t : ℕ) (xs : List Sent) → v < net.nodes → sent_at net c v (suc t) ≡ None → AreSentIn net c v m t xs → AreSentIn net c v m (suc t) xs
sent_none net c v m t [] hv none is = λ q after before. elim (cases_eq q (suc t)) [
  | inl now ↦ ap (sent_at net c v) now ∙ none
  | inr old ↦ is q after (omega (arith, before, old))
]
sent_none net c v m t (x ∷ xs) hv none is = (next_stays net c v m t x hv is.0, sent_none net c v x.quantum t xs hv none is.1)

-- and one in which it sends
pub sent_more : (net : Net) (c : Course) (v m t : ℕ) (xs : List Sent) (x : Sent) → v < net.nodes → m ≤ t → x.quantum ≡ suc t → WasSent net c v (suc t) x → AreSentIn net c v m t xs
    → AreSentIn net c v m (suc t) (xs ++ x ∷ [])
sent_more net c v m t [] x hv begun now was is = (
  record { after = omega (arith, begun, now); none = λ q after before. is q after (omega (arith, before, now)); was = was },
  (λ q after before. absurd (omega (arith, after, before, now))),
)
sent_more net c v m t (y ∷ xs) x hv begun now was is = (next_stays net c v m t y hv is.0, sent_more net c v y.quantum t xs x hv is.0.was.by now was is.1)

-- there is at most one in a quantum
pub sent_few : (net : Net) (c : Course) (v m t : ℕ) (xs : List Sent) → m ≤ t → AreSentIn net c v m t xs → length xs + m ≤ t
sent_few net c v m t [] begun is = omega (arith, begun)
sent_few net c v m t (x ∷ xs) begun is =
    let rest = sent_few net c v x.quantum t xs is.0.was.by is.1 in
    let after = is.0.after in
    omega (arith, rest, after)

-- the beacon of a turn is kept
pub sent_pushed : (net : Net) (c : Course) (v m t now : ℕ) (old new : List Sent) (x : Sent) (b : Beacon) → v < net.nodes → m ≤ t → now ≡ suc t → x ≡ record { quantum = now; beacon = b } → new ≡ old ++ x ∷ []
    → WasSent net c v (suc t) (record { quantum = suc t; beacon = b }) → AreSentIn net c v m t old → AreSentIn net c v m (suc t) new
sent_pushed net c v m t now old new x b hv begun e own pushed was is =
    let same : x ≡ record { quantum = suc t; beacon = b } = own ∙ (λ i. record { quantum = e i; beacon = b }) in
    subst (AreSentIn net c v m (suc t)) (sym pushed)
    (sent_more net c v m t old x hv begun (ap (λ (y : Sent). y.quantum) same) (subst (WasSent net c v (suc t)) (sym same) was) is)

-- ---- a quantum

pub seat_begun : (net : Net) (c : Course) (v m t : ℕ) (by : ℕ → ℕ) (s : Seat) → IsSeatAt net c v by m t s → m ≤ t
seat_begun net c v m t by s is = let low = (is.within 0).0 in let high = (is.within 0).1 in omega (arith, low, high)

-- what was handed over by now was so by the end of the next quantum
within_next : (by : ℕ → ℕ) (m t : ℕ) → ((x : ℕ) → (m ≤ by x) × (by x ≤ t)) → (x : ℕ) → (m ≤ by x) × (by x ≤ suc t)
within_next by m t within x = let high = (within x).1 in ((within x).0, omega (arith, high))

-- all that is due in a window was handed over before
pub seat_ready : (net : Net) (c : Course) (v m t : ℕ) (s : Seat) → AreNumbers net → IsCourse net c → IsWindow net m (suc t) → IsSeatIn net c v m t s → IsReady net c v t (λ x. m) s.waiting
seat_ready net c v m t s numbers course window is = record {
  before = λ x. (is.within x).1;
  late = window_late net c v m (suc t) numbers course window;
  held = is.held;
  carried = is.carried;
}

carried_next : (net : Net) (c : Course) (v t : ℕ) (bs : List Letter) → AreCarried net (world_of net c t) v bs → AreCarried net (world_of net c (suc t)) v bs
carried_next net c v t bs all =
    subst (λ (w : World). AreCarried net w v bs) (sym (next_world net c t)) (all_carried_next net c t (world_of net c t) v bs (world_agrees net c t) all)

each_after : (P : Letter → Type 0) (t : ℕ) (bs : List Letter) → AllByRecursion P bs → AllByRecursion P (letters_after t bs)
each_after P t [] all = tt
each_after P t (b ∷ bs) all = pick (nat_le b.due t) (each_after P t bs all.1) where
  pick : (d : Bool) → AllByRecursion P (letters_after t bs) → AllByRecursion P (cond d (letters_after t bs) (b ∷ bs))
  pick true rest = rest
  pick false rest = all

-- a seat whose node had its turn
pub seat_turned : (net : Net) (c : Course) (v m t : ℕ) (by : ℕ → ℕ) (old new : Seat) → IsSeatAt net c v by m t old → IsAsleep net c v (suc t) new.node
    → new.waiting ≡ letters_after (suc t) old.waiting → new.ways ≡ old.ways → AreSentIn net c v m (suc t) new.sent.items → 64 ≤ vec_capacity new.sent → IsSeatAt net c v by m (suc t) new
seat_turned net c v m t by old new is node left ways sent room =
    let held : IsHeld net c v by (suc t) (keys (letters_after (suc t) old.waiting)) =
    subst (λ (ks : List Key). IsHeld net c v by (suc t) ks) (sym (keys_after (suc t) old.waiting)) (held_taken net c v t by (keys old.waiting) is.held) in
    let carried = each_after _ (suc t) old.waiting (carried_next net c v t old.waiting is.carried) in
    record {
      node = node;
      held = subst (λ (bs : List Letter). IsHeld net c v by (suc t) (keys bs)) (sym left) held;
      carried = subst (λ (bs : List Letter). AreCarried net (world_of net c (suc t)) v bs) (sym left) carried;
      ways = subst (HoldsWays net c v by) (sym ways) is.ways;
      sent = sent;
      within = within_next by m t is.within;
      room = room;
    }

-- nor does it send
sends_none_idle : (net : Net) (c : Course) (v t : ℕ) (s : Seat) → v < net.nodes → IsAsleep net c v t s.node → suc t < s.node.ticked + s.node.gap.value → sent_at net c v (suc t) ≡ None
sends_none_idle net c v t s hv is less = ap (λ (b : Bool). given_seq b net.every (turn net c v t)) (no_tick net c v t s.node hv is less)

sleeps : (a b inc due t : ℕ) → t < min (min a b) due → due ≤ inc → (t < a) × (t < b) × (t < inc) × (t < due)
sleeps a b inc due t less le = (omega (arith, less), omega (arith, less), omega (arith, less, le), omega (arith, less))

-- A quantum below the wake-up of a seat does nothing to it: the very same seat stands for the node at its end.
pub sleeps_on : (net : Net) (c : Course) (v m t : ℕ) (s : Seat) → AreNumbers net → IsCourse net c → v < net.nodes → IsWindow net m (suc t) → suc t < wake_of s
    → IsSeatIn net c v m t s → IsSeatIn net c v m (suc t) s
sleeps_on net c v m t s numbers course hv window less is =
    let before = sleeps (s.node.ticked + s.node.gap.value) s.node.gap.until s.node.inc.until (first_due s.node.inc.until s.waiting) (suc t) less (first_by s.node.inc.until s.waiting) in
    let ready = seat_ready net c v m t s numbers course window is in
    let idle : part_at net c (suc t) v ≡ part_begun net c t v =
    idle_is net c v t s.node.inc.until (λ x. m) s.node s.waiting numbers course hv is.node ready before.0 before.3 in
    record {
      node = asleep_on net c v t s.node is.node before.2 before.1 idle;
      held = held_idle net c v t (λ x. m) (keys s.waiting) (none_due (suc t) s.node.inc.until s.waiting before.3) is.held;
      carried = carried_next net c v t s.waiting is.carried;
      ways = is.ways;
      sent = sent_none net c v m t s.sent.items hv (sends_none_idle net c v t s hv is.node before.0) is.sent;
      within = within_next (λ x. m) m t is.within;
      room = is.room;
    }

-- ---- the hand-over

pub handed_within : (by : ℕ → ℕ) (x q m t : ℕ) → ((y : ℕ) → (m ≤ by y) × (by y ≤ t)) → m ≤ q → q ≤ t → (y : ℕ) → (m ≤ handed by x q y) × (handed by x q y ≤ t)
handed_within by x q m t within low high y = elim (cases_eq y x) [
  | inl own ↦ (let e = handed_own by x q y own in (omega (arith, e, low), omega (arith, e, high)))
  | inr other ↦ (let e = handed_other by x q y other in let a = (within y).0 in let b = (within y).1 in (omega (arith, e, a), omega (arith, e, b)))
]

-- a letter is the beacon that its sender sent
sender_is : (net : Net) (c : Course) (x t : ℕ) (s : Sent) → x < net.nodes → WasSent net c x t s → s.beacon.sender ≡ x
sender_is net c x t s hx was =
    let mail : HasMail x (member (world_of net c t) x).sent s.quantum s.beacon.seq = ((world_agrees net c t).each x hx).mails s.quantum s.beacon.seq was.by was.sent in
    ap (λ (y : Sent). y.beacon.sender) (same_Some s mail.0 (sym was.found ∙ mail.1)) ∙ mail.4

-- the letter of what x sent, on its way to v
abbrev pub letter_of : Course → ℕ → ℕ → ℕ → Sent → Letter
letter_of c x v place s = record { due = s.quantum + c.delay x v s.quantum; place = place; sent = s }

key_is : (net : Net) (c : Course) (x v t place : ℕ) (s : Sent) → x < net.nodes → WasSent net c x t s → letters.key_of (letter_of c x v place s) ≡ key_of c x v s.quantum s.beacon.seq
key_is net c x v t place s hx was = let same = sender_is net c x t s hx was in λ i. record { due = s.quantum + c.delay x v s.quantum; from = same i; seq = s.beacon.seq }

-- it was not there before
pub letter_is_new : (net : Net) (c : Course) (x v m t place : ℕ) (by : ℕ → ℕ) (s : Sent) (seat : Seat) → x < net.nodes → IsNext net c x (by x) t s → IsSeatAt net c v by m t seat
    → Has (letters.key_of (letter_of c x v place s)) (keys seat.waiting) → ⊥
letter_is_new net c x v m t place by s seat hx next is has =
    is_new net c v t x s.quantum s.beacon.seq by (keys seat.waiting) (next.after, next.none, next.was.sent) is.held
    (subst (λ (k : Key). Has k (keys seat.waiting)) (key_is net c x v t place s hx next.was) has)

-- it is lost
pub seat_lost : (net : Net) (c : Course) (x v m t : ℕ) (by : ℕ → ℕ) (s : Sent) (seat : Seat) (ws : List WayRun) → IsNext net c x (by x) t s → c.lost x v s.quantum ≡ true → HoldsWays net c v (handed by x s.quantum) ws
    → IsSeatAt net c v by m t seat → IsSeatAt net c v (handed by x s.quantum) m t (record seat { ways = ws })
seat_lost net c x v m t by s seat ws next lost ways is = record {
  node = is.node;
  held = held_lost net c v t x s.quantum s.beacon.seq by (keys seat.waiting) (next.after, next.none, next.was.sent) lost is.held;
  carried = is.carried;
  ways = ways;
  sent = is.sent;
  within = handed_within by x s.quantum m t is.within (let after = next.after in let low = (is.within x).0 in omega (arith, after, low)) next.was.by;
  room = is.room;
}

-- or it is put on its way
pub seat_put : (net : Net) (c : Course) (x v m t place : ℕ) (by : ℕ → ℕ) (s : Sent) (old new : Seat) (ws : List WayRun) → AreNumbers net → IsCourse net c → x < net.nodes → Has v (neighbours net x) → IsWindow net m t
    → IsNext net c x (by x) t s → c.lost x v s.quantum ≡ false → place_of net v x ≡ Some place → new ≡ record old { waiting = put_letter (letter_of c x v place s) old.waiting; ways = ws } → HoldsWays net c v (handed by x s.quantum) ws
    → IsSeatAt net c v by m t old → IsSeatAt net c v (handed by x s.quantum) m t new
seat_put net c x v m t place by s old new ws numbers course hx near window next kept at put ways is =
    let b : Letter = letter_of c x v place s in
    let adjacent = (neighbour_is net x v near).1 in
    let among : Has x (neighbours net v) = is_neighbour net v x hx (numbers.both_ways x v adjacent) in
    let after : m < s.quantum = (let a = next.after in let low = (is.within x).0 in omega (arith, a, low)) in
    let later = longer m t s.quantum (net.delay_min x v) (c.delay x v s.quantum) (window.short x v adjacent) after (course.delay_some x v s.quantum adjacent) (course.delay_low x v s.quantum adjacent) in
    let ks : List Key = keys old.waiting in
    let same : keys (put_letter b old.waiting) ≡ insert_key key_cmp ks (key_of c x v s.quantum s.beacon.seq) =
    keys_put b old.waiting (letter_is_new net c x v m t place by s old hx next is) ∙ ap (insert_key key_cmp ks) (key_is net c x v t place s hx next.was) in
    let held = held_put net c v t x s.quantum s.beacon.seq by ks (next.after, next.none, next.was.sent) kept later among is.held in
    let own = sender_is net c x t s hx next.was in
    let carries : Carries net (world_of net c t) v b = record {
      place = ap (place_of net v) own ∙ at;
      sent = ap (λ (y : ℕ). sent_by (world_of net c t) y s.beacon.seq) own ∙ next.was.found;
    } in
    subst (λ (z : Seat). IsSeatAt net c v (handed by x s.quantum) m t z) (sym put) (record {
      node = is.node;
      held = subst (λ (xs : List Key). IsHeld net c v (handed by x s.quantum) t xs) (sym same) held;
      carried = each_put _ b old.waiting carries is.carried;
      ways = ways;
      sent = is.sent;
      within = handed_within by x s.quantum m t is.within (omega (arith, after)) next.was.by;
      room = is.room;
    })

-- once x sends nothing more in the window, all that it sent has been handed over
pub all_handed : (net : Net) (c : Course) (x v m t : ℕ) (by : ℕ → ℕ) (s : Seat) → SendsNone net c x (by x) (suc t) → IsSeatAt net c v by m t s → IsSeatAt net c v (handed by x t) m t s
all_handed net c x v m t by s none is = record {
  node = is.node;
  held = held_none net c v t x t by (keys s.waiting) (is.within x).1 none is.held;
  carried = is.carried;
  ways = ways_later net c v by (handed by x t) s.ways (λ y near. later y) is.ways;
  sent = is.sent;
  within = handed_within by x t m t is.within (seat_begun net c v m t by s is) (omega arith);
  room = is.room;
}
  where
    later : (y : ℕ) → by y ≤ handed by x t y
    later y = elim (cases_eq y x) [
      | inl own ↦ (let e = handed_own by x t y own in let high = (is.within y).1 in omega (arith, e, high))
      | inr other ↦ (let e = handed_other by x t y other in omega (arith, e))
    ]

-- only the neighbours count
pub seat_as : (net : Net) (c : Course) (v m t : ℕ) (by other : ℕ → ℕ) (s : Seat) → ((x : ℕ) → Has x (neighbours net v) → by x ≡ other x) → ((x : ℕ) → (m ≤ other x) × (other x ≤ t))
    → IsSeatAt net c v by m t s → IsSeatAt net c v other m t s
seat_as net c v m t by other s same within is = record {
  node = is.node;
  held = held_as net c v t by other (keys s.waiting) same is.held;
  carried = is.carried;
  ways = ways_as net c v by other s.ways same is.ways;
  sent = is.sent;
  within = within;
  room = is.room;
}
