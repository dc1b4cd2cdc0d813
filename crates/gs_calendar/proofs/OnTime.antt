-- Beacons are sent in time: within any `every * tick` quanta each node sends one.
use Rattle.std.proofs.Common.{◌≡◌, ℕ, zero, suc, ◌+◌, ◌-◌, ◌*◌, ◌<◌, ◌≤◌, ◌⊎◌, inl, inr, Bool, true, false, cond, arith, refl, sym, subst, Some}
use Rattle.std.proofs.Math.Nat.{mul-le-mul_right}
use Rattle.std.proofs.lemmas.Bool.{cases_lt, leb-false}
use Rattle.gs_run.specs.Accepted.{AreNumbers}
use Rattle.gs_run.specs.Net.{Net}
use Rattle.gs_calendar.specs.Course.{Course}
use Rattle.gs_calendar.specs.Calendar.{Turn}
use Rattle.gs_calendar.specs.Calendar.{turn, ticks, gives_next, sent_at}
use Rattle.gs_calendar.proofs.Calm.{not_due}
use Rattle.gs_calendar.proofs.Fitting.{IsCourse}
use Rattle.gs_calendar.proofs.Turns.{given, held, last_before, other_sends, sent_ticks, turn_rises, turn_rises_by}

-- ---- one quantum

-- a turn counts fewer ticks than a beacon takes
count_by : (every t : ℕ) (u : Turn) (tick gives : Bool) → gives_next every u ≡ gives → 1 ≤ every → u.count < every
    → (cond tick (cond gives (given u t) (held u t)) u).count < every
count_by every t u true true e some low = omega arith
count_by every t u true false e some low = leb-false every (u.count + 1) e
count_by every t u false gives e some low = low

count_below : (net : Net) (c : Course) (v t : ℕ) → 1 ≤ net.every → (turn net c v t).count < net.every
count_below net c v zero some = omega arith
count_below net c v (suc t) some =
    let u : Turn = turn net c v t in
    count_by net.every (suc t) u (ticks net c v (suc t)) (gives_next net.every u) refl some (count_below net c v t some)

-- the quantum by which the next beacon is sent, where each tick comes as late as it may
abbrev deadline : ℕ → ℕ → Turn → ℕ
deadline every gap u = u.last + (every - u.count) * gap

one_more : (d gap last now : ℕ) → now ≤ last + gap → now + d * gap ≤ last + (1 + d) * gap
one_more d gap last now soon = omega arith

-- a tick that is in time, and gives no beacon, puts nothing off
held_by : (every gap last count now : ℕ) → count + 1 < every → now ≤ last + gap
    → now + (every - (count + 1)) * gap ≤ last + (every - count) * gap
held_by every gap last count now more soon =
    let e : every - count ≡ 1 + (every - (count + 1)) = omega arith in
    rw e (one_more (every - (count + 1)) gap last now soon)

deadline_by : (every gap t : ℕ) (u : Turn) (tick gives : Bool) → gives_next every u ≡ gives → t < u.last + gap
    → let n : Turn = cond tick (cond gives (given u (suc t)) (held u (suc t))) u in
    (u.seq < n.seq) ⊎ (deadline every gap n ≤ deadline every gap u)
deadline_by every gap t u true true e soon = inl (omega arith)
deadline_by every gap t u true false e soon =
    inr (held_by every gap u.last u.count (suc t) (leb-false every (u.count + 1) e) (omega arith))
deadline_by every gap t u false gives e soon = inr (omega arith)

-- ---- some quanta

-- a beacon has been sent, or the deadline is not put off
sent_or_due : (net : Net) (c : Course) (v t : ℕ) → AreNumbers net → IsCourse net c → (j : ℕ)
    → ((turn net c v t).seq < (turn net c v (t + j)).seq)
    ⊎ (deadline net.every net.tick (turn net c v (t + j)) ≤ deadline net.every net.tick (turn net c v t))
sent_or_due net c v t numbers course zero =
    let e : t + 0 ≡ t = omega arith in
    rw e (inr (omega arith))
sent_or_due net c v t numbers course (suc j) =
    let e : t + suc j ≡ suc (t + j) = omega arith in
    let u : Turn = turn net c v (t + j) in
    let before = turn_rises_by net c v t j in
    let here = turn_rises net c v (t + j) in
    let next = deadline_by net.every net.tick (t + j) u (ticks net c v (suc (t + j))) (gives_next net.every u) refl
    (not_due net c v (t + j) numbers course) in
    rw e (elim (sent_or_due net c v t numbers course j) [
      | inl sent ↦ inl (omega (arith, sent, here))
      | inr due ↦ elim next [ inl now ↦ inl (omega (arith, before, now)) | inr later ↦ inr (omega (arith, due, later)) ]
    ])

-- no deadline has passed
before_deadline : (every gap t : ℕ) (u : Turn) → u.count < every → t < u.last + gap → t < deadline every gap u
before_deadline every gap t u low soon =
    let once : 1 * gap ≤ (every - u.count) * gap = mul-le-mul_right {m = 1} {n = every - u.count} gap (omega arith) in
    omega (arith, once, soon)

-- and none is further away than all ticks of a beacon take
near_deadline : (every gap t : ℕ) (u : Turn) → u.last ≤ t → deadline every gap u ≤ t + every * gap
near_deadline every gap t u before =
    let most : (every - u.count) * gap ≤ every * gap = mul-le-mul_right {m = every - u.count} {n = every} gap (omega arith) in
    omega (arith, most, before)

-- so a beacon is sent
pub sends_in_time : (net : Net) (c : Course) (v t : ℕ) → AreNumbers net → IsCourse net c
    → (turn net c v t).seq < (turn net c v (t + net.every * net.tick)).seq
sends_in_time net c v t numbers course =
    let n : ℕ = t + net.every * net.tick in
    elim (sent_or_due net c v t numbers course (net.every * net.tick)) [
      | inl sent ↦ sent
      | inr due ↦
          let open_ : n < deadline net.every net.tick (turn net c v n) =
          before_deadline net.every net.tick n (turn net c v n) (count_below net c v n numbers.every) (not_due net c v n numbers course) in
          let near = near_deadline net.every net.tick t (turn net c v t) (last_before net c v t) in
          absurd (omega (arith, open_, due, near))
    ]

-- and in k times as many quanta k of them
pub sends_some : (net : Net) (c : Course) (v t : ℕ) → AreNumbers net → IsCourse net c → (k : ℕ)
    → (turn net c v t).seq + k ≤ (turn net c v (t + k * (net.every * net.tick))).seq
sends_some net c v t numbers course zero =
    let e : t + 0 * (net.every * net.tick) ≡ t = omega arith in
    subst (λ (m : ℕ). (turn net c v t).seq + 0 ≤ (turn net c v m).seq) (sym e) (omega arith)
sends_some net c v t numbers course (suc k) =
    let n : ℕ = t + k * (net.every * net.tick) in
    let e : t + suc k * (net.every * net.tick) ≡ n + net.every * net.tick = omega arith in
    let before = sends_some net c v t numbers course k in
    let now = sends_in_time net c v n numbers course in
    subst (λ (m : ℕ). (turn net c v t).seq + suc k ≤ (turn net c v m).seq) (sym e) (omega (arith, before, now))

-- ---- each sequence is sent

-- the quantum after a that sends this sequence, by quantum b
pub record IsSentAfter (net : Net) (c : Course) (v a b k : ℕ) : Type 0 where
  pub when : ℕ
  pub after : a < when
  pub by : when ≤ b
  pub sent : sent_at net c v when ≡ Some k

pub each_sent : (net : Net) (c : Course) (v a j k : ℕ) → (turn net c v a).seq < k → k ≤ (turn net c v (a + j)).seq → IsSentAfter net c v a (a + j) k
each_sent net c v a zero k above below =
    let e : a + 0 ≡ a = omega arith in
    let past : k ≤ (turn net c v a).seq = subst (λ (n : ℕ). k ≤ (turn net c v n).seq) e below in
    absurd (omega (arith, above, past))
each_sent net c v a (suc j) k above below =
    let e : a + suc j ≡ suc (a + j) = omega arith in
    let last : k ≤ (turn net c v (suc (a + j))).seq = subst (λ (n : ℕ). k ≤ (turn net c v n).seq) e below in
    elim (cases_lt (turn net c v (a + j)).seq k) [
      | inl new ↦
          let sent = other_sends net c v (a + j) (λ same. omega (arith, same, new, last)) in
          let one = (sent_ticks net c v (a + j) (turn net c v (suc (a + j))).seq sent).2 in
          let same : (turn net c v (suc (a + j))).seq ≡ k = omega (arith, one, new, last) in
          record {
            when = suc (a + j);
            after = omega arith;
            by = omega arith;
            sent = subst (λ (n : ℕ). sent_at net c v (suc (a + j)) ≡ Some n) same sent;
          }
      | inr old ↦
          let before = each_sent net c v a j k above old in
          let by = before.by in
          record { when = before.when; after = before.after; by = omega (arith, by); sent = before.sent }
    ]
