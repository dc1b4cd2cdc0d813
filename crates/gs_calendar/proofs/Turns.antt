-- Turns from quantum to quantum, and the sequences of what is sent.
use Rattle.std.proofs.Common.{◌≡◌, ℕ, zero, suc, ◌+◌, ◌-◌, ◌<◌, ◌≤◌, ◌==◌, ◌&&◌, Bool, true, false, cond, nat_le, ◌⊎◌, inl, inr, arith, refl, ap, sym, ◌∙◌, subst, Some, None}
use Rattle.std.proofs.lemmas.Bool.{cases_Bool, cond-true, cond-false, leb-false, eq-eqb, ne_eqb}
use Rattle.gs_run.specs.Net.{Net}
use Rattle.gs_calendar.specs.Course.{Course}
use Rattle.gs_calendar.specs.Calendar.{Turn}
use Rattle.gs_calendar.specs.Calendar.{turn, ticks, gives_next, ticked_turn, next_turn, sent_at}

-- ---- the turn after a quantum
pub turn_ticked : (net : Net) (c : Course) (v t : ℕ) → ticks net c v (suc t) ≡ true → turn net c v (suc t) ≡ ticked_turn net.every (suc t) (turn net c v t)
turn_ticked net c v t e = cond-true (ticks net c v (suc t)) (ticked_turn net.every (suc t) (turn net c v t)) (turn net c v t) e

pub turn_stays : (net : Net) (c : Course) (v t : ℕ) → ticks net c v (suc t) ≡ false → turn net c v (suc t) ≡ turn net c v t
turn_stays net c v t e = cond-false (ticks net c v (suc t)) (ticked_turn net.every (suc t) (turn net c v t)) (turn net c v t) e

-- a turn after a tick at t that gives a beacon, and after one that gives none
abbrev pub given : Turn → ℕ → Turn
given u t = record { last = t; count = 0; seq = u.seq + 1 }

abbrev pub held : Turn → ℕ → Turn
held u t = record { last = t; count = u.count + 1; seq = u.seq }

pub turn_given : (net : Net) (c : Course) (v t : ℕ) → ticks net c v (suc t) ≡ true → gives_next net.every (turn net c v t) ≡ true → turn net c v (suc t) ≡ given (turn net c v t) (suc t)
turn_given net c v t e g = turn_ticked net c v t e ∙ cond-true (gives_next net.every (turn net c v t)) (given (turn net c v t) (suc t)) (held (turn net c v t) (suc t)) g

pub turn_held : (net : Net) (c : Course) (v t : ℕ) → ticks net c v (suc t) ≡ true → gives_next net.every (turn net c v t) ≡ false → turn net c v (suc t) ≡ held (turn net c v t) (suc t)
turn_held net c v t e g = turn_ticked net c v t e ∙ cond-false (gives_next net.every (turn net c v t)) (given (turn net c v t) (suc t)) (held (turn net c v t) (suc t)) g

-- ---- sequences rise with time
ticked_rises : (every t : ℕ) (u : Turn) → u.seq ≤ (ticked_turn every t u).seq
ticked_rises every t u = by_gives u t (gives_next every u)
  where
    by_gives : (u : Turn) (t : ℕ) (g : Bool) → u.seq ≤ (cond {A = Turn} g (given u t) (held u t)).seq
    by_gives u t true = omega arith
    by_gives u t false = omega arith

pub turn_rises : (net : Net) (c : Course) (v t : ℕ) → (turn net c v t).seq ≤ (turn net c v (suc t)).seq
turn_rises net c v t = elim (cases_Bool (ticks net c v (suc t))) [
  | inl e ↦ subst (λ (x : Turn). (turn net c v t).seq ≤ x.seq) (sym (turn_ticked net c v t e)) (ticked_rises net.every (suc t) (turn net c v t))
  | inr e ↦ subst (λ (x : Turn). (turn net c v t).seq ≤ x.seq) (sym (turn_stays net c v t e)) (omega arith)
]

pub turn_rises_by : (net : Net) (c : Course) (v t j : ℕ) → (turn net c v t).seq ≤ (turn net c v (t + j)).seq
turn_rises_by net c v t zero = let e : t + 0 ≡ t = omega arith in rw e (omega arith)
turn_rises_by net c v t (suc j) =
    let e : t + suc j ≡ suc (t + j) = omega arith in
    let low = turn_rises_by net c v t j in
    let high = turn_rises net c v (t + j) in
    rw e (omega arith)

-- a beacon comes of a tick that gives one
given_is : (a g : Bool) (n k : ℕ) → cond (a && g) (Some n) None ≡ Some k → (a ≡ true) × (g ≡ true) × (n ≡ k)
given_is true true n k h = (refl, refl, cc)
given_is true false n k h = absurd (cc)
given_is false g n k h = absurd (cc)

pub sent_ticks : (net : Net) (c : Course) (v t k : ℕ) → sent_at net c v (suc t) ≡ Some k → (ticks net c v (suc t) ≡ true) × (gives_next net.every (turn net c v t) ≡ true) × ((turn net c v t).seq + 1 ≡ k)
sent_ticks net c v t k h = given_is (ticks net c v (suc t)) (gives_next net.every (turn net c v t)) ((turn net c v t).seq + 1) k h

-- its sequence is that of its sender's turn
pub sent_seq : (net : Net) (c : Course) (v t k : ℕ) → sent_at net c v t ≡ Some k → k ≡ (turn net c v t).seq
sent_seq net c v zero k h = absurd (cc)
sent_seq net c v (suc t) k h =
    let is = sent_ticks net c v t k h in
    sym is.2 ∙ sym (ap (λ (x : Turn). x.seq) (turn_given net c v t is.0 is.1))

-- so it is above all that were sent before
pub sent_above : (net : Net) (c : Course) (v m n j k : ℕ) → m < n → sent_at net c v m ≡ Some j → sent_at net c v n ≡ Some k → j < k
sent_above net c v m zero j k l h i = absurd (omega arith)
sent_above net c v m (suc n) j k l h i =
    let old = sent_seq net c v m j h in
    let new = (sent_ticks net c v n k i).2 in
    let e : m + (n - m) ≡ n = omega arith in
    let rises : (turn net c v m).seq ≤ (turn net c v n).seq = subst (λ (x : ℕ). (turn net c v m).seq ≤ (turn net c v x).seq) e (turn_rises_by net c v m (n - m)) in
    omega (arith, old, new, rises)

-- ---- a tick is the last one
ticked_last : (every t : ℕ) (u : Turn) → (ticked_turn every t u).last ≡ t
ticked_last every t u = by_gives u t (gives_next every u)
  where
    by_gives : (u : Turn) (t : ℕ) (g : Bool) → (cond {A = Turn} g (given u t) (held u t)).last ≡ t
    by_gives u t true = refl
    by_gives u t false = refl

last_is : (every t : ℕ) (u : Turn) (b : Bool) → (cond b (ticked_turn every t u) u).last ≡ cond b t u.last
last_is every t u true = ticked_last every t u
last_is every t u false = refl

pub turn_last : (net : Net) (c : Course) (v t : ℕ) → (turn net c v (suc t)).last ≡ cond (ticks net c v (suc t)) (suc t) (turn net c v t).last
turn_last net c v t = last_is net.every (suc t) (turn net c v t) (ticks net c v (suc t))

last_by : (a t l : ℕ) (b : Bool) → a ≡ cond b (suc t) l → l ≤ t → a ≤ suc t
last_by a t l true e h = omega arith
last_by a t l false e h = omega arith

pub last_before : (net : Net) (c : Course) (v t : ℕ) → (turn net c v t).last ≤ t
last_before net c v zero = omega arith
last_before net c v (suc t) = last_by (turn net c v (suc t)).last t (turn net c v t).last (ticks net c v (suc t)) (turn_last net c v t) (last_before net c v t)

-- so a node ticks in a quantum just where this is its last tick
ticks_by : (a t l : ℕ) (b : Bool) → a ≡ cond b (suc t) l → l ≤ t → (a == suc t) ≡ b
ticks_by a t l true e h = eq-eqb a (suc t) e
ticks_by a t l false e h = ne_eqb a (suc t) (λ x. omega (arith, x, e))

pub ticks_is : (net : Net) (c : Course) (v t : ℕ) → ((turn net c v (suc t)).last == suc t) ≡ ticks net c v (suc t)
ticks_is net c v t = ticks_by (turn net c v (suc t)).last t (turn net c v t).last (ticks net c v (suc t)) (turn_last net c v t) (last_before net c v t)

-- ---- a tick is never as late as the plan's greatest gap: the script asks for gaps from 1 to that one
not_due_by : (a l g most t : ℕ) (b : Bool) → nat_le g (t - l) ≡ b → 1 ≤ g → g ≤ most → a ≡ cond b t l → t - a < most
not_due_by a l g most t true e low high is = omega arith
not_due_by a l g most t false e low high is = let less : t - l < g = leb-false g (t - l) e in omega arith

pub not_due : (net : Net) (c : Course) (v t most : ℕ) → 1 ≤ c.gap v (suc t) → c.gap v (suc t) ≤ most → suc t - (turn net c v (suc t)).last < most
not_due net c v t most low high =
    not_due_by (turn net c v (suc t)).last (turn net c v t).last (c.gap v (suc t)) most (suc t) (ticks net c v (suc t)) refl low high (turn_last net c v t)

-- ---- what a turn counts is at most the quanta
within_by : (t : ℕ) (u : Turn) (tick gives : Bool) → u.last ≤ t → u.count ≤ t → u.seq ≤ t
    → let n : Turn = cond tick (cond gives (given u (suc t)) (held u (suc t))) u in (n.last ≤ suc t) × (n.count ≤ suc t) × (n.seq ≤ suc t)
within_by t u true true h k l = (omega arith, omega arith, omega arith)
within_by t u true false h k l = (omega arith, omega arith, omega arith)
within_by t u false gives h k l = (omega arith, omega arith, omega arith)

pub turn_within : (net : Net) (c : Course) (v t : ℕ) → ((turn net c v t).last ≤ t) × ((turn net c v t).count ≤ t) × ((turn net c v t).seq ≤ t)
turn_within net c v zero = (omega arith, omega arith, omega arith)
turn_within net c v (suc t) =
    let u = turn net c v t in
    let before = turn_within net c v t in
    within_by t u (ticks net c v (suc t)) (gives_next net.every u) before.0 before.1 before.2

-- ---- a beacon is sent just where the sequence changes
sent_by_seq : (u : Turn) (t : ℕ) (tick gives : Bool) → let n : Turn = cond tick (cond gives (given u (suc t)) (held u (suc t))) u in
    ((n.seq ≡ u.seq) × (cond (tick && gives) (Some (u.seq + 1)) None ≡ None)) ⊎ ((n.seq ≡ u.seq → ⊥) × (cond (tick && gives) (Some (u.seq + 1)) None ≡ Some n.seq))
sent_by_seq u t true true = inr ((λ e. omega (arith, e)), refl)
sent_by_seq u t true false = inl (refl, refl)
sent_by_seq u t false gives = inl (refl, refl)

pub seq_sends : (net : Net) (c : Course) (v t : ℕ)
    → (((turn net c v (suc t)).seq ≡ (turn net c v t).seq) × (sent_at net c v (suc t) ≡ None)) ⊎ (((turn net c v (suc t)).seq ≡ (turn net c v t).seq → ⊥) × (sent_at net c v (suc t) ≡ Some (turn net c v (suc t)).seq))
seq_sends net c v t = sent_by_seq (turn net c v t) t (ticks net c v (suc t)) (gives_next net.every (turn net c v t))

pub same_sends : (net : Net) (c : Course) (v t : ℕ) → (turn net c v (suc t)).seq ≡ (turn net c v t).seq → sent_at net c v (suc t) ≡ None
same_sends net c v t e = elim (seq_sends net c v t) [ inl a ↦ a.1 | inr b ↦ absurd (b.0 e) ]

pub other_sends : (net : Net) (c : Course) (v t : ℕ) → ((turn net c v (suc t)).seq ≡ (turn net c v t).seq → ⊥) → sent_at net c v (suc t) ≡ Some (turn net c v (suc t)).seq
other_sends net c v t e = elim (seq_sends net c v t) [ inl a ↦ absurd (e a.0) | inr b ↦ b.1 ]

-- ---- the turn that is computed
pub turn_next : (net : Net) (c : Course) (v t every gap : ℕ) (u : Turn) → u ≡ turn net c v t → every ≡ net.every → gap ≡ c.gap v (t + 1) → next_turn every gap (t + 1) u ≡ turn net c v (suc t)
turn_next net c v t every gap u e f g =
    let now : t + 1 ≡ suc t = omega arith in
    rw (e, f, g, now)
