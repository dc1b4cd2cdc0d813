-- What is heard of a neighbour was sent no earlier than any of its beacons that is not lost and had the time to come.
use Rattle.std.proofs.Common.{◌≡◌, ℕ, zero, suc, ◌+◌, ◌≤◌, ◌==◌, ◌⊎◌, inl, inr, Bool, true, false, cond, nat_lt, arith, refl, subst, List, [], ◌∷◌, Some}
use Rattle.std.specs.List.{AllByRecursion}
use Rattle.std.proofs.lemmas.Bool.{cases_eq, cases_lt, eq-eqb, ltb-false, ltb-true}
use Rattle.gs_run.specs.Net.{Net}
use Rattle.gs_calendar.specs.Course.{Course}
use Rattle.gs_calendar.specs.Calendar.{Newest, newer, newest, heard_at, arrivals, sent_at}
use Rattle.gs_calendar.specs.Transits.{Has}
use Rattle.gs_calendar.proofs.Arrivals.{IsAged, arrivals_are_aged}
use Rattle.gs_calendar.proofs.Comings.{has_coming}
use Rattle.gs_calendar.proofs.Turns.{sent_above, sent_ticks}

-- ---- the sequence of what is heard rises

newer_rises : (h : Newest) (q k : ℕ) → (h.seq ≤ (newer h q k).seq) × (k ≤ (newer h q k).seq)
newer_rises h q k = pick (nat_lt h.seq k) refl where
  pick : (b : Bool) → nat_lt h.seq k ≡ b
      → let n : Newest = cond {A = Newest} b (record { quantum = q; seq = k }) h in (h.seq ≤ n.seq) × (k ≤ n.seq)
  pick true e = let less = ltb-true h.seq k e in (omega (arith, less), omega arith)
  pick false e = let more = ltb-false h.seq k e in (omega arith, more)

newest_rises : (h : Newest) (bs : List (ℕ × ℕ)) → h.seq ≤ (newest h bs).seq
newest_rises h [] = omega arith
newest_rises h (b ∷ bs) =
    let first = (newer_rises h b.0 b.1).0 in
    let rest = newest_rises (newer h b.0 b.1) bs in
    omega (arith, first, rest)

-- to that of each beacon that comes
newest_has : (h : Newest) (bs : List (ℕ × ℕ)) (b : ℕ × ℕ) → Has b bs → b.1 ≤ (newest h bs).seq
unfolding Has
newest_has h [] b i = absurd i
newest_has h (d ∷ bs) b i = elim i [
  | inl same ↦
      let first = (newer_rises h d.0 d.1).1 in
      let rest = newest_rises (newer h d.0 d.1) bs in
      subst (λ (x : ℕ × ℕ). x.1 ≤ (newest h (d ∷ bs)).seq) same (omega (arith, first, rest))
  | inr later ↦ newest_has (newer h d.0 d.1) bs b later
]

-- a beacon of this sequence is sent in quantum n, is not lost, and has come by quantum t
pub record HasCome (net : Net) (c : Course) (from to n k t : ℕ) : Type 0 where
  pub some : 1 ≤ c.delay from to n
  pub by : n + c.delay from to n ≤ t
  pub sent : sent_at net c from n ≡ Some k
  pub kept : c.lost from to n ≡ false

heard_since : (net : Net) (c : Course) (from to n k t : ℕ) → HasCome net c from to n k t → k ≤ (heard_at net c from to t).seq
heard_since net c from to n k zero is =
    let some = is.some in
    let by = is.by in
    absurd (omega (arith, some, by))
heard_since net c from to n k (suc t) is =
    let some = is.some in
    let by = is.by in
    elim (cases_eq (n + c.delay from to n) (suc t)) [
      | inl now ↦
          let due : (n + c.delay from to n == suc t) ≡ true = eq-eqb (n + c.delay from to n) (suc t) now in
          newest_has (heard_at net c from to t) (arrivals net c from to (suc t)) (n, k)
          (has_coming net c from to (suc t) t n k (omega (arith, now, some)) (record { sent = is.sent; comes = rw (is.kept, due) refl }))
      | inr other ↦
          let before = heard_since net c from to n k t (record { some = some; by = omega (arith, by, other); sent = is.sent; kept = is.kept }) in
          let rest = newest_rises (heard_at net c from to t) (arrivals net c from to (suc t)) in
          omega (arith, before, rest)
    ]

-- ---- what is heard was sent

-- in its quantum, or nothing is heard
abbrev WasSent : Net → Course → ℕ → Newest → Type 0
WasSent net c from h = (h.seq ≡ 0) ⊎ (sent_at net c from h.quantum ≡ Some h.seq)

newer_was_sent : (net : Net) (c : Course) (from q k : ℕ) (h : Newest) → WasSent net c from h → sent_at net c from q ≡ Some k → WasSent net c from (newer h q k)
newer_was_sent net c from q k h was sent = pick (nat_lt h.seq k) where
  pick : (b : Bool) → WasSent net c from (cond {A = Newest} b (record { quantum = q; seq = k }) h)
  pick true = inr sent
  pick false = was

newest_was_sent : (net : Net) (c : Course) (from to t : ℕ) (h : Newest) (bs : List (ℕ × ℕ)) → WasSent net c from h → AllByRecursion (IsAged net c from to t) bs → WasSent net c from (newest h bs)
newest_was_sent net c from to t h [] was aged = was
newest_was_sent net c from to t h (b ∷ bs) was aged =
    newest_was_sent net c from to t (newer h b.0 b.1) bs (newer_was_sent net c from b.0 b.1 h was aged.0.sent) aged.1

heard_was_sent : (net : Net) (c : Course) (from to t : ℕ) → WasSent net c from (heard_at net c from to t)
heard_was_sent net c from to zero = inl refl
heard_was_sent net c from to (suc t) =
    newest_was_sent net c from to (suc t) (heard_at net c from to t) (arrivals net c from to (suc t)) (heard_was_sent net c from to t) (arrivals_are_aged net c from to (suc t))

-- sequences count from 1
seq_some : (net : Net) (c : Course) (v n k : ℕ) → sent_at net c v n ≡ Some k → 1 ≤ k
seq_some net c v zero k sent = absurd (cc)
seq_some net c v (suc n) k sent = let is = (sent_ticks net c v n k sent).2 in omega (arith, is)

-- so it is no older than a beacon that has come
pub heard_is_later : (net : Net) (c : Course) (from to n k t : ℕ) → HasCome net c from to n k t → n ≤ (heard_at net c from to t).quantum
heard_is_later net c from to n k t is =
    let h : Newest = heard_at net c from to t in
    let since = heard_since net c from to n k t is in
    let some = seq_some net c from n k is.sent in
    elim (heard_was_sent net c from to t) [
      | inl none ↦ absurd (omega (arith, since, some, none))
      | inr sent ↦ elim (cases_lt h.quantum n) [
        | inl before ↦ let above = sent_above net c from h.quantum n h.seq k before sent is.sent in absurd (omega (arith, since, above))
        | inr after ↦ after
      ]
    ]
