-- One node more has its turn, and what it sends on its way.
use Rattle.std.proofs.Common.{◌≡◌, ℕ, suc, ◌+◌, ◌<◌, inl, inr, arith, sym, subst, ◌∙◌, List, length, slice_set, get_or-set_same, get_or-set_other}
use Rattle.std.proofs.lemmas.Bool.{cases_lt}
use Rattle.gs_run.specs.Net.{Net}
use Rattle.gs_calendar.specs.Due.{Key}
use Rattle.gs_calendar.specs.Calendar.{Turn}
use Rattle.gs_calendar.specs.Calendar.{first_turn, turn}
use Rattle.gs_calendar.specs.Course.{Course}
use Rattle.gs_calendar.specs.inside.Feeds.{Grows, HasSentAll, turn_in}

-- the turns of the first nodes, with one more
pub turn_one_more : (net : Net) (c : Course) (t v : ℕ) (next : List Turn) (x : Turn) → v < length next
    → x ≡ turn net c v (suc t) → ((u : ℕ) → u < v → turn_in next u ≡ turn net c u (suc t))
    → (u : ℕ) → u < v + 1 → turn_in (slice_set next v x) u ≡ turn net c u (suc t)
turn_one_more net c t v next x inside is before u less = elim (cases_lt u v) [
  | inl earlier ↦ get_or-set_other next v u x first_turn (λ same. omega (arith, same, earlier)) ∙ before u earlier
  | inr last ↦
      let same : u ≡ v = omega (arith, less, last) in
      let P : ℕ → Type 0 = λ w. turn_in (slice_set next v x) w ≡ turn net c w (suc t) in
      subst P (sym same) (get_or-set_same next v x first_turn inside ∙ is)
]

-- what the first nodes sent, with one more
pub sent_one_more : (net : Net) (c : Course) (t v : ℕ) (old new : List (List Key)) → Grows net c t old new
    → HasSentAll net c (suc t) v new → ((u : ℕ) → u < v → HasSentAll net c (suc t) u old)
    → (u : ℕ) → u < v + 1 → HasSentAll net c (suc t) u new
sent_one_more net c t v old new grows sent before u less = elim (cases_lt u v) [
  | inl earlier ↦ (λ to node near k from comes. grows.keeps to k (before u earlier to node near k from comes))
  | inr last ↦
      let same : u ≡ v = omega (arith, less, last) in
      subst (λ w. HasSentAll net c (suc t) w new) (sym same) sent
]
