-- The ticks and deliveries of a quantum that are left, one after the other.
use Rattle.std.proofs.Common.{◌≡◌, ℕ, suc, ◌+◌, ◌-◌, ◌<◌, ◌≤◌, ◌==◌, Bool, cond, arith, ap, sym, ◌∙◌, List, [], ◌∷◌, filter, length, map}
use Rattle.std.specs.List.{range_with_len}
use Rattle.std.proofs.lemmas.Bool.{eq-eqb, ne_eqb}
use Rattle.gs_core.specs.declared.event.Event.TheVariants.{Tick}
use Rattle.gs_calendar.specs.Calendar.{Turn}
use Rattle.gs_calendar.specs.inside.Feeds.{turn_in, ticks_left}

-- the numbers from a place on, one more
pub range_step : (a n : ℕ) → a < n → range_with_len a (n - a) ≡ a ∷ range_with_len (a + 1) (n - (a + 1))
range_step a n h = let e : n - a ≡ suc (n - (a + 1)) = omega arith in rw e

pub range_end : (a n : ℕ) → n ≤ a → range_with_len a (n - a) ≡ []
range_end a n h = let e : n - a ≡ 0 = omega arith in rw e

pub ticks_here : (t : ℕ) (turns : List Turn) (v : ℕ) → v < length turns → (turn_in turns v).last ≡ t → ticks_left t turns v ≡ Tick v ∷ ticks_left t turns (v + 1)
ticks_here t turns v inside e =
    let p : ℕ → Bool = λ u. (turn_in turns u).last == t in
    ap (λ (us : List ℕ). map Tick (filter p us)) (range_step v (length turns) inside)
    ∙ ap (λ (b : Bool). map Tick (cond b (v ∷ filter p (range_with_len (v + 1) (length turns - (v + 1)))) (filter p (range_with_len (v + 1) (length turns - (v + 1)))))) (eq-eqb (turn_in turns v).last t e)

pub ticks_past : (t : ℕ) (turns : List Turn) (v : ℕ) → v < length turns → ((turn_in turns v).last ≡ t → ⊥) → ticks_left t turns (v + 1) ≡ ticks_left t turns v
ticks_past t turns v inside e =
    let p : ℕ → Bool = λ u. (turn_in turns u).last == t in
    sym (ap (λ (us : List ℕ). map Tick (filter p us)) (range_step v (length turns) inside)
    ∙ ap (λ (b : Bool). map Tick (cond b (v ∷ filter p (range_with_len (v + 1) (length turns - (v + 1)))) (filter p (range_with_len (v + 1) (length turns - (v + 1)))))) (ne_eqb (turn_in turns v).last t e))

pub ticks_end : (t : ℕ) (turns : List Turn) (v : ℕ) → length turns ≤ v → ticks_left t turns v ≡ []
ticks_end t turns v h = ap (λ (us : List ℕ). map Tick (filter (λ u. (turn_in turns u).last == t) us)) (range_end v (length turns) h)

pub ruleset ticking = (ticks_here, ticks_past, ticks_end)
