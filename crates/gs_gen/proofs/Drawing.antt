-- Each node draws the next three outputs, after three for each node before.
use Rattle.std.proofs.Common.{◌≡◌, ℕ, zero, suc, ◌+◌, ◌*◌, arith, refl, ap, ◌∙◌, sym}
use Rattle.rand_core.specs.Pcg32Seed.{pcg32_seed}
use Rattle.rand_pcg.specs.Lcg.{Lcg, next_state, state_after}
use Rattle.rand_pcg.specs.Pcg.{multiplier_64, pcg32, pcg32_of_seed}
use Rattle.rand_pcg.proofs.LcgLemmas.{advance_zero}
use Rattle.gs_gen.specs.declared.draws.Draws.{Draws}
use Rattle.gs_gen.specs.Draws.{after_three, drawn, draws_of, next_three, output_of}

-- the words of three steps, one after another, and the generator that they leave
abbrev pub words_of : (Lcg → ℕ × Lcg) → Lcg → Draws
words_of step g = record { drift = (step g).0; gap = (step (step g).1).0; delay = (step (step (step g).1).1).0 }

abbrev pub left_by : (Lcg → ℕ × Lcg) → Lcg → Lcg
left_by step g = (step (step (step g).1).1).1

-- three words that were asked for
pub three_words : (step : Lcg → ℕ × Lcg) (g g1 g2 g3 : Lcg) (a b c : ℕ)
    → (a, g1) ≡ step g → (b, g2) ≡ step g1 → (c, g3) ≡ step g2
    → (record { drift = a; gap = b; delay = c } ≡ words_of step g) × (g3 ≡ left_by step g)
three_words step g g1 g2 g3 a b c first second third =
    let one : g1 ≡ (step g).1 = ap (λ (p : ℕ × Lcg). p.1) first in
    let two : g2 ≡ (step (step g).1).1 = ap (λ (p : ℕ × Lcg). p.1) second ∙ ap (λ (h : Lcg). (step h).1) one in
    let a_is : a ≡ (step g).0 = ap (λ (p : ℕ × Lcg). p.0) first in
    let b_is : b ≡ (step (step g).1).0 = ap (λ (p : ℕ × Lcg). p.0) second ∙ ap (λ (h : Lcg). (step h).0) one in
    let c_is : c ≡ (step (step (step g).1).1).0 =
    ap (λ (p : ℕ × Lcg). p.0) third ∙ ap (λ (h : Lcg). (step h).0) two in
    let left : g3 ≡ left_by step g = ap (λ (p : ℕ × Lcg). p.1) third ∙ ap (λ (h : Lcg). (step h).1) two in
    (rw (a_is, b_is, c_is) refl, left)

-- the same along a row of generators, each of which a step leads to the next
along : (step : Lcg → ℕ × Lcg) (row : ℕ → Lcg) (n : ℕ) → ((k : ℕ) → (step (row k)).1 ≡ row (suc k))
    → (words_of step (row n)
    ≡ record { drift = (step (row n)).0; gap = (step (row (n + 1))).0; delay = (step (row (n + 2))).0 })
    × (left_by step (row n) ≡ row (n + 3))
along step row n leads =
    let one : n + 1 ≡ suc n = omega arith in
    let two : n + 2 ≡ suc (suc n) = omega arith in
    let three : n + 3 ≡ suc (suc (suc n)) = omega arith in
    let first : (step (row n)).1 ≡ row (n + 1) = leads n ∙ ap row (sym one) in
    let second : (step (step (row n)).1).1 ≡ row (n + 2) =
    ap (λ (h : Lcg). (step h).1) (leads n) ∙ leads (suc n) ∙ ap row (sym two) in
    let third : left_by step (row n) ≡ row (n + 3) =
    ap (λ (h : Lcg). (step h).1) second ∙ ap (λ (k : ℕ). (step (row k)).1) two ∙ leads (suc (suc n)) ∙ ap row (sym three) in (
      ap (λ (h : Lcg). record { drift = (step (row n)).0; gap = (step h).0; delay = (step (step h).1).0 }) first
          ∙ ap (λ (h : Lcg). record { drift = (step (row n)).0; gap = (step (row (n + 1))).0; delay = (step h).0 })
          (ap (λ (h : Lcg). (step h).1) (sym first) ∙ second),
      third,
    )

-- a step after n steps is a step before them
step_after : (w m i n s : ℕ) → next_state w m i (state_after w m i n s) ≡ state_after w m i (suc n) s
unfolding state_after
step_after w m i zero s = refl
step_after w m i (suc n) s = step_after w m i n (next_state w m i s)

-- of a new generator nothing is drawn
pub drawn_none : (number : ℕ) → pcg32_of_seed (pcg32_seed 16 number) ≡ drawn number 0
unfolding drawn
drawn_none number = sym (advance_zero 64 multiplier_64 (pcg32_of_seed (pcg32_seed 16 number)))

-- one output more
drawn_one : (number n : ℕ) → (pcg32 (drawn number n)).1 ≡ drawn number (suc n)
unfolding drawn
drawn_one number n =
    let g = pcg32_of_seed (pcg32_seed 16 number) in
    ap (λ (s : ℕ). record g { state = s }) (step_after 64 multiplier_64 g.increment n g.state)

-- what node v draws, where each node before it drew three
pub node_draws : (number v : ℕ) → next_three (drawn number (3 * v)) ≡ draws_of number v
unfolding next_three output_of
node_draws number v = (along pcg32 (drawn number) (3 * v) (drawn_one number)).0

-- and what it leaves
pub node_leaves : (number v : ℕ) → after_three (drawn number (3 * v)) ≡ drawn number (3 * (v + 1))
unfolding after_three
node_leaves number v =
    let more : 3 * v + 3 ≡ 3 * (v + 1) = omega arith in
    (along pcg32 (drawn number) (3 * v) (drawn_one number)).1 ∙ ap (drawn number) more
