-- What the nodes of a generated network draw: each in turn the next three outputs of one generator.
use Rattle.std.specs.Prelude.{ℕ, ◌+◌, ◌*◌}
use Rattle.rand_core.specs.Pcg32Seed.{pcg32_seed}
use Rattle.rand_pcg.specs.Lcg.{Lcg, advance}
use Rattle.rand_pcg.specs.Pcg.{multiplier_64, pcg32, pcg32_of_seed}
use Rattle.gs_gen.specs.declared.draws.Draws.{Draws}

-- the generator that a number seeds, after its first i outputs
unfoldable pub drawn : ℕ → ℕ → Lcg
drawn number i = advance 64 multiplier_64 i (pcg32_of_seed (pcg32_seed 16 number))

-- the output that comes next
unfoldable pub output_of : ℕ → ℕ → ℕ
output_of number i = (pcg32 (drawn number i)).0

-- the draws of node v, before whom each node drew three
abbrev pub draws_of : ℕ → ℕ → Draws
draws_of number v = record {
  drift = output_of number (3 * v);
  gap = output_of number (3 * v + 1);
  delay = output_of number (3 * v + 2);
}

-- the next three outputs of a generator, and the generator after them; these serve a private function
unfoldable pub next_three : Lcg → Draws
next_three g = record { drift = (pcg32 g).0; gap = (pcg32 (pcg32 g).1).0; delay = (pcg32 (pcg32 (pcg32 g).1).1).0 }

unfoldable pub after_three : Lcg → Lcg
after_three g = (pcg32 (pcg32 (pcg32 g).1).1).1
