-- Bounds of all pairs of clocks, as bounds of skews and potentials and back.
use Rattle.std.proofs.Common.{ℕ, ◌+◌, ◌*◌, ◌<◌, ◌≤◌, arith, List, length, slice_index}
use Rattle.gs_skew.specs.Skews.{lead, beyond, global_skew, skew_between, potential}
use Rattle.gs_skew.proofs.Greatest.{pair_at_most, pairs_within}

-- clocks that all stay within b of each other have a global skew of at most b
pub global_skew_within : (clocks : List ℕ) (b : ℕ)
    → ((v w : ℕ) → v < length clocks → w < length clocks → slice_index clocks w ≤ slice_index clocks v + b) → global_skew clocks ≤ b
global_skew_within clocks b each = pairs_within (λ p. lead clocks p.0 p.1) (length clocks) b (λ v w hv hw. let h = each v w hv hw in omega (arith, h))

-- and the other way round
pub within_global_skew : (clocks : List ℕ) (v w : ℕ) → v < length clocks → w < length clocks
    → slice_index clocks w ≤ slice_index clocks v + global_skew clocks
within_global_skew clocks v w hv hw = let most = pair_at_most (λ p. lead clocks p.0 p.1) (length clocks) v w hv hw in omega (arith, most)

-- clocks that are ahead by at most 2s times a weight and b have a potential of at most b
pub potential_within : (weight : ℕ → ℕ → ℕ) (clocks : List ℕ) (s b : ℕ)
    → ((v w : ℕ) → v < length clocks → w < length clocks → slice_index clocks w ≤ slice_index clocks v + 2 * s * weight v w + b)
    → potential weight clocks s ≤ b
potential_within weight clocks s b each = pairs_within (λ p. beyond weight clocks s p.0 p.1) (length clocks) b (λ v w hv hw. let h = each v w hv hw in omega (arith, h))

-- and the other way round
pub within_potential : (weight : ℕ → ℕ → ℕ) (clocks : List ℕ) (s v w : ℕ) → v < length clocks → w < length clocks
    → slice_index clocks w ≤ slice_index clocks v + 2 * s * weight v w + potential weight clocks s
within_potential weight clocks s v w hv hw = let most = pair_at_most (λ p. beyond weight clocks s p.0 p.1) (length clocks) v w hv hw in omega (arith, most)

-- two clocks that are within b of each other both ways differ by at most b
pub skew_between_within : (clocks : List ℕ) (v w b : ℕ) → slice_index clocks w ≤ slice_index clocks v + b
    → slice_index clocks v ≤ slice_index clocks w + b → skew_between clocks v w ≤ b
skew_between_within clocks v w b ahead behind = omega (arith, ahead, behind)
