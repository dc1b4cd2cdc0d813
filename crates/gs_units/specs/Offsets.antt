-- How far the clocks of two nodes may be apart.
use Rattle.std.specs.Prelude.{ℤ, pos, neg_ℤ, ◌≤ℤ◌, ◌^◌}

-- what the offsets of clocks and readings below 2^62 stay within
abbrev pub IsOffset : ℤ → Type 0
IsOffset x = (neg_ℤ (pos (2 ^ 64)) ≤ℤ x) × (x ≤ℤ pos (2 ^ 64))
