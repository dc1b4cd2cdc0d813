-- Which numbers a rate may have.
use Rattle.std.specs.Prelude.{ℕ, ◌<◌, ◌≤◌, ◌^◌}

-- the numbers that a rate may have
pub record IsRate (lo hi mu : ℕ) : Type 0 where
  pub low : 1 ≤ lo
  pub above : lo < hi
  pub high : hi ≤ 2 ^ 30
  pub some_boost : 1 ≤ mu
  pub boost : mu ≤ 100000
