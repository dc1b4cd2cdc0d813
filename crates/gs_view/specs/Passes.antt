-- What a reader knows.
use Rattle.std.specs.Prelude.{ℕ, List}
use Rattle.gs_units.specs.declared.rate.Rate.{Rate}
use Rattle.gs_view.specs.declared.snaps.Snap.{Snap}

-- the pass of a reader: how fast the clock may run, the snaps that it knows, and its last answer
pub record Pass : Type 0 where
  pub rate : Rate
  pub snaps : List Snap
  pub answer : ℕ
