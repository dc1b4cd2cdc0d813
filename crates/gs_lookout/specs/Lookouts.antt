-- What is known of the rows of a play that were not all looked at.
use Rattle.std.specs.Prelude.{◌≡◌, ℕ, ◌+◌, ◌<◌, ◌≤◌, List, [], ◌∷◌, ◌++◌, length, slice_index}
use Rattle.gs_topo.specs.Graph.{Graph}
use Rattle.gs_level.specs.Tallies.{tally_of}
use Rattle.gs_lookout.specs.declared.lookout.Lookout.{Lookout}
use Rattle.gs_skew.specs.Skews.{global_skew, neighbour_skew}

-- From a row to the next no clock grows by more than `by` beyond the growth of another.
pub record HasGrown (by : ℕ) (old new : List ℕ) : Type 0 where
  pub places : length new ≡ length old
  pub apart : (v w : ℕ) → v < length new → w < length new
      → slice_index new w + slice_index old v ≤ slice_index new v + slice_index old w + by

-- The tally is that of these rows and the last, whose skews are bounded.
pub record IsLookout (g : Graph) (before : List (List ℕ)) (last : List ℕ) (lookout : Lookout) : Type 0 where
  pub tally : lookout.tally ≡ tally_of g (before ++ last ∷ [])
  pub places : length last ≡ g.nodes
  pub global : global_skew last ≤ lookout.ends.most
  pub near : neighbour_skew g.edges last ≤ lookout.link.most
