-- What a tally knows of the rows so far.
use Rattle.std.specs.Prelude.{◌≡◌, ℕ, ◌<◌, ◌≤◌, List, length}
use Rattle.gs_topo.specs.Graph.{Graph}
use Rattle.gs_level.specs.declared.tally.Tally.{Tally}
use Rattle.gs_level.specs.Reports.{first_edge, first_place}
use Rattle.gs_skew.specs.Skews.{global_skew, greatest_over, neighbour_skew}

-- the tally of these rows
abbrev pub tally_of : Graph → List (List ℕ) → Tally
tally_of g rows = record {
  rows = length rows;
  global = greatest_over global_skew rows;
  global_at = first_place global_skew rows;
  near = greatest_over (neighbour_skew g.edges) rows;
  near_at = first_place (neighbour_skew g.edges) rows;
  near_edge = first_edge g.edges rows;
}

-- the number of rows so far
abbrev pub rows_in : Tally → ℕ
rows_in tally = tally.rows

-- the greatest skews so far
abbrev pub global_in : Tally → ℕ
global_in tally = tally.global

abbrev pub near_in : Tally → ℕ
near_in tally = tally.near

-- A skew was seen as this: a bound of it, and the skew itself where it is above what is kept.
pub record IsSeenAs (kept skew seen : ℕ) : Type 0 where
  pub bound : skew ≤ seen
  pub exact : kept < seen → seen ≡ skew
