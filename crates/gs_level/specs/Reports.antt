-- What is reported of a play, over its rows of clocks: those at the start, then those at the end of each quantum.
use Rattle.std.specs.Prelude.{◌≡◌, ◌↔◌, ℕ, ◌+◌, ◌-◌, ◌==◌, List, [], Option, None, length, map, slice_index_or}
use Rattle.std.specs.List.{find, position_or_len, range_with_len}
use Rattle.gs_topo.specs.Graph.{Graph}
use Rattle.gs_planfile.specs.declared.text.PlanText.{PlanText}
use Rattle.gs_level.specs.declared.peak.Peak.{Peak}
use Rattle.gs_level.specs.declared.report.Report.{Report}
use Rattle.gs_level.specs.Peaks.{peak_of}
use Rattle.gs_skew.specs.Skews.{edge_skew, global_skew, greatest_over, neighbour_skew}
use Rattle.gs_plan.specs.Weights.{weight_in}

-- the place of the first row at which f is greatest
abbrev pub first_place : (List ℕ → ℕ) → List (List ℕ) → ℕ
first_place f rows = position_or_len (λ row. f row == greatest_over f rows) rows

-- the first edge with the greatest difference of all rows, in the first row that has it
abbrev pub first_edge : List (ℕ × ℕ) → List (List ℕ) → Option (ℕ × ℕ)
first_edge edges rows =
    find (λ e. edge_skew (slice_index_or rows (first_place (neighbour_skew edges) rows) []) e
    == greatest_over (neighbour_skew edges) rows) edges

-- there is such an edge exactly where there is an edge
abbrev pub EdgesAreNamed : Type 0
EdgesAreNamed = (edges : List (ℕ × ℕ)) (rows : List (List ℕ)) → (first_edge edges rows ≡ None) ↔ (edges ≡ [])

-- the clocks at the end
abbrev pub last_row : List (List ℕ) → List ℕ
last_row rows = slice_index_or rows (length rows - 1) []

-- the potentials of the levels 0 to `last` over a row
abbrev pub peaks_of : PlanText → Graph → List ℕ → ℕ → List Peak
peaks_of t g clocks last = map (peak_of (weight_in t g) clocks) (range_with_len 0 (last + 1))

-- The report of these rows, where nodes took `fast` quanta in fast mode in all.
abbrev pub report_of : PlanText → Graph → List (List ℕ) → ℕ → Report
report_of t g rows fast = record {
  quanta = length rows - 1;
  global = greatest_over global_skew rows;
  global_at = first_place global_skew rows;
  near = greatest_over (neighbour_skew g.edges) rows;
  near_at = first_place (neighbour_skew g.edges) rows;
  near_edge = first_edge g.edges rows;
  levels = peaks_of t g (last_row rows) t.levels;
  fast = fast;
}
