-- How maxima run on by one more item: for private functions alone.
use Rattle.std.specs.Prelude.{ℕ, ◌+◌, ◌==◌, nat_lt, if◌then◌else◌, List, map}
use Rattle.std.specs.List.{find, range_with_len}
use Rattle.gs_topo.specs.Graph.{Graph}
use Rattle.gs_level.specs.declared.peak.Peak.{Peak}
use Rattle.gs_level.specs.declared.tally.Tally.{Tally}
use Rattle.gs_skew.specs.Skews.{beyond, edge_skew, global_skew, neighbour_skew}

-- a peak, or the excess of one more pair where that is greater
abbrev pub raised_to : Peak → ℕ → ℕ → ℕ → Peak
raised_to best value v w = if nat_lt best.value value then record { value = value; v = v; w = w } else best

-- the same with the excess of the pair at level s
unfoldable pub raised : (ℕ → ℕ → ℕ) → List ℕ → ℕ → Peak → ℕ × ℕ → Peak
raised weight clocks s best p = raised_to best (beyond weight clocks s p.0 p.1) p.0 p.1

-- the pairs of v, ascending
abbrev pub pairs_from : ℕ → ℕ → List (ℕ × ℕ)
pairs_from n v = map (λ w. (v, w)) (range_with_len 0 n)

-- a tally, with the global skew of one more row where it is greater
unfoldable pub raised_global : Tally → ℕ → Tally
raised_global tally skew =
    if nat_lt tally.global skew then record tally { global = skew; global_at = tally.rows } else tally

-- the same with the neighbour skew and its first edge
unfoldable pub raised_near : List (ℕ × ℕ) → Tally → List ℕ → Tally
raised_near edges tally clocks =
    if nat_lt tally.near (neighbour_skew edges clocks)
    then record tally {
      near = neighbour_skew edges clocks;
      near_at = tally.rows;
      near_edge = find (λ e. edge_skew clocks e == neighbour_skew edges clocks) edges;
    }
    else tally

-- a tally with one more row
unfoldable pub added : Graph → Tally → List ℕ → Tally
added g tally clocks =
    record (raised_near g.edges (raised_global tally (global_skew clocks)) clocks) { rows = tally.rows + 1 }
