-- Skews grow by no more than clocks move apart.
use Rattle.std.proofs.Common.{◌≡◌, ℕ, ◌+◌, ◌-◌, ◌<◌, ◌≤◌, ◌^◌, arith, Fits, w64, IsTrue, List, length, get_or, nat_eq, slice_index}
use Rattle.std.proofs.lemmas.Bool.{eqb-true}
use Rattle.gs_topo.specs.Graph.{Graph}
use Rattle.gs_topo.specs.Walks.{IsTopology}
use Rattle.gs_skew.specs.Skews.{edge_skew, global_skew, lead, neighbour_skew}
use Rattle.gs_skew.proofs.Greatest.{at_most_greatest, ends_have_clocks, greatest_at_most, near_within, pair_at_most, pairs_within}
use Rattle.gs_lookout.specs.Lookouts.{HasGrown}

pub global_grows : (by : ℕ) (old new : List ℕ) → HasGrown by old new → global_skew new ≤ global_skew old + by
global_grows by old new h =
    pairs_within (λ p. lead new p.0 p.1) (length new) (global_skew old + by) (λ v w hv hw.
    let places = h.places in
    let most : lead old v w ≤ global_skew old = pair_at_most (λ p. lead old p.0 p.1) (length old) v w (omega (arith, hv, places)) (omega (arith, hw, places)) in
    let apart = h.apart v w hv hw in
    omega (arith, most, apart))

pub near_grows : (g : Graph) (by : ℕ) (old new : List ℕ) → IsTopology g → length new ≡ g.nodes → HasGrown by old new
    → neighbour_skew g.edges new ≤ neighbour_skew g.edges old + by
near_grows g by old new graph count h =
    let ends = ends_have_clocks g new graph count in
    greatest_at_most (edge_skew new) g.edges (neighbour_skew g.edges old + by) (λ k d inside.
    let most = at_most_greatest (edge_skew old) g.edges k d inside in
    let e = get_or g.edges k d in
    let one = h.apart e.0 e.1 (ends.0 k d inside) (ends.1 k d inside) in
    let two = h.apart e.1 e.0 (ends.1 k d inside) (ends.0 k d inside) in
    omega (arith, most, one, two))

-- two clocks are not further apart than the furthest
pub within_global : (clocks : List ℕ) (v w d most : ℕ) → v < length clocks → w < length clocks → d ≡ lead clocks v w → IsTrue (nat_eq d most) → most ≤ global_skew clocks
within_global clocks v w d most hv hw is same =
    let skew = pair_at_most (λ p. lead clocks p.0 p.1) (length clocks) v w hv hw in
    let equal = eqb-true d most same in
    omega (arith, skew, is, equal)

-- nor the ends of an edge than the furthest neighbours
pub within_near : (edges : List (ℕ × ℕ)) (clocks : List ℕ) (k d most : ℕ) (e : ℕ × ℕ) → k < length edges → d ≡ edge_skew clocks (get_or edges k e) → IsTrue (nat_eq d most) → most ≤ neighbour_skew edges clocks
within_near edges clocks k d most e inside is same =
    let skew : edge_skew clocks (get_or edges k e) ≤ neighbour_skew edges clocks = at_most_greatest (edge_skew clocks) edges k e inside in
    let equal = eqb-true d most same in
    omega (arith, skew, is, equal)

-- the skew of numbers that fit is one that fits
pub skew_fits : (clocks : List ℕ) → ((v : ℕ) → Fits w64 (slice_index clocks v)) → global_skew clocks < 2 ^ 64
skew_fits clocks fit =
    let most : global_skew clocks ≤ 2 ^ 64 - 1 = pairs_within (λ p. lead clocks p.0 p.1) (length clocks) (2 ^ 64 - 1) (λ v w hv hw.
    let high = fit w in
    omega (arith, high)) in
    omega (arith, most)

-- neighbours are not further apart than the furthest
pub near_below : (g : Graph) (clocks : List ℕ) → IsTopology g → length clocks ≡ g.nodes → neighbour_skew g.edges clocks ≤ global_skew clocks
near_below g clocks graph count = let ends = ends_have_clocks g clocks graph count in near_within g.edges clocks ends.0 ends.1
