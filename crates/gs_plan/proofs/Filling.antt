-- One number more of a range, for the loops that make the edges of shapes, and the room in a grid.
use Rattle.std.proofs.Common.{◌≡◌, ℕ, ◌+◌, ◌-◌, ◌*◌, ◌<◌, ◌≤◌, arith, refl, List, [], ◌∷◌, ◌++◌, append_assoc, map}
use Rattle.std.proofs.Math.Nat.{mul-le-mul_right, add-mul}
use Rattle.std.specs.List.{flat_map, range_with_len}
use Rattle.gs_topo.proofs.Building.{flat_range_more, map_range_more}

-- an item more behind what was there before
pub map_range_push : {Y : Type 0} (f : ℕ → Y) (before : List Y) (n : ℕ) → before ++ map f (range_with_len 0 (n + 1)) ≡ before ++ map f (range_with_len 0 n) ++ f n ∷ []
map_range_push f before n = rw (map_range_more f n, append_assoc) refl

-- a row more behind what was there before
pub flat_range_push : {Y : Type 0} (f : ℕ → List Y) (before : List Y) (n : ℕ) → before ++ flat_map f (range_with_len 0 (n + 1)) ≡ before ++ flat_map f (range_with_len 0 n) ++ f n
flat_range_push f before n = rw (flat_range_more f n, append_assoc) refl

-- a row of a grid ends before the grid does
pub row_fits : (rows cols row most : ℕ) → row < rows → rows * cols ≤ most → row * cols + cols ≤ most
row_fits rows cols row most h room =
    let more : (row + 1) * cols ≤ rows * cols = mul-le-mul_right cols (omega arith) in
    omega (arith, more, room, add-mul row 1 cols)

-- and one that is not the last ends before the last one does
pub two_rows_fit : (rows cols row most : ℕ) → row < rows - 1 → rows * cols ≤ most → row * cols + cols + cols ≤ most
two_rows_fit rows cols row most h room =
    let more : (row + 2) * cols ≤ rows * cols = mul-le-mul_right cols (omega arith) in
    omega (arith, more, room, add-mul row 2 cols)

pub ruleset filling = (map_range_more, map_range_push)

pub ruleset rows = (flat_range_push, row_fits, two_rows_fit)
