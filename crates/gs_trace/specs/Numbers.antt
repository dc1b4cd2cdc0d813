-- Numbers of one size that stand one behind the other.
use Rattle.std.specs.Prelude.{ℕ, zero, suc, List, [], ◌∷◌, drop}
use Rattle.std.specs.List.{flat_map}
use Rattle.byteorder.specs.Endian.{big_bytes}
use Rattle.gs_beacon.specs.Numbers.{number_at}

-- the bytes of numbers of `size` bytes each
abbrev pub spelled : ℕ → List ℕ → List ℕ
spelled size numbers = flat_map (big_bytes size) numbers

-- the first numbers of `size` bytes each, so many of them
abbrev pub numbers_at : ℕ → ℕ → List ℕ → List ℕ
numbers_at size zero bytes = []
numbers_at size (suc count) bytes = number_at 0 size bytes ∷ numbers_at size count (drop size bytes)
