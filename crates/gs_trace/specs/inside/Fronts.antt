-- A whole event in front of bytes: for private functions alone.
use Rattle.std.specs.Prelude.{◌≡◌, ℕ, ◌≤◌, List, length, slice_index, Some, false}
use Rattle.gs_trace.specs.Formats.{Format}

-- bytes begin with a whole event of this format, which is not refused
pub record BeginsWhole {E : Type 0} (f : Format E) (bytes : List ℕ) : Type 0 where
  pub size : ℕ
  pub kind : f.size (slice_index bytes 0) ≡ Some size
  pub inside : size ≤ length bytes
  pub allowed : f.refused bytes ≡ false
