-- A count that never falls rose over two calls where it rose in one of them.
use Rattle.std.proofs.Common.{ℕ, ◌≤◌, inl, inr, arith}
use Rattle.std.proofs.lemmas.Bool.{cases_lt}
use Rattle.gs_io.specs.Causes.{Rose}

-- in the second
pub rose_from : (m k n : ℕ) → m ≤ k → Rose k n → Rose m n
rose_from m k n low (inl more) = inl (omega arith)
rose_from m k n low (inr last) = inr last

-- in the first
pub rose_up : (m k n : ℕ) → m ≤ k → Rose m k → k ≤ n → Rose m n
rose_up m k n low (inl more) le = inl (omega arith)
rose_up m k n low (inr last) le = elim (cases_lt m n) [ inl more ↦ inl more | inr less ↦ inr (omega arith) ]
