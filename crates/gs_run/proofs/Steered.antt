-- How the clocks of a history grow.
use Rattle.std.proofs.Common.{ℕ, suc, ◌+◌, ◌<◌, ◌≤◌, arith}
use Rattle.gs_run.specs.Net.{Net}
use Rattle.gs_run.proofs.History.{IsHistory, Steers}
use Rattle.gs_run.proofs.Rows.{Grows, SteersBy, steers_by, since_least}

-- readings grow
reading_grows : (net : Net) (last : ℕ) (row reading most : ℕ → ℕ → ℕ) → IsHistory net last row reading most → (v t : ℕ) → v < net.nodes → t < last
    → reading t v + net.rate.lo ≤ reading (suc t) v
reading_grows net last row reading most h v t hv ht = let r = h.readings t v ht hv in omega (arith, r.1.0, r.2)

-- and never fall
pub reading_since : (net : Net) (last : ℕ) (row reading most : ℕ → ℕ → ℕ) → IsHistory net last row reading most → (v s t : ℕ) → v < net.nodes → s ≤ t
    → t ≤ last → reading s v ≤ reading t v
reading_since net last row reading most h v s t hv le inside =
    let g = since_least (λ z. reading z v) last net.rate.lo s t (λ z hz. reading_grows net last row reading most h v z hv hz) le inside in
    omega (arith, g)

-- what one quantum adds to a clock, by the mode of the decision that it uses
pub steered : (net : Net) (last : ℕ) (row reading most : ℕ → ℕ → ℕ) → IsHistory net last row reading most → (t v : ℕ) → t < last → v < net.nodes
    → (s : Steers net row reading most t v) → SteersBy net s.mode (row t v) (row (suc t) v)
steered net last row reading most h t v ht hv s =
    let r = h.readings t v ht hv in
    let le = reading_since net last row reading most h v s.when t hv s.before (omega arith) in
    rw (← s.from, ← s.to) at (steers_by net s.mode (row s.when v) (reading s.when v) (reading t v) (reading (suc t) v) r.0 r.1 le r.2)

-- so readings and clocks grow
pub history_grows : (net : Net) (last : ℕ) (row reading most : ℕ → ℕ → ℕ) → IsHistory net last row reading most → Grows net last row reading
history_grows net last row reading most h = record {
  reading_least = λ v t hv ht. reading_grows net last row reading most h v t hv ht;
  reading_most = λ v t hv ht. let r = h.readings t v ht hv in omega (arith, r.1.1, r.2);
  row_least = λ v t hv ht. (steered net last row reading most h t v ht hv (h.steers t v ht hv)).least;
  row_most = λ v t hv ht. (steered net last row reading most h t v ht hv (h.steers t v ht hv)).most;
}
