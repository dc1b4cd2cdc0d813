-- The times of a plan, one level after another.
use Rattle.std.proofs.Common.{◌≡◌, ℕ, suc, ◌+◌, ◌++◌, ◌∷◌, [], ◌∙◌, ap, arith, sym, List, map}
use Rattle.std.specs.Int.{div_ceil}
use Rattle.std.specs.List.{range_with_len}
use Rattle.gs_units.specs.Rates.{q_of}
use Rattle.gs_topo.proofs.Building.{map_range_more}
use Rattle.gs_plan.specs.Bounds.{level_in}
use Rattle.gs_plan.specs.Plans.{graph_of, rate_of, text_of}
use Rattle.gs_plan.specs.declared.plan.Plan.{Plan}
use Rattle.gs_run.specs.Net.{Net, level_of}
use Rattle.gs_run.specs.Nets.{net_of}
use Rattle.gs_run.proofs.PlanNumbers.{level_is}
use Rattle.gs_settle.specs.Times.{level_time}

-- the time of the next level
pub next_at : (p : Plan) (gamma s at add g q : ℕ) → at ≡ level_time (net_of p) gamma s → g ≡ level_in (text_of p) (graph_of p) s
    → q ≡ q_of (rate_of p) → add ≡ div_ceil g q → at + add ≡ level_time (net_of p) gamma (s + 1)
next_at p gamma s at add g q at_is g_is q_is add_is =
    let net : Net = net_of p in
    let e : s + 1 ≡ suc s = omega arith in
    let level : g ≡ level_of net s = g_is ∙ sym (level_is (text_of p) (graph_of p) (rate_of p) s p.rates) in
    let more : add ≡ div_ceil (level_of net s) (q_of (rate_of p)) =
    add_is ∙ ap (λ (x : ℕ). div_ceil x q) level ∙ ap (λ (x : ℕ). div_ceil (level_of net s) x) q_is in
    rw e (ap (λ (x : ℕ). x + add) at_is ∙ ap (λ (x : ℕ). level_time net gamma s + x) more)

-- one time more
pub times_more : (f : ℕ → ℕ) (m x : ℕ) (old new : List ℕ) → old ≡ map f (range_with_len 0 m) → x ≡ f m → new ≡ old ++ x ∷ []
    → new ≡ map f (range_with_len 0 (m + 1))
times_more f m x old new old_is x_is new_is =
    new_is ∙ ap (λ (l : List ℕ). l ++ x ∷ []) old_is ∙ ap (λ (y : ℕ). map f (range_with_len 0 m) ++ y ∷ []) x_is ∙ sym (map_range_more f m)
