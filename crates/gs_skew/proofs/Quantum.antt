-- What one quantum does to how far a node is led, and to how far the others lag.
use Rattle.std.proofs.Common.{◌≡◌, ◌≢◌, ℕ, ◌+◌, ◌<◌, ◌≤◌, inl, inr, arith, ap, sym, ◌∙◌}
use Rattle.std.proofs.lemmas.Bool.{cases_lt}
use Rattle.gs_topo.specs.Weights.{Weighs}
use Rattle.gs_skew.specs.Conditions.{MeetsSlowCondition, MeetsFastCondition}
use Rattle.gs_skew.proofs.Extremes.{greatest_below}

-- no node is ahead of v by more than its weight and x
abbrev pub Leads : ℕ → (ℕ → ℕ → ℕ) → (ℕ → ℕ) → ℕ → ℕ → Type 0
Leads n weight clock v x = (w : ℕ) → w < n → clock w ≤ clock v + weight v w + x

-- each node has reached c, but for its weight to w and x
abbrev pub Reaches : ℕ → (ℕ → ℕ → ℕ) → (ℕ → ℕ) → ℕ → ℕ → ℕ → Type 0
Reaches n weight clock w c x = (u : ℕ) → u < n → c ≤ clock u + weight w u + x

-- the node that is farthest ahead of v is in the slow condition
farthest_is_ahead : (n : ℕ) (adj : ℕ → ℕ → Type 0) (k weight : ℕ → ℕ → ℕ) (clock : ℕ → ℕ) (v w : ℕ) → Weighs n adj k weight → v < n → w < n
    → ((u : ℕ) → u < n → clock u + weight v w ≤ clock w + weight v u) → v ≢ w → MeetsSlowCondition n adj k clock w
farthest_is_ahead n adj k weight clock v w weighs hv hw most other =
    let t = weighs.towards v w hv hw other in
    record {
      some = (t.0, t.1, t.2, let m = most t.0 t.1 in omega (arith, m, t.3));
      each = λ y hy next. let m = most y hy in let near = weighs.near v w y hv hw hy next in omega (arith, m, near);
    }

-- in one quantum the lead over v grows by at most hi less the growth of v
pub lead_grows : (n : ℕ) (adj : ℕ → ℕ → Type 0) (k weight : ℕ → ℕ → ℕ) (old new : ℕ → ℕ) (hi v x y : ℕ) → Weighs n adj k weight → v < n
    → ((w : ℕ) → w < n → MeetsSlowCondition n adj k new w → new w ≤ old w + hi)
    → Leads n weight old v x → x + hi + old v ≤ y + new v → Leads n weight new v y
lead_grows n adj k weight old new hi v x y weighs hv slow leads room u hu =
    let best = greatest_below n new (λ z. weight v z) (omega arith) in
    let w : ℕ = best.0 in
    let most = best.2 u hu in
    let at_most : new w ≤ new v + weight v w + y =
    elim (cases_lt (new v + weight v w) (new w)) [
      | inl high ↦
          let other : v ≢ w = λ e. let z : weight v w ≡ 0 = ap (weight v) (sym e) ∙ weighs.itself v hv in let same : new v ≡ new w = ap new e in omega (arith, z, same, high) in
          let grown = slow w best.1 (farthest_is_ahead n adj k weight new v w weighs hv best.1 best.2 other) in
          let before = leads w best.1 in
          omega (arith, grown, before, room)
      | inr low ↦ omega arith
    ] in
    omega (arith, most, at_most)

-- the node that lags most behind w is in the fast condition
slowest_is_behind : (n : ℕ) (adj : ℕ → ℕ → Type 0) (k weight : ℕ → ℕ → ℕ) (clock : ℕ → ℕ) (w u : ℕ) → Weighs n adj k weight → w < n → u < n
    → ((z : ℕ) → z < n → clock u + weight w u ≤ clock z + weight w z) → w ≢ u → MeetsFastCondition n adj k clock u
slowest_is_behind n adj k weight clock w u weighs hw hu least other =
    let t = weighs.towards w u hw hu other in
    record {
      some = (t.0, t.1, t.2, let m = least t.0 t.1 in omega (arith, m, t.3));
      each = λ y hy next. let m = least y hy in let near = weighs.near w u y hw hu hy next in omega (arith, m, near);
    }

-- in one quantum what is missing falls by q, down to nothing
pub reach_grows : (n : ℕ) (adj : ℕ → ℕ → Type 0) (k weight : ℕ → ℕ → ℕ) (old new : ℕ → ℕ) (lo q w c x y : ℕ) → Weighs n adj k weight → w < n
    → ((u : ℕ) → u < n → old u + lo ≤ new u)
    → ((u : ℕ) → u < n → MeetsFastCondition n adj k new u → old u + lo + q ≤ new u)
    → c ≤ old w → Reaches n weight old w c x → x ≤ y + q → Reaches n weight new w (c + lo) y
reach_grows n adj k weight old new lo q w c x y weighs hw grows fast reached reaches room u hu =
    let best = greatest_below n (λ z. 0) (λ z. new z + weight w z) (omega arith) in
    let z : ℕ = best.0 in
    let least : (i : ℕ) → i < n → new z + weight w z ≤ new i + weight w i = λ i hi. let b = best.2 i hi in omega (arith, b) in
    let at_least : c + lo ≤ new z + weight w z + y =
    elim (cases_lt (new z + weight w z) (c + lo)) [
      | inl missing ↦
          let other : w ≢ z = λ e. let grown = grows w hw in let same : new w ≡ new z = ap new e in omega (arith, grown, same, missing, reached) in
          let grown = fast z best.1 (slowest_is_behind n adj k weight new w z weighs hw best.1 least other) in
          let before = reaches z best.1 in
          omega (arith, grown, before, room)
      | inr there ↦ omega arith
    ] in
    let l = least u hu in
    omega (arith, l, at_least)
