-- What a decision saw, and what its triggers say of the clocks at the end of a quantum that uses it.
use Rattle.std.proofs.Common.{◌≡◌, ℕ, suc, ◌+◌, ◌-◌, ◌*◌, ◌<◌, ◌≤◌, arith, sym, pos, neg_ℤ, ◌≤ℤ◌, ◌-ℤ◌, List, length, slice_index_or, All, Any, subst}
use Rattle.std.proofs.lemmas.Int.{ints}
use Rattle.std.proofs.lemmas.List.Elements.{Contains-get_or}
use Rattle.gs_trigger.specs.Triggers.{Sight, HaveMargins}
use Rattle.gs_trigger.specs.Triggers.{odd_level, even_level, FastAt, SlowAt, IsFarAhead, IsNotTooFarBehind, IsFarBehind, IsNotTooFarAhead}
use Rattle.gs_trigger.proofs.Apart.{not_fast_in_front, not_slow_at_the_back}
use Rattle.gs_skew.specs.Conditions.{MeetsSlowCondition, MeetsFastCondition}
use Rattle.gs_run.specs.Net.{Net, Adjacent, neighbours, neighbour, link_of, delta_of}
use Rattle.gs_run.specs.Accepted.{AreNumbers}
use Rattle.gs_run.proofs.History.{Steers, Sees, IsEqual}
use Rattle.gs_run.proofs.Places.{place_of_neighbour, neighbour_is_node, neighbour_is_next}
use Rattle.gs_run.proofs.Rows.{Grows}
use Rattle.gs_run.proofs.Estimates.{IsWithin, estimate_is_close, within_budget}

-- the offset of an estimate e to the clock l
ahead_by : (c d e l : ℕ) → l + c ≤ e + d → (pos c -ℤ pos d) ≤ℤ (pos e -ℤ pos l)
ahead_by c d e l h = omega (arith, ints, h)

not_behind : (c e l : ℕ) → l ≤ e + c → neg_ℤ (pos c) ≤ℤ (pos e -ℤ pos l)
not_behind c e l h = omega (arith, ints, h)

behind_by : (c d e l : ℕ) → e + c ≤ l + d → (pos e -ℤ pos l) ≤ℤ (pos d -ℤ pos c)
behind_by c d e l h = omega (arith, ints, h)

pub not_ahead : (c e l : ℕ) → e ≤ l + c → (pos e -ℤ pos l) ≤ℤ pos c
not_ahead c e l h = omega (arith, ints, h)

-- ---- what a decision saw, against the clocks at the end of the quantum that uses it

-- v saw x by this estimate, which is within the budget
pub record IsSeen (net : Net) (new : ℕ → ℕ) (v x l : ℕ) (sight : Sight) : Type 0 where
  pub estimate : ℕ
  pub is : sight ≡ (link_of net v x, pos estimate -ℤ pos l)
  pub within : IsWithin (delta_of net v x) l estimate (new v) (new x)

-- all that v decided by is within the budget
pub record AreSeen (net : Net) (new : ℕ → ℕ) (v l : ℕ) (sights : List Sight) : Type 0 where
  pub count : length sights ≡ length (neighbours net v)
  pub each : (i : ℕ) (d : Sight) → i < length (neighbours net v) → IsSeen net new v (neighbour net v i) l (slice_index_or sights i d)

-- what a decision saw is within the budget, where entries of the start were made from equal clocks
pub sights_are_seen : (net : Net) (last : ℕ) (row reading : ℕ → ℕ → ℕ) → Grows net last row reading → (t v when : ℕ) (sights : List Sight) → t < last
    → v < net.nodes
    → (when ≤ net.age → (x : ℕ) → x < net.nodes → row 0 v ≡ row 0 x) → when ≤ t → t < when + net.tick → length sights ≡ length (neighbours net v)
    → ((i : ℕ) (d : Sight) → i < length (neighbours net v) → Sees net row reading v (neighbour net v i) when (slice_index_or sights i d))
    → AreSeen net (row (suc t)) v (row when v) sights
sights_are_seen net last row reading grows t v when sights ht hv fair before recent count sees = record {
  count = count;
  each = λ i d hi.
      let x : ℕ = neighbour net v i in
      let hx = neighbour_is_node net v i hi in
      let one = sees i d hi in
      let close = estimate_is_close net last row reading v x when one.estimate grows hv hx (omega (arith, before, ht)) (λ early. fair early x hx) one.told in
      record {
        estimate = one.estimate;
        is = one.is;
        within = within_budget net last row reading v x when t one.estimate grows hv hx ht before recent close;
      };
}

-- so is each decision of a history from equal clocks
pub decision_is_seen : (net : Net) (last : ℕ) (row reading most : ℕ → ℕ → ℕ) → Grows net last row reading → (t v : ℕ) → t < last → v < net.nodes
    → IsEqual net row → (s : Steers net row reading most t v) → AreSeen net (row (suc t)) v (row s.when v) s.sights
decision_is_seen net last row reading most grows t v ht hv equal s =
    sights_are_seen net last row reading grows t v s.when s.sights ht hv (λ early x hx. equal v x hv hx) s.before s.recent s.count s.sees

-- ---- from the clocks to the triggers

-- what holds of each neighbour's sight holds of all
all_seen : (net : Net) (new : ℕ → ℕ) (v l : ℕ) (sights : List Sight) (P : Sight → Type 0) → AreSeen net new v l sights
    → ((x e : ℕ) → x < net.nodes → Adjacent net v x → IsWithin (delta_of net v x) l e (new v) (new x) → P (link_of net v x, pos e -ℤ pos l))
    → All P sights
all_seen net new v l sights P seen each i d hi =
    let place : i < length (neighbours net v) = rw seen.count at hi in
    let one = seen.each i d place in
    subst P (sym one.is) (each (neighbour net v i) one.estimate (neighbour_is_node net v i place) (neighbour_is_next net v i place) one.within)

-- what holds of one neighbour's sight holds of some
some_seen : (net : Net) (new : ℕ → ℕ) (v l x : ℕ) (sights : List Sight) (P : Sight → Type 0) → AreSeen net new v l sights → x < net.nodes
    → Adjacent net v x
    → ((e : ℕ) → IsWithin (delta_of net v x) l e (new v) (new x) → P (link_of net v x, pos e -ℤ pos l)) → Any P sights
some_seen net new v l x sights P seen hx next holds =
    let d : Sight = (link_of net v x, pos 0) in
    let place = place_of_neighbour net v x hx next in
    let one = seen.each place.0 d place.1 in
    let Q : ℕ → Type 0 = λ y. ((e : ℕ) → IsWithin (delta_of net v y) l e (new v) (new y) → P (link_of net v y, pos e -ℤ pos l)) in
    let here : Q (neighbour net v place.0) = subst Q (sym place.2) holds in
    let at = Contains-get_or sights place.0 d (rw seen.count place.1) in
    (at.0, slice_index_or sights place.0 d, at.1, at.2, subst P (sym one.is) (here one.estimate one.within))

-- links leave the margin that the triggers need
pub seen_have_margins : (net : Net) (new : ℕ → ℕ) (v l : ℕ) (sights : List Sight) → AreNumbers net → AreSeen net new v l sights → HaveMargins sights
seen_have_margins net new v l sights numbers seen =
    all_seen net new v l sights (λ x. 2 * x.0.delta < x.0.kappa) seen (λ x e hx next within. numbers.margin v x next)

-- a node in the fast condition decided by a fast trigger of that level
pub behind_is_fast : (net : Net) (new : ℕ → ℕ) (v l s : ℕ) (sights : List Sight) → AreSeen net new v l sights
    → MeetsFastCondition net.nodes (Adjacent net) (λ a b. (2 * s - 1) * net.kappa a b) new v → FastAt sights s
behind_is_fast net new v l s sights seen behind = (
  some_seen net new v l behind.some.0 sights (IsFarAhead s) seen behind.some.1 behind.some.2
      (λ e within. ahead_by (odd_level (net.kappa v behind.some.0) s) (delta_of net v behind.some.0) e l
      (omega (arith, within.least, behind.some.3))),
  all_seen net new v l sights (IsNotTooFarBehind s) seen
      (λ x e hx next within. let b = behind.each x hx next in not_behind (odd_level (net.kappa v x) s + delta_of net v x) e l (omega (arith, b, within.least))),
)

-- and one in the slow condition by a slow one
pub ahead_is_slow : (net : Net) (new : ℕ → ℕ) (v l s : ℕ) (sights : List Sight) → AreSeen net new v l sights
    → MeetsSlowCondition net.nodes (Adjacent net) (λ a b. 2 * s * net.kappa a b) new v → SlowAt sights s
ahead_is_slow net new v l s sights seen ahead = (
  some_seen net new v l ahead.some.0 sights (IsFarBehind s) seen ahead.some.1 ahead.some.2
      (λ e within. behind_by (even_level (net.kappa v ahead.some.0) s) (delta_of net v ahead.some.0) e l
      (omega (arith, within.most, ahead.some.3))),
  all_seen net new v l sights (IsNotTooFarAhead s) seen
      (λ x e hx next within. let b = ahead.each x hx next in not_ahead (even_level (net.kappa v x) s + delta_of net v x) e l (omega (arith, b, within.most))),
)

-- the greatest clock's decision had no fast trigger
pub greatest_not_fast : (net : Net) (new : ℕ → ℕ) (v l s : ℕ) (sights : List Sight) → AreNumbers net → AreSeen net new v l sights
    → ((x : ℕ) → x < net.nodes → new x ≤ new v) → 1 ≤ s → ¬ FastAt sights s
greatest_not_fast net new v l s sights numbers seen greatest one =
    not_fast_in_front sights s (seen_have_margins net new v l sights numbers seen) one
    (all_seen net new v l sights (λ y. y.1 ≤ℤ pos y.0.delta) seen
    (λ y e hy next within. let g = greatest y hy in not_ahead (delta_of net v y) e l (omega (arith, within.most, g))))

-- the least clock's decision had no slow trigger
pub least_not_slow : (net : Net) (new : ℕ → ℕ) (v l s : ℕ) (sights : List Sight) → AreNumbers net → AreSeen net new v l sights
    → ((x : ℕ) → x < net.nodes → new v ≤ new x) → 1 ≤ s → ¬ SlowAt sights s
least_not_slow net new v l s sights numbers seen least one =
    not_slow_at_the_back sights s (seen_have_margins net new v l sights numbers seen) one
    (all_seen net new v l sights (λ y. neg_ℤ (pos y.0.delta) ≤ℤ y.1) seen
    (λ y e hy next within. let g = least y hy in not_behind (delta_of net v y) e l (omega (arith, within.least, g))))
