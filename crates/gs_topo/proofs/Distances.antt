-- Distances by walks, of graphs in which walks lead everywhere.
use Rattle.std.proofs.Common.{◌≡◌, ◌≢◌, ℕ, zero, suc, ◌+◌, ◌-◌, ◌<◌, ◌≤◌, ◌⊎◌, ◌&&◌, ◌==◌, inl, inr, arith, ap, sym, refl, ◌∙◌, List, [], ◌∷◌, ◌++◌, Bool, true, false, Some, None, ltb, cond}
use Rattle.std.specs.List.{find, range_with_len}
use Rattle.std.proofs.lemmas.Bool.{cases_eq, cases_lt, eqb-true, eq-eqb, and_parts, and_from, cases_Bool, false_from_ne_true, le-ltb, lt-ltb, or_cases, or_left, or_right}
use Rattle.std.proofs.lemmas.List.Elements.{All-contains}
use Rattle.gs_topo.specs.Graph.{Graph, adjacent, Adjacent, joins, joined}
use Rattle.gs_topo.specs.Walks.{IsWalk, length_of, IsLeast, one_each, has_walk, distance_of, reaches}
use Rattle.gs_topo.specs.Laws.{AreLeastSums, AreMetric}
use Rattle.gs_topo.proofs.Weighing.{least_sums_weigh}
use Rattle.gs_topo.proofs.Members.{Contains-range, range_below, list_any-from_member, member-from_list_any}
use Rattle.gs_topo.proofs.Walks.{walk_append, length_of-append, below_walks}

-- The first number that passes is what the search finds.
from_or_later : (from s : ℕ) → from ≤ s → (from ≡ s) ⊎ (from + 1 ≤ s)
from_or_later from s h = grind arith

pub found_first : (test : ℕ → Bool) (from n s : ℕ) → from ≤ s → s < from + n → test s ≡ true
    → ((t : ℕ) → from ≤ t → t < s → test t ≡ false) → find test (range_with_len from n) ≡ Some s
found_first test from zero s low high passes before = absurd (omega arith)
found_first test from (suc n) s low high passes before =
    elim (from_or_later from s low) [
      | inl same ↦ rw (same, passes)
      | inr later ↦ rw (before from (omega arith) (omega (arith, later))) (found_first test (from + 1) n s (omega arith) (omega arith) passes (λ t h g. before t (omega arith) g))
    ]

-- Nothing is found where nothing passes.
pub found_none : (test : ℕ → Bool) (from n : ℕ) → ((t : ℕ) → from ≤ t → t < from + n → test t ≡ false) → find test (range_with_len from n) ≡ None
found_none test from zero none = refl
found_none test from (suc n) none = rw (none from (omega arith) (omega arith)) (found_none test (from + 1) n (λ t h g. none t (omega arith) (omega arith)))

-- a test that some number passes has a least one
pub least_exists : (test : ℕ → Bool) (n : ℕ) → test n ≡ true → (m : ℕ) × (m ≤ n) × (test m ≡ true) × ((t : ℕ) → t < m → test t ≡ false)
least_exists test n passes = go n 0 (omega arith) (λ t h. absurd (omega arith))
  where
    go : (left from : ℕ) → from + left ≡ n → ((t : ℕ) → t < from → test t ≡ false) → (m : ℕ) × (m ≤ n) × (test m ≡ true) × ((t : ℕ) → t < m → test t ≡ false)
    go zero from sum before = (from, omega arith, (let e : from ≡ n = omega arith in rw e passes), before)
    go (suc left) from sum before = elim (cases_Bool (test from)) [
      | inl here ↦ (from, omega arith, here, before)
      | inr not_here ↦ go left (from + 1) (omega arith) (λ t h. elim (cases_eq t from) [
        | inl e ↦ rw e not_here
        | inr other ↦ before t (omega (arith, h, other))
      ])
    ]

-- a walk of so many steps is one
pub has_walk-from_walk : (g : Graph) (v w : ℕ) (xs : List ℕ) → IsWalk (Adjacent g) g.nodes v xs w → has_walk g (length_of one_each v xs) v w ≡ true
unfolding has_walk
has_walk-from_walk g v w [] walk = eq-eqb v w walk
has_walk-from_walk g v w (x ∷ xs) walk =
    let rest = has_walk-from_walk g x w xs walk.2 in
    let both : (adjacent g v x && has_walk g (length_of one_each x xs) x w) ≡ true = and_from (adjacent g v x) (has_walk g (length_of one_each x xs) x w) walk.0 rest in
    let e : 1 + length_of one_each x xs ≡ suc (length_of one_each x xs) = omega arith in
    rw e (list_any-from_member (λ y. adjacent g v y && has_walk g (length_of one_each x xs) y w) (range_with_len 0 g.nodes) x both (Contains-range 0 g.nodes x (omega arith) (let h = walk.1 in omega (arith, h))))

pub walk-from_has_walk : (g : Graph) (d v w : ℕ) → has_walk g d v w ≡ true → (xs : List ℕ) × IsWalk (Adjacent g) g.nodes v xs w × (length_of one_each v xs ≡ d)
unfolding has_walk
walk-from_has_walk g zero v w has = ([], eqb-true v w has, refl)
walk-from_has_walk g (suc d) v w has =
    let m = member-from_list_any (λ y. adjacent g v y && has_walk g d y w) (range_with_len 0 g.nodes) has in
    let both = and_parts (adjacent g v m.0) (has_walk g d m.0 w) m.2 in
    let rest = walk-from_has_walk g d m.0 w both.1 in
    let below = All-contains (λ x. (0 ≤ x) × (x < 0 + g.nodes)) (range_with_len 0 g.nodes) m.0 (range_below 0 g.nodes) m.1 in
    (m.0 ∷ rest.0, (both.0, omega (arith, below), rest.1), omega (arith, rest.2))

-- A function on n numbers that takes each value below m has m at most n.
over : ℕ → ℕ → ℕ
over x y = cond (ltb x y) 1 0

over_low : (x y : ℕ) → y ≤ x → over x y ≡ 0
unfolding over
over_low x y h = rw (le-ltb x y h)

over_high : (x y : ℕ) → x < y → over x y ≡ 1
unfolding over
over_high x y h = rw (lt-ltb x y h)

pub takes_all : (n m : ℕ) (f : ℕ → ℕ) → ((j : ℕ) → j < m → (v : ℕ) × (v < n) × (f v ≡ j)) → m ≤ n
takes_all zero zero f each = omega arith
takes_all zero (suc m) f each = let v = each m (omega arith) in absurd (omega (arith, v.1))
takes_all (suc n) zero f each = omega arith
takes_all (suc n) (suc m) f each =
    let less : m ≤ n = takes_all n m (λ v. f v - over (f n) (f v)) (λ j hj. elim (cases_lt j (f n)) [
      | inl low ↦ let v = each j (omega arith) in
          let other : v.0 ≢ n = λ e. let same : f v.0 ≡ f n = ap f e in omega (arith, same, v.2, low) in
          (v.0, (let h = v.1 in omega (arith, h, other)), (let o = over_low (f n) (f v.0) (omega (arith, v.2, low)) in omega (arith, o, v.2)))
      | inr high ↦ let v = each (suc j) (omega arith) in
          let other : v.0 ≢ n = λ e. let same : f v.0 ≡ f n = ap f e in omega (arith, same, v.2, high) in
          (v.0, (let h = v.1 in omega (arith, h, other)), (let o = over_high (f n) (f v.0) (omega (arith, v.2, high)) in omega (arith, o, v.2)))
    ]) in
    omega (arith, less)

-- levels that rise by at most 1 with each step of a walk take each value on the way
pub on_the_way : (adj : ℕ → ℕ → Type 0) (n : ℕ) (d : ℕ → ℕ) → ((u x : ℕ) → u < n → x < n → adj u x → d x ≤ d u + 1)
    → (v w j : ℕ) (xs : List ℕ) → v < n → IsWalk adj n v xs w → d v ≤ j → j ≤ d w → (u : ℕ) × (u < n) × (d u ≡ j)
on_the_way adj n d near v w j [] hv walk low high = let e : d v ≡ d w = ap d walk in (v, hv, omega (arith, e))
on_the_way adj n d near v w j (x ∷ xs) hv walk low high = elim (cases_eq (d v) j) [
  | inl here ↦ (v, hv, here)
  | inr later ↦ let step = near v x hv walk.1 walk.0 in on_the_way adj n d near x w j xs walk.1 walk.2 (omega (arith, step, later)) high
]

-- so levels from 0 stay below the number of nodes, wherever a walk leads
pub levels_below : (adj : ℕ → ℕ → Type 0) (n : ℕ) (d : ℕ → ℕ) → ((u x : ℕ) → u < n → x < n → adj u x → d x ≤ d u + 1)
    → (s w : ℕ) (xs : List ℕ) → s < n → IsWalk adj n s xs w → d s ≡ 0 → d w < n
levels_below adj n d near s w xs hs walk start =
    let all = takes_all n (d w + 1) d (λ j hj. on_the_way adj n d near s w j xs hs walk (omega arith) (omega arith)) in
    omega (arith, all)

-- an edge joins its ends both ways
joins-turned : (e : ℕ × ℕ) (v w : ℕ) → joins e v w ≡ true → joins e w v ≡ true
joins-turned e v w h = elim (or_cases ((e.0 == v) && (e.1 == w)) ((e.0 == w) && (e.1 == v)) h) [
  | inl there ↦ or_right ((e.0 == w) && (e.1 == v)) ((e.0 == v) && (e.1 == w)) there
  | inr back ↦ or_left ((e.0 == w) && (e.1 == v)) ((e.0 == v) && (e.1 == w)) back
]

pub joined-turned : (es : List (ℕ × ℕ)) (v w : ℕ) → joined es v w ≡ true → joined es w v ≡ true
joined-turned es v w h =
    let m = member-from_list_any (λ e. joins e v w) es h in
    list_any-from_member (λ e. joins e w v) es m.0 (joins-turned m.0 v w m.2) m.1

pub both_ways : (g : Graph) (v w : ℕ) → Adjacent g v w → Adjacent g w v
both_ways g v w h = joined-turned g.edges v w h

-- levels from a node, which rise by at most 1 with each step and are the steps of a walk, are the distances from it
pub record IsLevelled (g : Graph) (s : ℕ) (d : ℕ → ℕ) : Type 0 where
  pub start : d s ≡ 0
  pub near : (u x : ℕ) → u < g.nodes → x < g.nodes → Adjacent g u x → d x ≤ d u + 1

pub found_at : (g : Graph) (s w : ℕ) (d : ℕ → ℕ) → IsLevelled g s d → s < g.nodes → (xs : List ℕ) → IsWalk (Adjacent g) g.nodes s xs w → length_of one_each s xs ≡ d w
    → find (λ t. has_walk g t s w) (range_with_len 0 g.nodes) ≡ Some (d w)
found_at g s w d levels hs xs walk long =
    let below = levels_below (Adjacent g) g.nodes d levels.near s w xs hs walk levels.start in
    found_first (λ t. has_walk g t s w) 0 g.nodes (d w) (omega arith) (omega (arith, below))
    (let h = has_walk-from_walk g s w xs walk in rw long at h)
    (λ t from before. false_from_ne_true (has_walk g t s w) (λ has.
    let shorter = walk-from_has_walk g t s w has in
    let le = below_walks (Adjacent g) g.nodes one_each d levels.near s w shorter.0 hs shorter.1 in
    omega (arith, le, shorter.2, levels.start, before)))

pub distance_is : (g : Graph) (s w : ℕ) (d : ℕ → ℕ) → IsLevelled g s d → s < g.nodes → (xs : List ℕ) → IsWalk (Adjacent g) g.nodes s xs w → length_of one_each s xs ≡ d w → distance_of g s w ≡ d w
unfolding distance_of
distance_is g s w d levels hs xs walk long = rw (found_at g s w d levels hs xs walk long)

pub is_reached : (g : Graph) (s w : ℕ) (d : ℕ → ℕ) → IsLevelled g s d → s < g.nodes → (xs : List ℕ) → IsWalk (Adjacent g) g.nodes s xs w → length_of one_each s xs ≡ d w → reaches g s w ≡ true
unfolding reaches
is_reached g s w d levels hs xs walk long = rw (found_at g s w d levels hs xs walk long)

pub is_not_reached : (g : Graph) (s w : ℕ) → ((xs : List ℕ) → IsWalk (Adjacent g) g.nodes s xs w → g.nodes ≤ length_of one_each s xs) → reaches g s w ≡ false
unfolding reaches
is_not_reached g s w longer = rw (found_none (λ t. has_walk g t s w) 0 g.nodes (λ t from before. false_from_ne_true (has_walk g t s w) (λ has.
    let walk = walk-from_has_walk g t s w has in
    let le = longer walk.0 walk.1 in
    omega (arith, le, walk.2, before))))

-- walks lead from each node to each
abbrev pub IsConnected : Graph → Type 0
IsConnected g = (v w : ℕ) → v < g.nodes → w < g.nodes → (xs : List ℕ) × IsWalk (Adjacent g) g.nodes v xs w

-- the least number of steps, found by some walk
shortest : (g : Graph) (s w : ℕ) (xs : List ℕ) → IsWalk (Adjacent g) g.nodes s xs w → (d : ℕ) × IsLeast (Adjacent g) g.nodes one_each s w d
shortest g s w xs walk =
    let m = least_exists (λ t. has_walk g t s w) (length_of one_each s xs) (has_walk-from_walk g s w xs walk) in (
      m.0,
      record {
        some = walk-from_has_walk g m.0 s w m.2;
        each = λ ys other. elim (cases_lt (length_of one_each s ys) m.0) [
          | inl less ↦ let no = m.3 (length_of one_each s ys) less in let yes = has_walk-from_walk g s w ys other in let clash : true ≡ false = sym yes ∙ no in cc
          | inr le ↦ le
        ];
      },
    )

-- Distances are the least numbers of steps.
pub is_least : (g : Graph) → IsConnected g → (s w : ℕ) → s < g.nodes → w < g.nodes → IsLeast (Adjacent g) g.nodes one_each s w (distance_of g s w)
is_least g connected s w hs hw =
    let level : (x : ℕ) → (d : ℕ) × (x < g.nodes → IsLeast (Adjacent g) g.nodes one_each s x d) = λ x. elim (cases_lt x g.nodes) [
      | inl here ↦ let walk = connected s x hs here in let m = shortest g s x walk.0 walk.1 in (m.0, λ _. m.1)
      | inr past ↦ (0, λ h. absurd (omega (arith, h, past)))
    ] in
    let d : ℕ → ℕ = λ x. (level x).0 in
    let levels : IsLevelled g s d = record {
      start = let le = ((level s).1 hs).each [] refl in omega (arith, le);
      near = λ u x hu hx next.
          let there = ((level u).1 hu).some in
          let sum = length_of-append (Adjacent g) g.nodes one_each s u there.0 (x ∷ []) there.1 in
          let le = ((level x).1 hx).each (there.0 ++ x ∷ []) (walk_append (Adjacent g) g.nodes s u x there.0 (x ∷ []) there.1 (next, hx, refl)) in
          omega (arith, le, sum, there.2);
    } in
    let here = ((level w).1 hw).some in
    rw (distance_is g s w d levels hs here.0 here.1 here.2) ((level w).1 hw)

least_are_levels : (g : Graph) → IsConnected g → (s : ℕ) → s < g.nodes → IsLevelled g s (distance_of g s)
least_are_levels g connected s hs = record {
  start = let le = (is_least g connected s s hs hs).each [] refl in omega (arith, le);
  near = λ u x hu hx next.
      let there = (is_least g connected s u hs hu).some in
      let sum = length_of-append (Adjacent g) g.nodes one_each s u there.0 (x ∷ []) there.1 in
      let le = (is_least g connected s x hs hx).each (there.0 ++ x ∷ []) (walk_append (Adjacent g) g.nodes s u x there.0 (x ∷ []) there.1 (next, hx, refl)) in
      omega (arith, le, sum, there.2);
}

pub is_below : (g : Graph) → IsConnected g → (s w : ℕ) → s < g.nodes → w < g.nodes → distance_of g s w < g.nodes
is_below g connected s w hs hw =
    let levels : IsLevelled g s (distance_of g s) = least_are_levels g connected s hs in
    let here = (is_least g connected s w hs hw).some in
    levels_below (Adjacent g) g.nodes (distance_of g s) levels.near s w here.0 hs here.1 levels.start

pub are_metric : (g : Graph) → IsConnected g → AreMetric g
are_metric g connected =
    let least = is_least g connected in
    let sums : AreLeastSums g.nodes (adjacent g) one_each (distance_of g) = record { both_ways = both_ways g; same_length = λ v w. refl; least = least } in
    let weighs = least_sums_weigh g.nodes (adjacent g) one_each (distance_of g) sums in
    record {
      itself = weighs.itself;
      same = weighs.same;
      triangle = λ v x w hv hx hw.
          let a = (least v x hv hx).some in
          let b = (least x w hx hw).some in
          let le = (least v w hv hw).each (a.0 ++ b.0) (walk_append (Adjacent g) g.nodes v x w a.0 b.0 a.1 b.1) in
          let sum = length_of-append (Adjacent g) g.nodes one_each v x a.0 b.0 a.1 in
          omega (arith, le, sum, a.2, b.2);
      small = is_below g connected;
    }
