-- The weight of a pair is the least sum over all walks between them.
use Rattle.std.proofs.Common.{◌≡◌, ℕ, zero, suc, ◌+◌, ◌-◌, ◌*◌, ◌<◌, ◌≤◌, ◌&&◌, ◌==◌, nat_le, inl, inr, arith, ap, sym, refl, ◌∙◌, List, [], ◌∷◌, Bool, true, false, IsTrue, Some, get_or}
use Rattle.std.specs.List.{find, range_with_len}
use Rattle.std.proofs.Math.Nat.{mul-le-mul_left}
use Rattle.std.proofs.lemmas.Bool.{and_from, and_parts, cases_lt, eq-eqb, eqb-true, le-leb, leb-true, or_cases, or_left, or_right}
use Rattle.std.proofs.lemmas.List.Elements.{All-contains}
use Rattle.gs_topo.specs.Graph.{Graph, adjacent, Adjacent}
use Rattle.gs_topo.specs.Walks.{IsTopology, IsLeast, IsWalk, diameter_of, distance_of, length_of, one_each}
use Rattle.gs_topo.proofs.Distances.{is_least, found_first, least_exists}
use Rattle.gs_topo.proofs.Members.{Contains-range, list_any-from_member, member-from_list_any, range_below}
use Rattle.gs_topo.proofs.Tables.{at_most_diameter}
use Rattle.gs_topo.proofs.Walks.{sum_is_small}
use Rattle.gs_planfile.specs.declared.text.PlanText.{PlanText}
use Rattle.gs_plan.specs.Accepted.{IsAccepted}
use Rattle.gs_plan.specs.Bounds.{greatest_kappa_in}
use Rattle.gs_plan.specs.Edges.{edges_given, own_given}
use Rattle.gs_plan.specs.Numbers.{kappa_between, kappa_in}
use Rattle.gs_plan.proofs.Keeping.{each_below}
use Rattle.gs_plan.proofs.Linking.{has_number, text_at}
use Rattle.gs_plan.specs.Weights.{has_sum, weight_in}

abbrev Steps : (ℕ → ℕ → Bool) → ℕ → ℕ → Type 0
Steps adj a b = IsTrue (adj a b)

-- a walk has its sum, where each step counts at least 1
pub has_sum-from_walk : (adj : ℕ → ℕ → Bool) (n : ℕ) (k : ℕ → ℕ → ℕ) → ((v w : ℕ) → IsTrue (adj v w) → 1 ≤ k v w)
    → (steps v w : ℕ) (xs : List ℕ) → IsWalk (Steps adj) n v xs w → length_of k v xs ≤ steps → has_sum adj n k steps v w (length_of k v xs) ≡ true
unfolding has_sum
has_sum-from_walk adj n k positive zero v w [] walk short = and_from (v == w) (0 == 0) (eq-eqb v w walk) refl
has_sum-from_walk adj n k positive zero v w (x ∷ xs) walk short = let p = positive v x walk.0 in absurd (omega (arith, p, short))
has_sum-from_walk adj n k positive (suc steps) v w [] walk short =
    or_left _ _ (and_from (v == w) (0 == 0) (eq-eqb v w walk) refl)
has_sum-from_walk adj n k positive (suc steps) v w (x ∷ xs) walk short =
    let rest : ℕ = length_of k x xs in
    let p = positive v x walk.0 in
    let later = has_sum-from_walk adj n k positive steps x w xs walk.2 (omega (arith, p, short)) in
    let e : k v x + rest - k v x ≡ rest = omega arith in
    let there : has_sum adj n k steps x w (k v x + rest - k v x) ≡ true = rw e later in
    let both : (adj v x && (nat_le (k v x) (k v x + rest) && has_sum adj n k steps x w (k v x + rest - k v x))) ≡ true =
    and_from (adj v x) _ walk.0 (and_from (nat_le (k v x) (k v x + rest)) _ (le-leb (k v x) (k v x + rest) (omega arith)) there) in
    or_right _ _ (list_any-from_member (λ y. adj v y && (nat_le (k v y) (k v x + rest) && has_sum adj n k steps y w (k v x + rest - k v y))) (range_with_len 0 n) x both
    (Contains-range 0 n x (omega arith) (let h = walk.1 in omega (arith, h))))

-- and what has a sum is a walk
pub walk-from_has_sum : (adj : ℕ → ℕ → Bool) (n : ℕ) (k : ℕ → ℕ → ℕ) (steps v w d : ℕ) → has_sum adj n k steps v w d ≡ true
    → (xs : List ℕ) × IsWalk (Steps adj) n v xs w × (length_of k v xs ≡ d)
unfolding has_sum
walk-from_has_sum adj n k zero v w d has =
    let both = and_parts (v == w) (d == 0) has in
    ([], eqb-true v w both.0, sym (eqb-true d 0 both.1))
walk-from_has_sum adj n k (suc steps) v w d has = elim (or_cases _ _ has) [
  | inl here ↦ let both = and_parts (v == w) (d == 0) here in ([], eqb-true v w both.0, sym (eqb-true d 0 both.1))
  | inr on ↦
      let m = member-from_list_any (λ y. adj v y && (nat_le (k v y) d && has_sum adj n k steps y w (d - k v y))) (range_with_len 0 n) on in
      let both = and_parts (adj v m.0) _ m.2 in
      let again = and_parts (nat_le (k v m.0) d) _ both.1 in
      let low = leb-true (k v m.0) d again.0 in
      let rest = walk-from_has_sum adj n k steps m.0 w (d - k v m.0) again.1 in
      let below = All-contains (λ x. (0 ≤ x) × (x < 0 + n)) (range_with_len 0 n) m.0 (range_below 0 n) m.1 in
      (m.0 ∷ rest.0, (both.0, omega (arith, below), rest.1), omega (arith, rest.2, low))
]

-- The least sum that some walk has is the least of all, and at most the greatest kappa for each step of the distance.
pub weight_is_least : (t : PlanText) (g : Graph) → IsTopology g → ((v w : ℕ) → Adjacent g v w → 1 ≤ kappa_between t v w) → ((v w : ℕ) → Adjacent g v w → kappa_between t v w ≤ greatest_kappa_in t g)
    → (v w : ℕ) → v < g.nodes → w < g.nodes
    → IsLeast (Adjacent g) g.nodes (kappa_between t) v w (weight_in t g v w) × (weight_in t g v w ≤ greatest_kappa_in t g * distance_of g v w)
unfolding weight_in
weight_is_least t g is positive most v w hv hw =
    let k : ℕ → ℕ → ℕ = kappa_between t in
    let least = is_least g is.connected v w hv hw in
    let walk = least.some in
    let near = at_most_diameter g v w hv hw in
    let high : ℕ = diameter_of g * greatest_kappa_in t g in
    let short : length_of k v walk.0 ≤ greatest_kappa_in t g * length_of one_each v walk.0 =
    sum_is_small (Adjacent g) g.nodes k one_each (greatest_kappa_in t g) (λ a b ha hb next. let m = most a b next in omega (arith, m)) v w walk.0 hv walk.1 in
    let short_sum : (d : ℕ) → d ≤ length_of k v walk.0 → d ≤ greatest_kappa_in t g * length_of one_each v walk.0 = λ d low. omega (arith, low, short) in
    let steps : length_of one_each v walk.0 ≤ diameter_of g = omega (arith, walk.2, near) in
    let less : greatest_kappa_in t g * length_of one_each v walk.0 ≤ greatest_kappa_in t g * diameter_of g = mul-le-mul_left (greatest_kappa_in t g) steps in
    let test : ℕ → Bool = λ d. has_sum (adjacent g) g.nodes k d v w d in
    let found : (xs : List ℕ) → IsWalk (Adjacent g) g.nodes v xs w → test (length_of k v xs) ≡ true =
    λ xs other. has_sum-from_walk (adjacent g) g.nodes k positive (length_of k v xs) v w xs other (omega arith) in
    let first = least_exists test (length_of k v walk.0) (found walk.0 walk.1) in
    let within : first.0 ≤ high = omega (arith, first.1, short, less) in
    let is_first : find test (range_with_len 0 (high + 1)) ≡ Some first.0 = found_first test 0 (high + 1) first.0 (omega arith) (omega (arith, within)) first.2 (λ d h low. first.3 d low) in
    rw is_first (
      record {
        some = walk-from_has_sum (adjacent g) g.nodes k first.0 v w first.0 first.2;
        each = λ xs other. elim (cases_lt (length_of k v xs) first.0) [
          | inl lower ↦ let no = first.3 (length_of k v xs) lower in let yes = found xs other in let clash : true ≡ false = sym yes ∙ no in cc
          | inr le ↦ le
        ];
      },
      rw walk.2 at (short_sum first.0 first.1),
    )

-- the kappa of neighbours in an accepted plan
pub kappa_of_neighbours : (t : PlanText) (g : Graph) → IsAccepted t g → (v w : ℕ) → Adjacent g v w → (1 ≤ kappa_between t v w) × (kappa_between t v w ≤ greatest_kappa_in t g)
kappa_of_neighbours t g is v w next =
    let found = has_number g v w next in
    let at = text_at t g v w found.0 (own_given t) found.1 in
    let same : kappa_in t (get_or (edges_given t g) found.0 (own_given t)) ≡ kappa_between t v w = ap (kappa_in t) at.1 in
    let margin = (is.edges found.0 (own_given t) at.0).margin in
    let below = each_below (kappa_in t) t g found.0 (own_given t) at.0 in
    (omega (arith, margin, same), omega (arith, below, same))

-- a least sum is the only one
pub one_least : (adj : ℕ → ℕ → Type 0) (n : ℕ) (k : ℕ → ℕ → ℕ) (v w d e : ℕ) → IsLeast adj n k v w d → IsLeast adj n k v w e → d ≡ e
one_least adj n k v w d e a b =
    let low = a.each b.some.0 b.some.1 in
    let high = b.each a.some.0 a.some.1 in
    omega (arith, low, high, a.some.2, b.some.2)
