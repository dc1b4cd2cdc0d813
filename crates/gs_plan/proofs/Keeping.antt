-- The numbers of a plan fit into words, and each edge's are those of its two ends.
use Rattle.std.proofs.Common.{◌≡◌, ℕ, zero, suc, ◌*◌, ◌<◌, ◌≤◌, ◌^◌, arith, refl, map, length, All, cond, Bool, true, false, nat_lt, get_or, slice_index}
use Rattle.std.proofs.Math.Nat.{mul-le-mul_right}
use Rattle.std.proofs.Common.{inl, inr}
use Rattle.std.proofs.lemmas.Bool.{cases_lt, ltb-false, ltb-true}
use Rattle.std.proofs.lemmas.List.{get_or-map, length-map}
use Rattle.gs_topo.specs.Graph.{Graph}
use Rattle.gs_topo.proofs.Tables.{le_greatest}
use Rattle.gs_planfile.specs.declared.text.PlanText.{PlanText}
use Rattle.gs_plan.specs.declared.edge.EdgeGiven.{EdgeGiven}
use Rattle.gs_plan.specs.Accepted.{IsAccepted}
use Rattle.gs_plan.specs.Bounds.{greatest_in, greatest_kappa_in}
use Rattle.gs_plan.specs.Edges.{edges_given, own_given}
use Rattle.gs_plan.specs.inside.Kept.{AreWords}
use Rattle.gs_plan.specs.Levels.{best_of, IsBest}
use Rattle.gs_plan.specs.Numbers.{kappa_in}

-- the plan's own number is at most the greatest
pub own_below : (f : EdgeGiven → ℕ) (t : PlanText) (g : Graph) → f (own_given t) ≤ greatest_in f t g
own_below f t g = (le_greatest (map f (edges_given t g)) (f (own_given t)) 0).0

-- and so is the number of each edge
pub each_below : (f : EdgeGiven → ℕ) (t : PlanText) (g : Graph) (k : ℕ) (d : EdgeGiven) → k < length (edges_given t g) → f (get_or (edges_given t g) k d) ≤ greatest_in f t g
each_below f t g k d h =
    let inside : k < length (map f (edges_given t g)) = rw (length-map (edges_given t g) f) h in
    let below = (le_greatest (map f (edges_given t g)) (f (own_given t)) k).1 inside in
    let is : slice_index (map f (edges_given t g)) k ≡ f (get_or (edges_given t g) k d) = get_or-map f (edges_given t g) k d 0 h in
    rw is at below

-- the greatest kappa of an accepted plan
pub kappa_fits : (t : PlanText) (g : Graph) → IsAccepted t g → (2 * t.levels * greatest_kappa_in t g < 2 ^ 62) × (greatest_kappa_in t g < 2 ^ 61)
kappa_fits t g is =
    let once : 2 * 1 * greatest_kappa_in t g ≤ 2 * t.levels * greatest_kappa_in t g = mul-le-mul_right (greatest_kappa_in t g) (let h = is.some_level in omega (arith, h)) in
    let fits = is.fits in
    (omega (arith, fits), omega (arith, fits, once))

-- the numbers of the plan's own edges are words
pub own_words : (t : PlanText) (g : Graph) → IsAccepted t g → AreWords t (own_given t)
own_words t g is = record {
  low = is.own.margin;
  high = (let below = own_below (kappa_in t) t g in let fits = kappa_fits t g is in omega (arith, below, fits));
}

-- and so are those of all edges
pub all_words : (t : PlanText) (g : Graph) → IsAccepted t g → All (AreWords t) (edges_given t g)
all_words t g is = λ k d h. record {
  low = (is.edges k d h).margin;
  high = (let below = each_below (kappa_in t) t g k d h in let fits = kappa_fits t g is in omega (arith, below, fits));
}

-- the best level in other words
pub best_is : (f : ℕ → ℕ) (last : ℕ) → IsBest f last (best_of f last)
best_is f zero = record {
  level = omega arith;
  value = refl;
  least = λ s h. (let e : s ≡ 0 = omega arith in rw e (omega arith));
  first = λ s h. absurd (omega arith);
}
best_is f (suc last) = pick (nat_lt (f (suc last)) (best_of f last).1) refl (best_is f last) where
  pick : (b : Bool) → nat_lt (f (suc last)) (best_of f last).1 ≡ b → IsBest f last (best_of f last) → IsBest f (suc last) (cond b (suc last, f (suc last)) (best_of f last))
  pick true is old =
      let lower = ltb-true (f (suc last)) (best_of f last).1 is in
      let before : (s : ℕ) → s ≤ last → f (suc last) < f s = λ s h. (let least = old.least s h in omega (arith, lower, least)) in
      record {
        level = omega arith;
        value = refl;
        least = λ s h. elim (cases_lt s (suc last)) [ inl lt ↦ (let b = before s (omega (arith, lt)) in omega (arith, b)) | inr le ↦ (let e : s ≡ suc last = omega (arith, le, h) in rw e (omega arith)) ];
        first = λ s h. before s (omega (arith, h));
      }
  pick false is old =
      let above = ltb-false (f (suc last)) (best_of f last).1 is in
      record {
        level = (let h = old.level in omega (arith, h));
        value = old.value;
        least = λ s h. elim (cases_lt s (suc last)) [ inl lt ↦ old.least s (omega (arith, lt)) | inr le ↦ (let e : s ≡ suc last = omega (arith, le, h) in rw e above) ];
        first = old.first;
      }

pub ruleset facts = (kappa_fits, own_words, all_words, best_is)
