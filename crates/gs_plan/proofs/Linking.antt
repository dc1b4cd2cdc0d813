-- The numbers of an edge, found from either end.
use Rattle.std.proofs.Common.{◌≡◌, ℕ, ◌*◌, ◌<◌, ◌≤◌, ◌^◌, ◌||◌, ◌&&◌, ◌==◌, arith, refl, ap, sym, subst, ◌∙◌, inl, inr, map, length, List, [], ◌∷◌, Bool, true, false, Option, Some, None, is_some, get_or, slice_get, slice_index, IfSome}
use Rattle.std.proofs.Math.Nat.{mul-le-mul_left}
use Rattle.std.proofs.lemmas.Option.{get_or_from_slice_get, slice_get_within}
use Rattle.gs_plan.specs.Bounds.{greatest_kappa_in}
use Rattle.gs_plan.proofs.Keeping.{each_below}
use Rattle.std.specs.List.{Contains}
use Rattle.std.specs.Option.{option_map_or}
use Rattle.std.proofs.lemmas.List.{get_or-map, length-map}
use Rattle.std.proofs.lemmas.List.Elements.{All-contains}
use Rattle.std.proofs.lemmas.List.Quantifiers.{position-Some}
use Rattle.gs_topo.specs.Graph.{Graph, Adjacent, adjacent, joins, number_of}
use Rattle.gs_topo.specs.Walks.{IsLeast, IsWalk, length_of}
use Rattle.gs_topo.specs.Weights.{length_between}
use Rattle.gs_topo.proofs.Ascending.{joins-cases}
use Rattle.gs_topo.proofs.Members.{Contains-map, member-from_list_any}
use Rattle.gs_planfile.specs.declared.text.EdgeSpan.{EdgeSpan}
use Rattle.gs_planfile.specs.declared.text.PlanText.{PlanText}
use Rattle.gs_plan.specs.declared.edge.EdgeNumbers.{EdgeNumbers}
use Rattle.gs_plan.specs.declared.edge.EdgeGiven.{EdgeGiven}
use Rattle.gs_plan.specs.Accepted.{IsAccepted, IsFine}
use Rattle.gs_plan.specs.Edges.{edge_given, edges_given, own_given, span_between, span_given}
use Rattle.gs_plan.specs.inside.Kept.{lengths_in}
use Rattle.gs_plan.specs.Numbers.{kappa_between, kappa_in, numbers_between, numbers_in, numbers_of}
use Rattle.gs_plan.proofs.Chain.{place_found}

either : (a b : Bool) → a || b ≡ b || a
either true true = refl
either true false = refl
either false true = refl
either false false = refl

-- a span names an edge either way round
pub same_span : (spans : List EdgeSpan) (v w : ℕ) → span_between spans v w ≡ span_between spans w v
same_span [] v w = refl
same_span (s ∷ ss) v w = rw (either ((s.a == v) && (s.b == w)) ((s.a == w) && (s.b == v)), same_span ss v w) refl

pub same_text : (t : PlanText) (v w : ℕ) → edge_given t (v, w) ≡ edge_given t (w, v)
same_text t v w = ap (λ o. option_map_or span_given o (own_given t)) (same_span t.spans v w)

-- the span of an edge, by its two ends
pub joined_span : (spans : List EdgeSpan) (e : ℕ × ℕ) (v w : ℕ) → joins e v w ≡ true → span_between spans e.0 e.1 ≡ span_between spans v w
joined_span spans e v w h = elim (joins-cases e v w h) [
  | inl there ↦ let a : e.0 ≡ v = there.0 in let b : e.1 ≡ w = there.1 in ap (λ x. span_between spans x e.1) a ∙ ap (λ x. span_between spans v x) b
  | inr back ↦ let a : e.0 ≡ w = back.0 in let b : e.1 ≡ v = back.1 in ap (λ x. span_between spans x e.1) a ∙ ap (λ x. span_between spans w x) b ∙ same_span spans w v
]

-- what a plan says of an edge, by its two ends
pub joined_text : (t : PlanText) (e : ℕ × ℕ) (v w : ℕ) → joins e v w ≡ true → edge_given t e ≡ edge_given t (v, w)
joined_text t e v w h = ap (λ o. option_map_or span_given o (own_given t)) (joined_span t.spans e v w h)

-- each edge of an accepted plan is fine
pub fine_at : (t : PlanText) (g : Graph) (e : ℕ × ℕ) → IsAccepted t g → Contains g.edges e → IsFine t (edge_given t e)
fine_at t g e is member =
    All-contains (IsFine t) (edges_given t g) (edge_given t e) is.edges (Contains-map (edge_given t) g.edges e member)

-- and so is that of any two neighbours
pub fine_between : (t : PlanText) (g : Graph) (v w : ℕ) → IsAccepted t g → Adjacent g v w → IsFine t (edge_given t (v, w))
fine_between t g v w is next =
    let m = member-from_list_any (λ e. joins e v w) g.edges next in
    subst (λ e. IsFine t e) (joined_text t m.0 v w m.2) (fine_at t g m.0 is m.1)

-- the place of an edge, and what the plan says there
pub text_at : (t : PlanText) (g : Graph) (v w e : ℕ) (d : EdgeGiven) → number_of g v w ≡ Some e → (e < length (edges_given t g)) × (get_or (edges_given t g) e d ≡ edge_given t (v, w))
text_at t g v w e d found =
    let at = position-Some (λ x. joins x v w) g.edges e (0, 0) found in
    let inside : e < length g.edges = at.0 in
    (rw (length-map g.edges (edge_given t)) inside, get_or-map (edge_given t) g.edges e (0, 0) d inside ∙ joined_text t (get_or g.edges e (0, 0)) v w at.1)

-- the numbers at that place
pub numbers_at : (t : PlanText) (g : Graph) (v w e : ℕ) (d : EdgeNumbers) → number_of g v w ≡ Some e → (e < length (numbers_of t g)) × (get_or (numbers_of t g) e d ≡ numbers_in t (edge_given t (v, w)))
numbers_at t g v w e d found =
    let at = text_at t g v w e (own_given t) found in
    let inside : e < length (edges_given t g) = at.0 in
    (rw (length-map (edges_given t g) (numbers_in t)) inside, get_or-map (numbers_in t) (edges_given t g) e (own_given t) d inside ∙ ap (numbers_in t) at.1)

-- which are those between the two nodes
pub numbers_found : (t : PlanText) (g : Graph) (v w e : ℕ) (d : EdgeNumbers) → number_of g v w ≡ Some e → Some (get_or (numbers_of t g) e d) ≡ numbers_between t g v w
numbers_found t g v w e d found =
    let near : adjacent g v w ≡ true = sym (place_found (λ x. joins x v w) g.edges) ∙ ap is_some found in
    rw (near, (numbers_at t g v w e d found).1) refl

-- and there are none where there is no edge
pub no_numbers : (t : PlanText) (g : Graph) (v w : ℕ) → number_of g v w ≡ None → None ≡ numbers_between t g v w
no_numbers t g v w none =
    let far : adjacent g v w ≡ false = sym (place_found (λ x. joins x v w) g.edges) ∙ ap is_some none in
    rw far refl

-- neighbours have an edge
pub has_number : (g : Graph) (v w : ℕ) → Adjacent g v w → (e : ℕ) × (number_of g v w ≡ Some e)
has_number g v w next = pick (number_of g v w) refl (place_found (λ x. joins x v w) g.edges ∙ next) where
  pick : (o : Option ℕ) → number_of g v w ≡ o → is_some o ≡ true → (e : ℕ) × (number_of g v w ≡ Some e)
  pick None is h = absurd (cc)
  pick (Some e) is h = (e, is)

-- the length between neighbours is the kappa of their edge
pub length_is : (t : PlanText) (g : Graph) (v w : ℕ) → Adjacent g v w → length_between (lengths_in t g) v w ≡ kappa_between t v w
length_is t g v w next =
    let found = has_number g v w next in
    let at = numbers_at t g v w found.0 (numbers_in t (own_given t)) found.1 in
    let here : slice_index (map (λ n. n.kappa) (numbers_of t g)) found.0 ≡ kappa_in t (edge_given t (v, w)) =
    get_or-map (λ (n : EdgeNumbers). n.kappa) (numbers_of t g) found.0 (numbers_in t (own_given t)) 0 at.0 ∙ ap (λ (n : EdgeNumbers). n.kappa) at.1 in
    ap (λ o. option_map_or (slice_index (lengths_in t g).lengths) o 0) found.1 ∙ here

-- lengths that agree on steps agree on walks
pub same_sum : (adj : ℕ → ℕ → Type 0) (n : ℕ) (k m : ℕ → ℕ → ℕ) → ((v w : ℕ) → adj v w → k v w ≡ m v w) → (v w : ℕ) (xs : List ℕ) → IsWalk adj n v xs w → length_of k v xs ≡ length_of m v xs
same_sum adj n k m same v w [] walk = refl
same_sum adj n k m same v w (x ∷ xs) walk =
    let first = same v x walk.0 in
    let rest = same_sum adj n k m same x w xs walk.2 in
    rw (first, rest) refl

-- and have the same least sums
pub same_least : (adj : ℕ → ℕ → Type 0) (n : ℕ) (k m : ℕ → ℕ → ℕ) → ((v w : ℕ) → adj v w → k v w ≡ m v w) → (v w d : ℕ) → IsLeast adj n k v w d → IsLeast adj n m v w d
same_least adj n k m same v w d least = record {
  some = (least.some.0, least.some.1, sym (same_sum adj n k m same v w least.some.0 least.some.1) ∙ least.some.2);
  each = λ xs walk. rw (← same_sum adj n k m same v w xs walk) (least.each xs walk);
}

-- the weights of a plan's graph are least sums of its kappas
pub weight_is : (t : PlanText) (g : Graph) (v w d : ℕ) → IsLeast (Adjacent g) g.nodes (length_between (lengths_in t g)) v w d → IsLeast (Adjacent g) g.nodes (kappa_between t) v w d
weight_is t g v w d = same_least (Adjacent g) g.nodes (length_between (lengths_in t g)) (kappa_between t) (length_is t g) v w d

-- what holds of the value of an option
pub if_some : {X : Type 0} (P : X → Type 0) {o : Option X} {x : X} → o ≡ Some x → P x → IfSome o P
if_some P e h = subst (λ o. IfSome o P) (sym e) h

-- a kappa of an edge fits where the greatest does
pub edge_fits : (t : PlanText) (g : Graph) (e : ℕ) (n : EdgeNumbers) (kmax : ℕ) → slice_get (numbers_of t g) e ≡ Some n → kmax ≡ greatest_kappa_in t g → 2 * t.levels * kmax < 2 ^ 62 → 2 * t.levels * n.kappa < 2 ^ 62
edge_fits t g e n kmax found most fits =
    let within : e < length (numbers_of t g) = slice_get_within (numbers_of t g) e n found in
    let inside : e < length (edges_given t g) = rw (← length-map (edges_given t g) (numbers_in t)) within in
    let here : get_or (numbers_of t g) e n ≡ n = get_or_from_slice_get (numbers_of t g) e n n found in
    let is : get_or (numbers_of t g) e n ≡ numbers_in t (get_or (edges_given t g) e (own_given t)) = get_or-map (numbers_in t) (edges_given t g) e (own_given t) n inside in
    let kappa : n.kappa ≡ kappa_in t (get_or (edges_given t g) e (own_given t)) = ap (λ (x : EdgeNumbers). x.kappa) (sym here ∙ is) in
    let below = each_below (kappa_in t) t g e (own_given t) inside in
    let low : n.kappa ≤ kmax = rw (kappa, most) below in
    let less : 2 * t.levels * n.kappa ≤ 2 * t.levels * kmax = mul-le-mul_left (2 * t.levels) low in
    omega (arith, less, fits)
