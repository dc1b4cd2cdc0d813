-- The range of a delay between two nodes is that of their edge.
use Rattle.std.proofs.Common.{◌≡◌, ◌∙◌, ℕ, ◌&&◌, ◌||◌, ◌==◌, refl, sym, ap, Bool, true, false, List, [], ◌∷◌, Option, Some, None, is_some, slice_get}
use Rattle.std.specs.List.{list_any}
use Rattle.std.proofs.Math.Bool.{and_comm}
use Rattle.std.proofs.lemmas.Bool.{eqb-true, eq-eqb}
use Rattle.std.proofs.lemmas.Option.{get_or_from_slice_get}
use Rattle.gs_topo.specs.Graph.{joins, number_of}
use Rattle.gs_planfile.specs.declared.text.PlanText.{PlanText}
use Rattle.gs_plan.specs.declared.edge.EdgeNumbers.{EdgeNumbers}
use Rattle.gs_plan.specs.Edges.{edge_given}
use Rattle.gs_plan.specs.Numbers.{numbers_in, numbers_of}
use Rattle.gs_plan.specs.Shapes.{graph_of_text}
use Rattle.gs_plan.proofs.Chain.{place_found}
use Rattle.gs_plan.proofs.Linking.{joined_text, numbers_at}
use Rattle.gs_script.specs.declared.line.Who.TheVariants.{One}
use Rattle.gs_script.specs.Checks.{is_bad_delay, is_bad_over, is_delay_outside, meets}

equal-turned : (a b : ℕ) → (a == b) ≡ (b == a)
equal-turned a b = pick (a == b) (b == a) refl refl where
  pick : (x y : Bool) → (a == b) ≡ x → (b == a) ≡ y → x ≡ y
  pick true true h k = refl
  pick false false h k = refl
  pick true false h k = (let clash : true ≡ false = sym (eq-eqb b a (sym (eqb-true a b h))) ∙ k in cc)
  pick false true h k = (let clash : true ≡ false = sym (eq-eqb a b (sym (eqb-true b a k))) ∙ h in cc)

-- a record for beacons between two nodes meets the edges that join them
meets-joins : (a b : ℕ) (e : ℕ × ℕ) → meets (One a) (One b) e ≡ joins e a b
meets-joins a b e = rw (equal-turned a e.0, equal-turned b e.1, equal-turned a e.1, equal-turned b e.0, and_comm (e.1 == a) (e.0 == b)) refl

any-meets : (a b : ℕ) (es : List (ℕ × ℕ)) → list_any (meets (One a) (One b)) es ≡ list_any (λ e. joins e a b) es
any-meets a b [] = refl
any-meets a b (e ∷ es) = rw (meets-joins a b e, any-meets a b es) refl

absorbed : (x y : Bool) → x || (y && x) ≡ x
absorbed true y = refl
absorbed false true = refl
absorbed false false = refl

-- whichever of these it is, the plan says the same of it
any-joined : (t : PlanText) (a b d : ℕ) (es : List (ℕ × ℕ)) → list_any (λ e. meets (One a) (One b) e && is_bad_over t e d) es ≡ list_any (λ e. joins e a b) es && is_bad_over t (a, b) d
any-joined t a b d [] = refl
any-joined t a b d (e ∷ es) = rw (meets-joins a b e, any-joined t a b d es) (pick (joins e a b) refl) where
  pick : (x : Bool) → joins e a b ≡ x → (x && is_bad_over t e d) || (list_any (λ e. joins e a b) es && is_bad_over t (a, b) d) ≡ (x || list_any (λ e. joins e a b) es) && is_bad_over t (a, b) d
  pick false is = refl
  pick true is =
      let same : is_bad_over t e d ≡ is_bad_over t (a, b) d = rw (joined_text t e a b is) refl in
      rw same (absorbed (is_bad_over t (a, b) d) (list_any (λ e. joins e a b) es))

-- where an edge joins them, its numbers decide
pub outside-edge : (t : PlanText) (a b d e : ℕ) (n : EdgeNumbers) → number_of (graph_of_text t) a b ≡ Some e → slice_get (numbers_of t (graph_of_text t)) e ≡ Some n
    → is_bad_delay n.delay_min n.delay_max d ≡ is_delay_outside t (One a) (One b) d
outside-edge t a b d e n number at =
    let found : list_any (λ x. joins x a b) (graph_of_text t).edges ≡ true = sym (place_found (λ x. joins x a b) (graph_of_text t).edges) ∙ ap (λ (o : Option ℕ). is_some o) number in
    let here : n ≡ numbers_in t (edge_given t (a, b)) =
    sym (get_or_from_slice_get (numbers_of t (graph_of_text t)) e n n at) ∙ (numbers_at t (graph_of_text t) a b e n number).1 in
    ap (λ (x : EdgeNumbers). is_bad_delay x.delay_min x.delay_max d) here ∙ rw (any-meets a b (graph_of_text t).edges, any-joined t a b d (graph_of_text t).edges, found) refl

-- where none does, the plan's own delays do
pub outside-own : (t : PlanText) (a b d : ℕ) → number_of (graph_of_text t) a b ≡ None → is_bad_delay t.delay_min t.delay_max d ≡ is_delay_outside t (One a) (One b) d
outside-own t a b d number =
    let none : list_any (λ x. joins x a b) (graph_of_text t).edges ≡ false = sym (place_found (λ x. joins x a b) (graph_of_text t).edges) ∙ ap (λ (o : Option ℕ). is_some o) number in
    rw (any-meets a b (graph_of_text t).edges, none) refl

pub ruleset between = (outside-edge, outside-own)
