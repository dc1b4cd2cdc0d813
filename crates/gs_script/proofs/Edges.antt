-- The edges of a plan with their delays.
use Rattle.std.proofs.Common.{◌≡◌, ◌∙◌, ◌<◌, ◌≤◌, ◌+◌, ℕ, List, [], ◌∷◌, ◌++◌, length, map, take, get_or, Some, refl, sym, ap, arith, slice_get}
use Rattle.std.proofs.Common.{Bool, true, ◌&&◌, ◌||◌}
use Rattle.std.specs.List.{list_any}
use Rattle.std.proofs.lemmas.Option.{slice_get-get_or, slice_get-map, slice_get_within, same_Some}
use Rattle.std.proofs.lemmas.List.{length-map, map-append, take_more, take_all}
use Rattle.gs_planfile.specs.declared.text.PlanText.{PlanText}
use Rattle.gs_plan.specs.declared.edge.EdgeNumbers.{EdgeNumbers}
use Rattle.gs_plan.specs.Edges.{edge_given, edges_given}
use Rattle.gs_plan.specs.Numbers.{numbers_in, numbers_of}
use Rattle.gs_plan.specs.Shapes.{graph_of_text}
use Rattle.gs_topo.specs.Graph.{Graph}
use Rattle.gs_script.specs.declared.line.Who.{Who}
use Rattle.gs_script.specs.declared.links.Link.{Link}
use Rattle.gs_script.specs.Checks.{is_bad_delay, is_bad_over, is_delay_outside, meets}
use Rattle.gs_script.specs.inside.Kept.{link_of, links_of}

-- the numbers of an edge, by its place
pub numbers_at_place : (t : PlanText) (g : Graph) (e : ℕ) (edge : ℕ × ℕ) (n : EdgeNumbers) → slice_get (numbers_of t g) e ≡ Some n → slice_get g.edges e ≡ Some edge → n ≡ numbers_in t (edge_given t edge)
numbers_at_place t g e edge n numbers at =
    let first : slice_get (edges_given t g) e ≡ Some (edge_given t edge) = rw (slice_get-map (edge_given t) g.edges e, at) refl in
    let second : slice_get (numbers_of t g) e ≡ Some (numbers_in t (edge_given t edge)) = rw (slice_get-map (numbers_in t) (edges_given t g) e, first) refl in
    same_Some n (numbers_in t (edge_given t edge)) (sym numbers ∙ second)

pub ruleset links = (numbers_at_place, slice_get-get_or, slice_get_within, take_more, take_all)

any-map : {A B : Type 0} (f : A → B) (p : B → Bool) (xs : List A) → list_any p (map f xs) ≡ list_any (λ x. p (f x)) xs
any-map f p [] = refl
any-map f p (x ∷ xs) = ap (λ b. p (f x) || b) (any-map f p xs)

-- some edge is met
pub any-met : (t : PlanText) (v w : Who) → list_any (λ (l : Link). meets v w (l.a, l.b)) (links_of t) ≡ list_any (meets v w) (graph_of_text t).edges
any-met t v w = any-map (link_of t) (λ l. meets v w (l.a, l.b)) (graph_of_text t).edges

-- some edge that is met refuses the delay
pub any-bad : (t : PlanText) (v w : Who) (d : ℕ) → list_any (λ (l : Link). meets v w (l.a, l.b) && is_bad_delay l.delay_min l.delay_max d) (links_of t)
    ≡ list_any (λ e. meets v w e && is_bad_over t e d) (graph_of_text t).edges
any-bad t v w d = any-map (link_of t) (λ l. meets v w (l.a, l.b) && is_bad_delay l.delay_min l.delay_max d) (graph_of_text t).edges

pub ruleset ranges = (any-met, any-bad)

-- where some edge is met, the edges decide
pub outside-met : (t : PlanText) (v w : Who) (d : ℕ) (links : List Link) → links ≡ links_of t → list_any (λ (l : Link). meets v w (l.a, l.b)) links ≡ true
    → list_any (λ (l : Link). meets v w (l.a, l.b) && is_bad_delay l.delay_min l.delay_max d) links ≡ is_delay_outside t v w d
outside-met t v w d links is met =
    let some : list_any (meets v w) (graph_of_text t).edges ≡ true = sym (any-met t v w) ∙ rw is at met in
    rw (is, some) (any-bad t v w d)
