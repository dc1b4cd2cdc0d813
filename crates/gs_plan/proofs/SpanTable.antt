-- The span of each edge by the number of the edge, one span after the other.
use Rattle.std.proofs.Common.{◌≡◌, ◌≢◌, ℕ, zero, suc, ◌+◌, ◌<◌, ◌||◌, ◌++◌, arith, refl, ap, sym, ◌∙◌, inl, inr, cond, Bool, true, false, List, [], ◌∷◌, Option, Some, None, is_some, length, map, set, get_or, replicate, take}
use Rattle.std.specs.List.{count_by}
use Rattle.std.specs.Option.{option_map_or}
use Rattle.std.proofs.lemmas.Bool.{cases_order, or_right}
use Rattle.std.proofs.lemmas.List.{get_or-map, length-map, take_more}
use Rattle.std.proofs.lemmas.List.Sums.{sum_by-set}
use Rattle.std.proofs.lemmas.Simd.{map-map}
use Rattle.std.proofs.lemmas.List.Quantifiers.{position-Some}
use Rattle.gs_topo.specs.Graph.{Graph, IsBefore, adjacent, joins, number_of}
use Rattle.gs_topo.specs.Walks.{IsTopology}
use Rattle.gs_topo.proofs.Ascending.{joins-cases}
use Rattle.gs_planfile.specs.declared.text.EdgeSpan.{EdgeSpan}
use Rattle.gs_planfile.specs.declared.text.PlanText.{PlanText}
use Rattle.gs_planfile.specs.declared.text.Version.{Version}
use Rattle.gs_plan.specs.Edges.{edges_given, own_given, span_between, span_given}
use Rattle.gs_plan.specs.Faults.{are_bad_delays, is_bad_span, is_one}
use Rattle.gs_plan.specs.inside.Kept.{edge_spans}
use Rattle.gs_plan.proofs.Chain.{place_found}
use Rattle.gs_plan.proofs.Linking.{joined_span}

-- a place that passes now and did not before is one more
pub count_set : {X : Type 0} (p : X → Bool) (xs : List X) (k : ℕ) (y d : X) → k < length xs → p (get_or xs k d) ≡ false → p y ≡ true → count_by p (set xs k y) ≡ count_by p xs + 1
count_set p xs k y d h old new =
    let before : cond {A = ℕ} (p (get_or xs k d)) 1 0 ≡ 0 = ap (λ b. cond {A = ℕ} b 1 0) old in
    let after : cond {A = ℕ} (p y) 1 0 ≡ 1 = ap (λ b. cond {A = ℕ} b 1 0) new in
    omega (arith, sum_by-set (λ x. cond (p x) 1 0) xs k y d h, before, after)

-- one span more, at an edge that had none
found_here : (earlier : List EdgeSpan) (s : EdgeSpan) (e : ℕ × ℕ) → span_between earlier e.0 e.1 ≡ None → joins (s.a, s.b) e.0 e.1 ≡ true → span_between (earlier ++ s ∷ []) e.0 e.1 ≡ Some s
found_here [] s e free here = rw here refl
found_here (x ∷ xs) s e free here = pick (joins (x.a, x.b) e.0 e.1) free (found_here xs s e) where
  pick : (b : Bool) → cond b (Some x) (span_between xs e.0 e.1) ≡ None → (span_between xs e.0 e.1 ≡ None → joins (s.a, s.b) e.0 e.1 ≡ true → span_between (xs ++ s ∷ []) e.0 e.1 ≡ Some s)
      → cond b (Some x) (span_between (xs ++ s ∷ []) e.0 e.1) ≡ Some s
  pick true none rest = cc
  pick false none rest = rest none here

-- and at another edge
kept_there : (earlier : List EdgeSpan) (s : EdgeSpan) (e : ℕ × ℕ) → joins (s.a, s.b) e.0 e.1 ≡ false → span_between (earlier ++ s ∷ []) e.0 e.1 ≡ span_between earlier e.0 e.1
kept_there [] s e other = rw other refl
kept_there (x ∷ xs) s e other = rw (kept_there xs s e other) refl

-- the ends of two pairs either way round
joins_swap : (a b v w : ℕ) → joins (a, b) v w ≡ joins (v, w) a b
joins_swap a b v w = grind arith

all_kept : (es : List (ℕ × ℕ)) (earlier : List EdgeSpan) (s : EdgeSpan) (d : ℕ × ℕ) → ((j : ℕ) → j < length es → joins (get_or es j d) s.a s.b ≡ false)
    → map (λ e. span_between (earlier ++ s ∷ []) e.0 e.1) es ≡ map (λ e. span_between earlier e.0 e.1) es
all_kept [] earlier s d others = refl
all_kept (e ∷ es) earlier s d others =
    let head = kept_there earlier s e (joins_swap s.a s.b e.0 e.1 ∙ others zero (omega arith)) in
    let rest = all_kept es earlier s d (λ j h. others (suc j) (omega (arith, h))) in
    rw (head, rest) refl

one_set : (es : List (ℕ × ℕ)) (earlier : List EdgeSpan) (s : EdgeSpan) (k : ℕ) (d : ℕ × ℕ) → k < length es → span_between earlier (get_or es k d).0 (get_or es k d).1 ≡ None
    → joins (get_or es k d) s.a s.b ≡ true → ((j : ℕ) → j < length es → j ≢ k → joins (get_or es j d) s.a s.b ≡ false)
    → set (map (λ e. span_between earlier e.0 e.1) es) k (Some s) ≡ map (λ e. span_between (earlier ++ s ∷ []) e.0 e.1) es
one_set [] earlier s k d h free here others = absurd (omega (arith, h))
one_set (e ∷ es) earlier s zero d h free here others =
    let head = found_here earlier s e free (joins_swap s.a s.b e.0 e.1 ∙ here) in
    let rest = all_kept es earlier s d (λ j h. others (suc j) (omega (arith, h)) (omega arith)) in
    rw (head, rest) refl
one_set (e ∷ es) earlier s (suc k) d h free here others =
    let head = kept_there earlier s e (joins_swap s.a s.b e.0 e.1 ∙ others zero (omega arith) (omega arith)) in
    let rest = one_set es earlier s k d (omega (arith, h)) free here (λ j h other. others (suc j) (omega (arith, h)) (λ e. other (omega (arith, e)))) in
    rw (head, rest) refl

-- no other edge of a graph joins the same nodes
apart : (g : Graph) (v w k j : ℕ) (d : ℕ × ℕ) → IsTopology g → k < length g.edges → joins (get_or g.edges k d) v w ≡ true → j < length g.edges → j ≢ k → joins (get_or g.edges j d) v w ≡ false
apart g v w k j d is hk here hj other = pick (joins (get_or g.edges j d) v w) refl where
  same : (a b : ℕ × ℕ) → a.0 < a.1 → b.0 < b.1 → joins a v w ≡ true → joins b v w ≡ true → (a.0 ≡ b.0) × (a.1 ≡ b.1)
  same a b ha hb ja jb = elim (joins-cases a v w ja) [
    | inl x ↦ elim (joins-cases b v w jb) [ inl y ↦ (omega (arith, x, y), omega (arith, x, y)) | inr y ↦ absurd (omega (arith, x, y, ha, hb)) ]
    | inr x ↦ elim (joins-cases b v w jb) [ inl y ↦ absurd (omega (arith, x, y, ha, hb)) | inr y ↦ (omega (arith, x, y), omega (arith, x, y)) ]
  ]

  never : (a b : ℕ × ℕ) → (a.0 ≡ b.0) × (a.1 ≡ b.1) → IsBefore a b → ⊥
  never a b eq before = elim before [ inl lt ↦ omega (arith, eq, lt) | inr eqs ↦ omega (arith, eq, eqs) ]

  pick : (b : Bool) → joins (get_or g.edges j d) v w ≡ b → b ≡ false
  pick false it = refl
  pick true it =
      let eq = same (get_or g.edges j d) (get_or g.edges k d) (is.upright j d hj) (is.upright k d hk) it here in
      let back : ((get_or g.edges k d).0 ≡ (get_or g.edges j d).0) × ((get_or g.edges k d).1 ≡ (get_or g.edges j d).1) = (sym eq.0, sym eq.1) in
      absurd (elim (cases_order j k) [
        | inl e ↦ other e
        | inr way ↦ elim way [
          | inl less ↦ never (get_or g.edges j d) (get_or g.edges k d) eq (is.ascending j k d less hk)
          | inr more ↦ never (get_or g.edges k d) (get_or g.edges j d) back (is.ascending k j d more hj)
        ]
      ])

-- no edge has a span where there are no spans
pub no_spans : (g : Graph) → replicate (length g.edges) None ≡ edge_spans [] g
no_spans g = by g.edges where
  by : (es : List (ℕ × ℕ)) → replicate (length es) None ≡ map (λ e. span_between [] e.0 e.1) es
  by [] = refl
  by (e ∷ es) = rw (by es) refl

-- the span at the number of an edge
at_number : (g : Graph) (earlier : List EdgeSpan) (v w e : ℕ) (d : Option EdgeSpan) → number_of g v w ≡ Some e → (e < length g.edges) × (get_or (edge_spans earlier g) e d ≡ span_between earlier v w)
at_number g earlier v w e d found =
    let at = position-Some (λ x. joins x v w) g.edges e (0, 0) found in
    (at.0, get_or-map (λ e. span_between earlier e.0 e.1) g.edges e (0, 0) d at.0 ∙ joined_span earlier (get_or g.edges e (0, 0)) v w at.1)

-- one span more
pub table_more : (g : Graph) (earlier : List EdgeSpan) (s : EdgeSpan) (e : ℕ) (d : Option EdgeSpan) → IsTopology g → number_of g s.a s.b ≡ Some e → get_or (edge_spans earlier g) e d ≡ None
    → set (edge_spans earlier g) e (Some s) ≡ edge_spans (earlier ++ s ∷ []) g
table_more g earlier s e d is found free =
    let at = position-Some (λ x. joins x s.a s.b) g.edges e (0, 0) found in
    let none : span_between earlier (get_or g.edges e (0, 0)).0 (get_or g.edges e (0, 0)).1 ≡ None = sym (get_or-map (λ e. span_between earlier e.0 e.1) g.edges e (0, 0) d at.0) ∙ free in
    one_set g.edges earlier s e (0, 0) at.0 none at.1 (λ j h other. apart g s.a s.b e j (0, 0) is at.0 at.1 h other)

-- the same where the spans before it are the first of a list, and one edge more has a span
pub table_next : (g : Graph) (spans : List EdgeSpan) (i e : ℕ) (found : List (Option EdgeSpan)) (d : EdgeSpan) → IsTopology g → i < length spans → found ≡ edge_spans (take i spans) g
    → number_of g (get_or spans i d).a (get_or spans i d).b ≡ Some e → get_or found e None ≡ None
    → (set found e (Some (get_or spans i d)) ≡ edge_spans (take (i + 1) spans) g) × (count_by is_some (set found e (Some (get_or spans i d))) ≡ count_by is_some found + 1)
table_next g spans i e found d is h table named free =
    let at = at_number g (take i spans) (get_or spans i d).a (get_or spans i d).b e None named in
    let none : get_or (edge_spans (take i spans) g) e None ≡ None = rw table at free in
    let inside : e < length (edge_spans (take i spans) g) = rw (length-map g.edges (λ e. span_between (take i spans) e.0 e.1)) at.0 in (
      rw (table, take_more spans i d h) (table_more g (take i spans) (get_or spans i d) e None is named none),
      count_set is_some found e (Some (get_or spans i d)) None (rw table inside) (ap is_some free) refl,
    )

-- a span that names no edge is at fault
pub bad_nowhere : (version : Version) (g : Graph) (earlier : List EdgeSpan) (s : EdgeSpan) → number_of g s.a s.b ≡ None → is_bad_span version g earlier s ≡ true
bad_nowhere version g earlier s none =
    let far : adjacent g s.a s.b ≡ false = sym (place_found (λ x. joins x s.a s.b) g.edges) ∙ ap is_some none in
    or_right (is_one version) _ (rw far refl)

-- and what is asked of one that names an edge
pub bad_at : (version : Version) (g : Graph) (earlier : List EdgeSpan) (s : EdgeSpan) (e : ℕ) (found : List (Option EdgeSpan)) (d : Option EdgeSpan) → found ≡ edge_spans earlier g → number_of g s.a s.b ≡ Some e
    → is_bad_span version g earlier s ≡ is_one version || (is_some (get_or found e d) || are_bad_delays s.delay_min s.delay_max)
bad_at version g earlier s e found d table named =
    let near : adjacent g s.a s.b ≡ true = sym (place_found (λ x. joins x s.a s.b) g.edges) ∙ ap is_some named in
    rw (near, table, (at_number g earlier s.a s.b e d named).1) refl

-- what a plan says of its edges, by their spans
pub texts_by_span : (t : PlanText) (g : Graph) → map (λ o. option_map_or span_given o (own_given t)) (edge_spans t.spans g) ≡ edges_given t g
texts_by_span t g = map-map (λ o. option_map_or span_given o (own_given t)) (λ e. span_between t.spans e.0 e.1) g.edges
