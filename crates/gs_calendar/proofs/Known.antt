-- What is known of the quanta to come, node by node.
use Rattle.std.proofs.Common.{◌≡◌, ℕ, suc, ◌+◌, ◌<◌, arith, ap, sym, ◌∙◌, subst, inl, inr, List, [], ◌∷◌, ◌++◌, length, slice_index_or, slice_set, get_or-set_same, get_or-set_other}
use Rattle.std.proofs.Math.Seq.{get_or-append_seam}
use Rattle.std.proofs.lemmas.Bool.{cases_lt}
use Rattle.std.proofs.lemmas.List.{get_or_append_left}
use Rattle.gs_run.specs.Net.{Net}
use Rattle.gs_calendar.specs.Course.{Course}
use Rattle.gs_calendar.specs.inside.Coming.{AreAhead}
use Rattle.gs_calendar.specs.declared.ahead.Ahead.{Ahead}
use Rattle.gs_calendar.proofs.Beginning.{incs_below, incs_more}

-- one more behind those that are so
pub each_pushed : {A : Type 0} (Is : ℕ → A → Type 0) (old new : List A) (x : A) → new ≡ old ++ x ∷ [] → Is (length old) x
    → ((k : ℕ) (d : A) → k < length old → Is k (slice_index_or old k d)) → (k : ℕ) (d : A) → k < length old + 1 → Is k (slice_index_or new k d)
each_pushed Is old new x pushed own each k d h = elim (cases_lt k (length old)) [
  | inl less ↦ subst (Is k) (sym (ap (λ xs. slice_index_or xs k d) pushed ∙ get_or_append_left old (x ∷ []) d k less)) (each k d less)
  | inr more ↦ (let e : length old ≡ k = omega (arith, h, more) in
      subst (Is k) (sym (ap (λ xs. slice_index_or xs k d) pushed ∙ ap (λ (n : ℕ). slice_index_or (old ++ x ∷ []) n d) (sym e) ∙ get_or-append_seam old x [] d)) (subst (λ (n : ℕ). Is n x) e own))
]

-- one more of the first that are so
pub each_set : {A : Type 0} (Is : ℕ → A → Type 0) (list : List A) (v : ℕ) (x : A) → v < length list → Is v x
    → ((k : ℕ) (d : A) → k < v → Is k (slice_index_or list k d)) → (k : ℕ) (d : A) → k < v + 1 → Is k (slice_index_or (slice_set list v x) k d)
each_set Is list v x inside own each k d h = elim (cases_lt k v) [
  | inl less ↦ subst (Is k) (sym (get_or-set_other list v k x d (λ same. omega (arith, same, less)))) (each k d less)
  | inr last ↦ (let e : v ≡ k = omega (arith, h, last) in
      subst (λ (n : ℕ). Is n (slice_index_or (slice_set list v x) n d)) e (subst (Is v) (sym (get_or-set_same list v x d inside)) own))
]

-- the increments of the first nodes, with one more
pub incs_next : (net : Net) (c : Course) (t v : ℕ) (list : List Ahead) (d : Ahead) (old new : List ℕ) → AreAhead net c t list → v < length list
    → old ≡ incs_below c t v → new ≡ old ++ (slice_index_or list v d).inc.value ∷ [] → new ≡ incs_below c t (v + 1)
incs_next net c t v list d old new are inside is pushed =
    let count = are.count in
    let own = (are.each v d (omega (arith, inside, count))).inc in
    let value : c.inc v t ≡ (slice_index_or list v d).inc.value = own.same t (omega arith) own.here in
    pushed ∙ ap (λ (xs : List ℕ). xs ++ (slice_index_or list v d).inc.value ∷ []) is ∙ ap (λ (x : ℕ). incs_below c t v ++ x ∷ []) (sym value) ∙ sym (incs_more c t v)

-- the next quantum, as the code counts it
pub ahead_later : (net : Net) (c : Course) (t : ℕ) (seen list : List Ahead) → seen ≡ list → AreAhead net c (suc t) list → AreAhead net c (t + 1) seen
ahead_later net c t seen list same are =
    let now : suc t ≡ t + 1 = omega arith in
    subst (λ (n : ℕ). AreAhead net c n seen) now (subst (AreAhead net c (suc t)) (sym same) are)

-- the gap that is asked of a node then
pub gap_asked : (net : Net) (c : Course) (t v : ℕ) (list : List Ahead) (d : Ahead) → AreAhead net c (suc t) list → v < net.nodes → (slice_index_or list v d).gap.value ≡ c.gap v (t + 1)
gap_asked net c t v list d are node =
    let gap = (are.each v d node).gap in
    let now : suc t ≡ t + 1 = omega arith in
    sym (gap.same (suc t) (omega arith) gap.here) ∙ ap (c.gap v) now
