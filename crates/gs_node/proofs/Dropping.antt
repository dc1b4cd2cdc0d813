-- How many datagrams were dropped at all inlets.
use Rattle.std.proofs.Common.{◌≡◌, ◌∙◌, ℕ, ◌+◌, List, [], ◌∷◌, ◌++◌, map, length, Option, Some, None, sym, refl, ap, subst, arith}
use Rattle.std.proofs.lemmas.List.{map-append, length-map}
use Rattle.gs_units.specs.declared.params.NodeParams.{NodeParams}
use Rattle.gs_net.specs.Tales.{Tale}
use Rattle.gs_callers.specs.Seats.{Drops, unwanted_at}
use Rattle.gs_node.specs.Handing.{IsDropped, added, unwanted_in}

some_same : {A : Type 0} (a b : A) → Some a ≡ Some b → a ≡ b
some_same a b e = cc

pub first_part : (a b : Option ℕ) (k : ℕ) → added a b ≡ Some k → (i : ℕ) × (j : ℕ) × (a ≡ Some i) × (b ≡ Some j) × (k ≡ i + j)
first_part None b k e = absurd (cc)
first_part (Some i) None k e = absurd (cc)
first_part (Some i) (Some j) k e = (i, j, refl, refl, sym (some_same _ _ e))

added_assoc : (a b c : Option ℕ) → added a (added b c) ≡ added (added a b) c
added_assoc None b c = refl
added_assoc (Some i) None c = refl
added_assoc (Some i) (Some j) None = refl
added_assoc (Some i) (Some j) (Some k) = ap (λ (z : ℕ). Some z) (omega arith)

added_end : (a : Option ℕ) → added a (Some 0) ≡ added (Some 0) a
added_end None = refl
added_end (Some i) = ap (λ (z : ℕ). Some z) (omega arith)

in_more : (p : NodeParams) (ws : List (Option ℕ)) (ts : List (Option Tale)) (w : Option ℕ) (t : Option Tale) → length ws ≡ length ts → unwanted_in p (ws ++ w ∷ []) (ts ++ t ∷ []) ≡ added (unwanted_in p ws ts) (unwanted_at p w t)
in_more p [] [] w t n = added_end (unwanted_at p w t)
in_more p [] (u ∷ ts) w t n = absurd (omega (arith, n))
in_more p (v ∷ ws) [] w t n = absurd (omega (arith, n))
in_more p (v ∷ ws) (u ∷ ts) w t n =
    let m : length ws ≡ length ts = omega (arith, n) in
    ap (added (unwanted_at p v u)) (in_more p ws ts w t m) ∙ added_assoc (unwanted_at p v u) (unwanted_in p ws ts) (unwanted_at p w t)

pair_more : (p : NodeParams) (ws : List (Option ℕ)) (ts : List (Option Tale)) (w : Option ℕ) (t : Option Tale) (a b c : ℕ) → length ws ≡ length ts → c ≡ a + b → IsDropped p ws ts a → Drops p w t b → IsDropped p (ws ++ w ∷ []) (ts ++ t ∷ []) c
pair_more p ws ts w t a b c n sum before one = λ k e.
    let parts = first_part (unwanted_in p ws ts) (unwanted_at p w t) k (sym (in_more p ws ts w t n) ∙ e) in
    let l : a ≡ parts.0 = before parts.0 parts.2 in
    let r : b ≡ parts.1 = one parts.1 parts.3 in
    omega (arith, sum, l, r, parts.4)

-- with one receiver more
pub dropped_more : {S I : Type 0} (p : NodeParams) (f : I → Option Tale) (h : S → Option ℕ) (ss now : List S) (is more : List I) (s : S) (i : I) (a b c : ℕ)
    → now ≡ ss ++ s ∷ [] → more ≡ is ++ i ∷ [] → length ss ≡ length is → c ≡ a + b → IsDropped p (map h ss) (map f is) a → Drops p (h s) (f i) b
    → IsDropped p (map h now) (map f more) c
dropped_more p f h ss now is more s i a b c e d n sum before one =
    let left : map h now ≡ map h ss ++ h s ∷ [] = ap (map h) e ∙ map-append h ss (s ∷ []) in
    let right : map f more ≡ map f is ++ f i ∷ [] = ap (map f) d ∙ map-append f is (i ∷ []) in
    let l : length (map h ss) ≡ length ss = simp length-map in
    let r : length (map f is) ≡ length is = simp length-map in
    let m : length (map h ss) ≡ length (map f is) = l ∙ (n ∙ sym r) in
    subst (λ (z : List (Option ℕ)). IsDropped p z (map f more) c) (sym left) (subst (λ (z : List (Option Tale)). IsDropped p (map h ss ++ h s ∷ []) z c) (sym right) (pair_more p (map h ss) (map f is) (h s) (f i) a b c m sum before one))
