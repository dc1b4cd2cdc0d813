-- One number more of a range, under the filters and maps of a graph's lists.
use Rattle.std.proofs.Common.{◌≡◌, ℕ, zero, suc, ◌+◌, ◌-◌, ◌≤◌, arith, ap, sym, refl, ◌∙◌, List, [], ◌∷◌, ◌++◌, append_assoc, map, cond, Bool, filter}
use Rattle.std.specs.List.{range_with_len, flat_map}
use Rattle.std.proofs.lemmas.List.{append-nil, map-append}
use Rattle.std.proofs.lemmas.List.Elements.{filter-append}

pub range_more : (a n : ℕ) → range_with_len a (n + 1) ≡ range_with_len a n ++ (a + n) ∷ []
range_more a zero = let e : a + 0 ≡ a = omega arith in rw e refl
range_more a (suc n) =
    let e : a + 1 + n ≡ a + suc n = omega arith in
    let rest : range_with_len (a + 1) (n + 1) ≡ range_with_len (a + 1) n ++ (a + 1 + n) ∷ [] = range_more (a + 1) n in
    let s : suc n + 1 ≡ suc (n + 1) = omega arith in
    rw s (ap (λ (xs : List ℕ). a ∷ xs) (rw e at rest))

pub filter_range_more : (p : ℕ → Bool) (w : ℕ) → filter p (range_with_len 0 (w + 1)) ≡ filter p (range_with_len 0 w) ++ cond (p w) (w ∷ []) []
filter_range_more p w =
    let e : 0 + w ≡ w = omega arith in
    let r : range_with_len 0 (w + 1) ≡ range_with_len 0 w ++ w ∷ [] = rw e at (range_more 0 w) in
    rw r (filter-append p (range_with_len 0 w) (w ∷ []))

pub row_more : (p : ℕ × ℕ → Bool) (a b : ℕ) → a + 1 ≤ b → filter p (map (λ x. (a, x)) (range_with_len (a + 1) (b + 1 - (a + 1))))
    ≡ filter p (map (λ x. (a, x)) (range_with_len (a + 1) (b - (a + 1)))) ++ cond (p (a, b)) ((a, b) ∷ []) []
row_more p a b h =
    let count : b + 1 - (a + 1) ≡ b - (a + 1) + 1 = omega arith in
    let last : a + 1 + (b - (a + 1)) ≡ b = omega arith in
    let r : range_with_len (a + 1) (b - (a + 1) + 1) ≡ range_with_len (a + 1) (b - (a + 1)) ++ b ∷ [] = rw last at (range_more (a + 1) (b - (a + 1))) in
    rw (count, r, map-append {B = ℕ × ℕ} (λ (x : ℕ). (a, x)) (range_with_len (a + 1) (b - (a + 1))) (b ∷ [])) (filter-append p (map (λ x. (a, x)) (range_with_len (a + 1) (b - (a + 1)))) ((a, b) ∷ []))

pub flat_map-append : {X Y : Type 0} (f : X → List Y) (xs ys : List X) → flat_map f (xs ++ ys) ≡ flat_map f xs ++ flat_map f ys
flat_map-append f [] ys = refl
flat_map-append f (x ∷ xs) ys = ap (λ zs. f x ++ zs) (flat_map-append f xs ys) ∙ sym (append_assoc (f x) (flat_map f xs) (flat_map f ys))

pub flat_range_more : {Y : Type 0} (f : ℕ → List Y) (a : ℕ) → flat_map f (range_with_len 0 (a + 1)) ≡ flat_map f (range_with_len 0 a) ++ f a
flat_range_more f a =
    let e : 0 + a ≡ a = omega arith in
    let r : range_with_len 0 (a + 1) ≡ range_with_len 0 a ++ a ∷ [] = rw e at (range_more 0 a) in
    rw r (flat_map-append f (range_with_len 0 a) (a ∷ []) ∙ ap (λ zs. flat_map f (range_with_len 0 a) ++ zs) (append-nil (f a)))

pub pairs_more : (p : ℕ × ℕ → Bool) (row : ℕ → List (ℕ × ℕ)) (a : ℕ) → filter p (flat_map row (range_with_len 0 (a + 1))) ≡ filter p (flat_map row (range_with_len 0 a)) ++ filter p (row a)
pairs_more p row a = rw (flat_range_more row a) (filter-append p (flat_map row (range_with_len 0 a)) (row a))

pub map_range_more : {Y : Type 0} (f : ℕ → Y) (n : ℕ) → map f (range_with_len 0 (n + 1)) ≡ map f (range_with_len 0 n) ++ f n ∷ []
map_range_more f n =
    let e : 0 + n ≡ n = omega arith in
    let r : range_with_len 0 (n + 1) ≡ range_with_len 0 n ++ n ∷ [] = rw e at (range_more 0 n) in
    rw r (map-append f (range_with_len 0 n) (n ∷ []))
