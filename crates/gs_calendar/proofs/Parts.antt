-- Lists of nodes and of events, taken apart.
use Rattle.std.proofs.Common.{◌≡◌, ◌≢◌, ℕ, zero, suc, ◌+◌, ◌-◌, ◌<◌, ◌≤◌, arith, ap, refl, ◌∙◌, List, [], ◌∷◌, ◌++◌, map, filter, Bool, true, false, cond}
use Rattle.std.specs.List.{flat_map, range_with_len, AllByRecursion}
use Rattle.std.proofs.lemmas.List.Concat.{flat_map-append}
use Rattle.std.proofs.lemmas.List.Elements.{filter-append, recursion_from_All}
use Rattle.gs_topo.proofs.Members.{range_below}

-- ---- what holds of each

pub each_append : {X : Type 0} (P : X → Type 0) (xs ys : List X) → AllByRecursion P xs → AllByRecursion P ys → AllByRecursion P (xs ++ ys)
each_append P [] ys h k = k
each_append P (x ∷ xs) ys h k = (h.0, each_append P xs ys h.1 k)

pub each_map : {X Y : Type 0} (P : Y → Type 0) (f : X → Y) (xs : List X) → AllByRecursion (λ x. P (f x)) xs → AllByRecursion P (map f xs)
each_map P f [] h = tt
each_map P f (x ∷ xs) h = (h.0, each_map P f xs h.1)

pub each_flat : {X Y : Type 0} (P : Y → Type 0) (f : X → List Y) (xs : List X) → AllByRecursion (λ x. AllByRecursion P (f x)) xs → AllByRecursion P (flat_map f xs)
each_flat P f [] h = tt
each_flat P f (x ∷ xs) h = each_append P (f x) (flat_map f xs) h.0 (each_flat P f xs h.1)

pub each_weaker : {X : Type 0} (P Q : X → Type 0) → ((x : X) → P x → Q x) → (xs : List X) → AllByRecursion P xs → AllByRecursion Q xs
each_weaker P Q f [] h = tt
each_weaker P Q f (x ∷ xs) h = (f x h.0, each_weaker P Q f xs h.1)

pub each_any : {X : Type 0} (P : X → Type 0) → ((x : X) → P x) → (xs : List X) → AllByRecursion P xs
each_any P f [] = tt
each_any P f (x ∷ xs) = (f x, each_any P f xs)

one_kept : {X : Type 0} (P : X → Type 0) (p : X → Bool) (x : X) (xs : List X) (b : Bool) → p x ≡ b → P x → AllByRecursion (λ y. P y × (p y ≡ true)) (filter p xs) → AllByRecursion (λ y. P y × (p y ≡ true)) (cond b (x ∷ filter p xs) (filter p xs))
one_kept P p x xs true e h k = ((h, e), k)
one_kept P p x xs false e h k = k

-- what a filter keeps passes, and is still what it was
pub each_kept : {X : Type 0} (P : X → Type 0) (p : X → Bool) (xs : List X) → AllByRecursion P xs → AllByRecursion (λ x. P x × (p x ≡ true)) (filter p xs)
each_kept P p [] h = tt
each_kept P p (x ∷ xs) h = one_kept P p x xs (p x) refl h.0 (each_kept P p xs h.1)

pub each_in_range : (a n : ℕ) → AllByRecursion (λ x. (a ≤ x) × (x < a + n)) (range_with_len a n)
each_in_range a n = recursion_from_All _ (range_with_len a n) (range_below a n)

-- ---- a node among others

range_split : (a m n : ℕ) → range_with_len a (m + suc n) ≡ range_with_len a m ++ (a + m) ∷ range_with_len (a + m + 1) n
range_split a zero n = let e : zero + suc n ≡ suc n = omega arith in let s : a + zero ≡ a = omega arith in rw (e, s)
range_split a (suc m) n =
    let e : suc m + suc n ≡ suc (m + suc n) = omega arith in
    let s : a + suc m ≡ a + 1 + m = omega arith in
    rw (e, s) (ap (λ xs. a ∷ xs) (range_split (a + 1) m n))

-- the nodes before v, v, and those after it
nodes_split : (n v : ℕ) → v < n → range_with_len 0 n ≡ range_with_len 0 v ++ v ∷ range_with_len (v + 1) (n - v - 1)
nodes_split n v h =
    let e : n ≡ v + suc (n - v - 1) = omega arith in
    ap (λ k. range_with_len 0 k) e ∙ range_split 0 v (n - v - 1) ∙ (let s : 0 + v ≡ v = omega arith in rw s)

pub flat_split : {Y : Type 0} (f : ℕ → List Y) (n v : ℕ) → v < n → flat_map f (range_with_len 0 n) ≡ flat_map f (range_with_len 0 v) ++ (f v ++ flat_map f (range_with_len (v + 1) (n - v - 1)))
flat_split f n v h = ap (flat_map f) (nodes_split n v h) ∙ flat_map-append f (range_with_len 0 v) (v ∷ range_with_len (v + 1) (n - v - 1))

pub filter_split : (p : ℕ → Bool) (n v : ℕ) → v < n → filter p (range_with_len 0 n) ≡ filter p (range_with_len 0 v) ++ (cond (p v) (v ∷ []) [] ++ filter p (range_with_len (v + 1) (n - v - 1)))
filter_split p n v h = ap (filter p) (nodes_split n v h) ∙ filter-append p (range_with_len 0 v) (v ∷ range_with_len (v + 1) (n - v - 1)) ∙ ap (λ xs. filter p (range_with_len 0 v) ++ xs) (one (p v))
  where
    one : (b : Bool) → cond b (v ∷ filter p (range_with_len (v + 1) (n - v - 1))) (filter p (range_with_len (v + 1) (n - v - 1))) ≡ cond b (v ∷ []) [] ++ filter p (range_with_len (v + 1) (n - v - 1))
    one true = refl
    one false = refl

-- the nodes before v and after it are not v
pub others_before : (v : ℕ) → AllByRecursion (λ x. x ≢ v) (range_with_len 0 v)
others_before v = each_weaker _ (λ x. x ≢ v) (λ x h e. omega (arith, h.1, e)) (range_with_len 0 v) (each_in_range 0 v)

pub others_after : (v n : ℕ) → AllByRecursion (λ x. x ≢ v) (range_with_len (v + 1) n)
others_after v n = each_weaker _ (λ x. x ≢ v) (λ x h e. omega (arith, h.0, e)) (range_with_len (v + 1) n) (each_in_range (v + 1) n)
