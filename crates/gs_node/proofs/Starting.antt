-- Lists of what was started, one by one.
use Rattle.std.proofs.Common.{◌≡◌, ◌∙◌, ◌⊎◌, ℕ, ◌<◌, ◌≤◌, ◌+◌, inl, inr, List, [], ◌∷◌, ◌++◌, map, length, All, Result, Ok, Err, sym, ap, subst, append_assoc, arith}
use Rattle.std.specs.List.{AllZip, sum_by}
use Rattle.std.proofs.lemmas.List.{map-append, length-map}
use Rattle.std.proofs.lemmas.List.Sums.{sum_by-append}
use Rattle.std.proofs.lemmas.List.Elements.{All-append, All-cons, All-nil, All-rest, All-head}
use Rattle.gs_io.specs.Causes.{Rose}
use Rattle.gs_io.proofs.Rising.{rose_from, rose_up}
use Rattle.gs_crew.specs.declared.tasks.Refused.{Refused}
use Rattle.gs_crew.specs.declared.tasks.Running.{Running}
use Rattle.gs_node.specs.inside.Begun.{of_task}

pub all_push : {X : Type 0} (xs now : List X) (x : X) → now ≡ xs ++ x ∷ [] → (P : X → Type 0) → All P xs → P x → All P now
all_push xs now x e P h p = subst (λ (z : List _). All P z) (sym e) (All-append P xs (x ∷ []) h (All-cons P x [] p (All-nil P)))

pub all_rest_at : {X : Type 0} (zs ys : List X) (x : X) → zs ≡ x ∷ ys → (P : X → Type 0) → All P zs → All P ys
all_rest_at zs ys x e P h = All-rest P x ys zs e h

pub all_head_at : {X : Type 0} (zs ys : List X) (x : X) → zs ≡ x ∷ ys → (P : X → Type 0) → All P zs → P x
all_head_at zs ys x e P h = All-head P x ys (subst (λ (z : List _). All P z) e h)

-- the same of what a list is mapped to
pub all_rest_of : {X Y : Type 0} (f : X → Y) (zs ys : List X) (x : X) → zs ≡ x ∷ ys → (P : Y → Type 0) → All P (map f zs) → All P (map f ys)
all_rest_of f zs ys x e P h = All-rest P (f x) (map f ys) (map f zs) (ap (map f) e) h

pub all_head_of : {X Y : Type 0} (f : X → Y) (zs ys : List X) (x : X) → zs ≡ x ∷ ys → (P : Y → Type 0) → All P (map f zs) → P (f x)
all_head_of f zs ys x e P h = All-head P (f x) (map f ys) (subst (λ (z : List _). All P z) (ap (map f) e) h)

-- one goes from the second list to the first
pub map_step : {X Y Z : Type 0} (f : X → Z) (h : Y → Z) (xs now : List X) (ys rest : List Y) (x : X) (y : Y) (all : List Z)
    → now ≡ xs ++ x ∷ [] → ys ≡ y ∷ rest → f x ≡ h y → map f xs ++ map h ys ≡ all → map f now ++ map h rest ≡ all
map_step f h xs now ys rest x y all e d same before =
    ap (λ (z : List _). z ++ map h rest) (ap (map f) e ∙ map-append f xs (x ∷ [])) ∙
    (append_assoc (map f xs) (f x ∷ []) (map h rest) ∙ (ap (λ (z : _). map f xs ++ (z ∷ map h rest)) same ∙ (ap (λ (z : List _). map f xs ++ map h z) (sym d) ∙ before)))

zip_push : {A B : Type 0} (R : A → B → Type 0) (xs : List A) (ys : List B) (x : A) (y : B) → AllZip R xs ys → R x y → AllZip R (xs ++ x ∷ []) (ys ++ y ∷ [])
zip_push R [] [] x y h r = (r, tt)
zip_push R [] (b ∷ ys) x y h r = absurd h
zip_push R (a ∷ xs) [] x y h r = absurd h
zip_push R (a ∷ xs) (b ∷ ys) x y h r = (h.0, zip_push R xs ys x y h.1 r)

-- one pair more at the end of both
pub zip_more : {A B I : Type 0} (R : A → B → Type 0) (f : I → B) (xs now : List A) (is more : List I) (x : A) (i : I)
    → now ≡ xs ++ x ∷ [] → more ≡ is ++ i ∷ [] → AllZip R xs (map f is) → R x (f i) → AllZip R now (map f more)
zip_more R f xs now is more x i e d h r =
    let m : map f more ≡ map f is ++ f i ∷ [] = ap (map f) d ∙ map-append f is (i ∷ []) in
    subst (λ (z : List _). AllZip R z (map f more)) (sym e) (subst (λ (z : List _). AllZip R (xs ++ x ∷ []) z) (sym m) (zip_push R xs (map f is) x (f i) h r))

-- what is known of a task's name is known of each part of it
pub part_is : {T Name X Y : Type 0} (r : Result (Running T Name) (Refused T)) (h : X → Y) (f : T → X) (x : X) (y : Y) → of_task f r ≡ x → h x ≡ y → of_task (λ t. h (f t)) r ≡ y
part_is (Ok running) h f x y e d = ap h e ∙ d
part_is (Err refused) h f x y e d = ap h e ∙ d

pub rose_either : (was : Type 0) (m k n : ℕ) → m ≤ k → k ≤ n → (was → Rose m k) → was ⊎ Rose k n → Rose m n
rose_either was m k n low le before h = elim h [ inl w ↦ rose_up m k n low (before w) le | inr r ↦ rose_from m k n low r ]

-- a fault of one of them, or of one more
pub fault_more : {I : Type 0} (f : I → ℕ) (is more : List I) (i : I) (was now : Type 0) → more ≡ is ++ i ∷ [] → was ⊎ now → (was → 0 < sum_by f is) → (now → 0 < f i) → 0 < sum_by f more
fault_more f is more i was now e which before one =
    let m : sum_by f more ≡ sum_by f is + sum_by f (i ∷ []) = ap (sum_by f) e ∙ sum_by-append f is (i ∷ []) in
    elim which [ inl w ↦ (let b = before w in omega arith) | inr n ↦ (let b = one n in omega arith) ]

pub as_many : {X Y Z : Type 0} (f : X → Z) (h : Y → Z) (xs : List X) (ys : List Y) → map f xs ≡ map h ys → length xs ≡ length ys
as_many f h xs ys e = let q : length (map f xs) ≡ length (map h ys) = ap length e in simp length-map at q

pub mapped_as_many : {X Y Z : Type 0} (f : Y → Z) (xs : List X) (ys : List Y) → length xs ≡ length (map f ys) → length xs ≡ length ys
mapped_as_many f xs ys e = simp length-map at e

pub map_as_many : {X Y : Type 0} (f : X → Y) (xs : List X) → length (map f xs) ≡ length xs
map_as_many f xs = simp length-map
