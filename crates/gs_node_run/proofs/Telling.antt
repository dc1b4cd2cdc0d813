-- Lists that ports tell, one after the other.
use Rattle.std.proofs.Common.{◌≡◌, ◌∙◌, ℕ, ◌+◌, ◌<◌, List, [], ◌∷◌, ◌++◌, length, take, get_or, map, Option, Some, None, refl, ap, sym, subst, append_assoc, append-nil, All, length-append, arith}
use Rattle.std.specs.List.{AllZip}
use Rattle.std.proofs.lemmas.List.{map-append, take_more}
use Rattle.std.proofs.lemmas.List.Elements.{All-push}
use Rattle.gs_net.specs.Tales.{OnTold, added}
use Rattle.gs_net.specs.declared.lending.Ask.{Ask}
use Rattle.gs_net.specs.declared.lending.Ask.TheVariants as ask

-- what comes behind something else comes with it
pub then_told : {A : Type 0} (told : Option (List A)) (xs ys : List A) → OnTold (OnTold told (λ before. before ++ xs)) (λ before. before ++ ys) ≡ OnTold told (λ before. before ++ (xs ++ ys))
then_told None xs ys = refl
then_told (Some before) xs ys = ap (λ all. Some all) (append_assoc before xs ys)

pub none_told : {A : Type 0} (told : Option (List A)) → OnTold told (λ before. before ++ []) ≡ told
none_told None = refl
none_told (Some before) = ap (λ all. Some all) (append-nil before)

-- one inlet more was asked for
pub asked_more : (told now new : Option (List Ask)) (numbers : List ℕ) (i d : ℕ) → i < length numbers
    → now ≡ OnTold told (λ before. before ++ map (λ port. ask.Inlet port) (take i numbers))
    → new ≡ added now (ask.Inlet (get_or numbers i d))
    → new ≡ OnTold told (λ before. before ++ map (λ port. ask.Inlet port) (take (i + 1) numbers))
asked_more told now new numbers i d inside is more =
    let last : List Ask = ask.Inlet (get_or numbers i d) ∷ [] in
    let all : map (λ port. ask.Inlet port) (take (i + 1) numbers) ≡ map (λ port. ask.Inlet port) (take i numbers) ++ last =
    ap (map (λ port. ask.Inlet port)) (take_more numbers i d inside) ∙ map-append (λ port. ask.Inlet port) (take i numbers) (get_or numbers i d ∷ []) in
    more ∙ (ap (λ (z : Option (List Ask)). OnTold z (λ before. before ++ last)) is
    ∙ (then_told told (map (λ port. ask.Inlet port) (take i numbers)) last
    ∙ ap (λ (z : List Ask). OnTold told (λ before. before ++ z)) (sym all)))

pub zip_push : {A B : Type 0} (R : A → B → Type 0) (xs : List A) (ys : List B) (x : A) (y : B) → AllZip R xs ys → R x y → AllZip R (xs ++ x ∷ []) (ys ++ y ∷ [])
zip_push R [] [] x y all last = (last, tt)
zip_push R [] (b ∷ ys) x y all last = absurd all
zip_push R (a ∷ xs) [] x y all last = absurd all
zip_push R (a ∷ xs) (b ∷ ys) x y all last = (all.0, zip_push R xs ys x y all.1 last)

-- one more at the end of a list, and of what its elements tell
pub all_pushed : {A B : Type 0} (P : B → Type 0) (f : A → B) (xs ys : List A) (x : A) → ys ≡ xs ++ x ∷ [] → All P (map f xs) → P (f x) → All P (map f ys)
all_pushed P f xs ys x is all last = subst (All P) (sym (ap (map f) is ∙ map-append f xs (x ∷ []))) (All-push P (map f xs) (f x) all last)

pub zip_pushed : {A B : Type 0} (R : ℕ → B → Type 0) (f : A → B) (numbers : List ℕ) (i d : ℕ) (xs ys : List A) (x : A) → i < length numbers → ys ≡ xs ++ x ∷ []
    → AllZip R (take i numbers) (map f xs) → R (get_or numbers i d) (f x) → AllZip R (take (i + 1) numbers) (map f ys)
zip_pushed R f numbers i d xs ys x inside is all last =
    subst (AllZip R (take (i + 1) numbers)) (sym (ap (map f) is ∙ map-append f xs (x ∷ [])))
    (subst (λ (z : List ℕ). AllZip R z (map f xs ++ f x ∷ [])) (sym (take_more numbers i d inside)) (zip_push R (take i numbers) (map f xs) (get_or numbers i d) (f x) all last))

pub length_pushed : {A : Type 0} (xs ys : List A) (x : A) → ys ≡ xs ++ x ∷ [] → length ys ≡ length xs + 1
length_pushed xs ys x is = ap length is ∙ length-append xs (x ∷ [])

pub none_left : {A : Type 0} (xs : List A) → length xs ≡ 0 → xs ≡ []
none_left [] none = refl
none_left (x ∷ xs) none = absurd (omega (arith, none))
