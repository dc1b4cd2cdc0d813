-- Lists of snaps and their beginnings.
use Rattle.std.proofs.Common.{max, zero-le, le_refl, ◌<◌, ◌+◌, arith, ◌≡◌, ℕ, ◌≤◌, Bool, true, false, nat_lt, if◌then◌else◌, List, [], ◌∷◌, ◌++◌, refl, sym, ◌∙◌, ap, append-nil, append_assoc, length, take, drop, Option, Some, None, Result, Ok, Err, IsOk, MatchResult}
use Rattle.std.proofs.lemmas.List.{length-append, length-drop, take-append-drop, drop_at, drop_all}
use Rattle.gs_view.specs.Lists.{StartsWith, Rises, last_in, last_or, last_place, joined, or_none}
use Rattle.gs_view.specs.Answers.{answer_at, value_of}
use Rattle.gs_view.specs.Rule.{longer, Sees}
use Rattle.gs_view.specs.Telling.{Shows, IsBelow}
use Rattle.gs_units.specs.declared.rate.Rate.{Rate}
use Rattle.gs_view.specs.declared.snaps.Snap.{Snap}
use Rattle.gs_view.specs.declared.shown.Shown.{Shown}

pub begins_all : (xs : List Snap) → StartsWith xs xs
begins_all xs = ([], sym (append-nil xs))

pub begins_nil : (xs : List Snap) → StartsWith xs []
begins_nil xs = (xs, refl)

pub begins_more : (xs ys rest : List Snap) → StartsWith xs ys → StartsWith (xs ++ rest) ys
begins_more xs ys rest h = (h.0 ++ rest, ap (λ zs. zs ++ rest) h.1 ∙ append_assoc ys h.0 rest)

whole_of : (xs ys rest : List Snap) → xs ≡ ys ++ rest → length xs ≡ length ys → xs ≡ ys
whole_of xs ys [] is e = is ∙ append-nil ys
whole_of xs ys (r ∷ rest) is e = absurd (omega (arith, length-append ys (r ∷ rest), ap length is, e))

-- a list that begins with another and is no longer is that one
pub whole : (xs ys : List Snap) → StartsWith xs ys → length xs ≡ length ys → xs ≡ ys
whole xs ys h e = whole_of xs ys h.0 h.1 e

pub last_snoc : (xs : List Snap) (s : Snap) → last_in (xs ++ s ∷ []) ≡ Some s
last_snoc [] s = refl
last_snoc (x ∷ []) s = refl
last_snoc (x ∷ y ∷ ys) s = last_snoc (y ∷ ys) s

one_more_of : (xs ys rest : List Snap) (s : Snap) → xs ≡ ys ++ rest → length xs ≡ length ys + 1 → last_in xs ≡ Some s → xs ≡ ys ++ s ∷ []
one_more_of xs ys [] s is e last = absurd (omega (arith, length-append ys [], ap length is, e))
one_more_of xs ys (r ∷ []) s is e last =
    let same : Some r ≡ Some s = sym (last_snoc ys r) ∙ (sym (ap last_in is) ∙ last) in
    is ∙ ap (λ (o : Option Snap). ys ++ last_or r o ∷ []) same
one_more_of xs ys (r ∷ q ∷ rest) s is e last = absurd (omega (arith, length-append ys (r ∷ q ∷ rest), ap length is, e))

-- a list that begins with another and is longer by one, with this last snap
pub one_more : (xs ys : List Snap) (s : Snap) → StartsWith xs ys → length xs ≡ length ys + 1 → last_in xs ≡ Some s → xs ≡ ys ++ s ∷ []
one_more xs ys s h e last = one_more_of xs ys h.0 s h.1 e last

pub rises_snoc : (n : ℕ) (xs : List Snap) (s : Snap) → Rises n xs → last_place n xs ≤ s.place → Rises n (xs ++ s ∷ [])
rises_snoc n [] s h le = (le, tt)
rises_snoc n (x ∷ xs) s h le = (h.0, rises_snoc x.place xs s h.1 le)

either_begins : (c : Bool) (snaps v w : List Snap) → StartsWith snaps v → StartsWith snaps w → StartsWith snaps (if c then w else v)
either_begins true snaps v w a b = b
either_begins false snaps v w a b = a

pub longer_begins : (snaps v w : List Snap) → StartsWith snaps v → StartsWith snaps w → StartsWith snaps (longer v w)
longer_begins snaps v w a b = either_begins (nat_lt (length v) (length w)) snaps v w a b

pub last_place_up : (n : ℕ) (xs : List Snap) → last_place 0 xs ≤ last_place n xs
last_place_up n [] = zero-le
last_place_up n (x ∷ xs) = le_refl _

last_or_last : (f g x : Snap) (ys : List Snap) → last_or g (last_in (x ∷ ys)) ≡ last_or f (last_in (x ∷ ys))
last_or_last f g x [] = refl
last_or_last f g x (y ∷ ys) = last_or_last f g y ys

-- the place of the last of a first snap and others
pub last_place_of : (f : Snap) (xs : List Snap) → last_place f.place xs ≡ (last_or f (last_in xs)).place
last_place_of f [] = refl
last_place_of f (x ∷ []) = refl
last_place_of f (x ∷ y ∷ ys) = last_place_of x (y ∷ ys) ∙ ap (λ (o : Snap). o.place) (last_or_last f x y ys)

answer_of : (rate : Rate) (f : Snap) (xs : List Snap) (last hw : ℕ) → answer_at rate (f ∷ xs) last hw ≡ max last (value_of rate (last_or f (last_in xs)) hw)
answer_of rate f [] last hw = refl
answer_of rate f (x ∷ []) last hw = refl
answer_of rate f (x ∷ y ∷ ys) last hw = answer_of rate x (y ∷ ys) last hw ∙ ap (λ (s : Snap). max last (value_of rate s hw)) (last_or_last f x y ys)

-- the answer by the last of a first snap and others
pub answers : (rate : Rate) (f s : Snap) (xs : List Snap) (o : Option Snap) (last hw value : ℕ) → last_in xs ≡ o → s ≡ last_or f o → value ≡ value_of rate s hw
    → max last value ≡ answer_at rate (f ∷ xs) last hw
answers rate f s xs o last hw value is at of =
    ap (λ (n : ℕ). max last n) of ∙ (ap (λ (z : Snap). max last (value_of rate z hw)) (at ∙ ap (last_or f) (sym is)) ∙ sym (answer_of rate f xs last hw))

last_behind : (xs ys : List Snap) → 0 < length ys → last_in (xs ++ ys) ≡ last_in ys
last_behind [] ys some = refl
last_behind (x ∷ []) [] some = absurd (omega (arith, some))
last_behind (x ∷ []) (y ∷ ys) some = refl
last_behind (x ∷ z ∷ zs) ys some = last_behind (z ∷ zs) ys some

-- a note with fewer snaps leaves the last snap and their number as they are
pub joined_below : (late : Option (List Snap)) (known : List Snap) → IsBelow late known
    → (last_in (joined (or_none late) known) ≡ last_in known) × (length (joined (or_none late) known) ≡ length known)
joined_below None known below = (refl, refl)
joined_below (Some note) known below =
    let n = length note in
    let rest = drop n known in
    let count = length-drop n known in
    let some : 0 < length rest = omega (arith, count, below) in (
      last_behind note rest some ∙ (sym (last_behind (take n known) rest some) ∙ ap last_in (take-append-drop n known)),
      length-append note rest ∙ omega (arith, count, below),
    )

pub publishes_one : (v w : List Snap) (x y : Shown) (s : Snap) → Shows x v → y ≡ record { count = x.count + 1; last = Some s } → Sees v x y w → w ≡ v ++ s ∷ []
publishes_one v w x y s knows is sees =
    one_more w v s sees.0 (let a = sees.1.0 in let b = ap (λ (z : Shown). z.count) is in let c = knows.0 in omega arith) (sees.1.1 ∙ ap (λ (z : Shown). z.last) is)

pub of_ok : {A E : Type 0} (P : A → Type 0) (Q : E → Type 0) (r : Result A E) → IsOk r → MatchResult r P Q → (a : A) × P a
of_ok P Q (Ok a) ok h = (a, h)
of_ok P Q (Err e) ok h = absurd (cc ok)

-- a note that looked again, before what was known beyond it: it begins with the note, and no snap is lost
pub joined_begins : (f : Snap) (note handle known : List Snap) → StartsWith handle note → StartsWith (f ∷ joined handle known) (f ∷ note)
joined_begins f note handle known h =
    (h.0 ++ drop (length handle) known, ap (λ (xs : List Snap). f ∷ xs ++ drop (length handle) known) h.1 ∙ ap (λ (xs : List Snap). f ∷ xs) (append_assoc note h.0 (drop (length handle) known)))

pub joined_older : (note known : List Snap) → StartsWith known note → joined note known ≡ known
joined_older note known h = ap (λ (xs : List Snap). note ++ xs) (ap (drop (length note)) h.1 ∙ drop_at note h.0 (length note) refl) ∙ sym h.1

pub joined_newer : (note known : List Snap) → StartsWith note known → joined note known ≡ note
joined_newer note known h =
    let le : length known ≤ length note = omega (arith, ap length h.1, length-append known h.0) in
    ap (λ (xs : List Snap). note ++ xs) (drop_all (length note) known le) ∙ append-nil note
