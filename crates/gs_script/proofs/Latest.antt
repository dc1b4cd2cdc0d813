-- The places that are kept for a part of the records.
use Rattle.std.proofs.Common.{zero, suc, add-one, Some, ◌&&◌, ◌≡◌, ◌∙◌, ◌<◌, ◌≤◌, ◌+◌, ◌-◌, arith, ℕ, List, [], ◌∷◌, ◌++◌, length, drop, take, filter, get_or, slice_index_or, subst, cond, Bool, true, false, refl, sym, ap}
use Rattle.std.specs.Prelude.{slice_get}
use Rattle.std.proofs.lemmas.List.{append-nil, get_or-map, length-map, drop_all, drop_more, take_all}
use Rattle.std.proofs.lemmas.List.Elements.{filter-append, filter_more}
use Rattle.std.proofs.lemmas.Bool.{and_parts}
use Rattle.gs_script.specs.declared.line.Line.{Line}
use Rattle.gs_script.specs.declared.line.Who.{Who}
use Rattle.gs_script.specs.declared.line.Setting.{Setting}
use Rattle.gs_script.specs.declared.line.Setting.TheVariants as sets
use Rattle.gs_script.specs.declared.line.Part.{Part}
use Rattle.gs_script.specs.declared.line.Part.TheVariants as part
use Rattle.gs_script.specs.declared.line.Who.TheVariants.{Every, One}
use Rattle.gs_script.specs.inside.Kept.{home, home_of, homes_in, is_at, is_in, is_same, latest}

-- any record of some
some_line : (lines : List Line) → 0 < length lines → Line
some_line [] h = absurd (omega (arith, h))
some_line (l ∷ lines) h = l

-- no record is left
pub latest-end : (p : Setting → Bool) (lines : List Line) (i : ℕ) → length lines ≤ i → latest p i (drop i lines) ≡ []
unfolding latest
latest-end p lines i h = rw (drop_all i lines h)

-- one record more that passes
pub latest-more : (p : Setting → Bool) (lines : List Line) (i : ℕ) (l : Line) → i < length lines → p (get_or lines i l).setting ≡ true → latest p i (drop i lines) ≡ latest p (i + 1) (drop (i + 1) lines) ++ i ∷ []
unfolding latest
latest-more p lines i l h e = rw (drop_more lines i l h, e)

-- one that does not
pub latest-same : (p : Setting → Bool) (lines : List Line) (i : ℕ) (l : Line) → i < length lines → p (get_or lines i l).setting ≡ false → latest p i (drop i lines) ≡ latest p (i + 1) (drop (i + 1) lines)
unfolding latest
latest-same p lines i l h e = rw (drop_more lines i l h, e) (append-nil _)

-- so where a loop goes down to the place before
pub latest_down-more : (p : Setting → Bool) (lines : List Line) (i : ℕ) → 0 < i → i ≤ length lines → ((l : Line) → p (get_or lines (i - 1) l).setting ≡ true)
    → latest p (i - 1) (drop (i - 1) lines) ≡ latest p i (drop i lines) ++ (i - 1) ∷ []
latest_down-more p lines i some inside e =
    let l : Line = some_line lines (omega (arith, some, inside)) in
    let same : i - 1 + 1 ≡ i = omega (arith, some) in
    latest-more p lines (i - 1) l (omega (arith, some, inside)) (e l) ∙ ap (λ (k : ℕ). latest p k (drop k lines) ++ (i - 1) ∷ []) same

pub latest_down-same : (p : Setting → Bool) (lines : List Line) (i : ℕ) → 0 < i → i ≤ length lines → ((l : Line) → p (get_or lines (i - 1) l).setting ≡ false)
    → latest p (i - 1) (drop (i - 1) lines) ≡ latest p i (drop i lines)
latest_down-same p lines i some inside e =
    let l : Line = some_line lines (omega (arith, some, inside)) in
    let same : i - 1 + 1 ≡ i = omega (arith, some) in
    latest-same p lines (i - 1) l (omega (arith, some, inside)) (e l) ∙ ap (λ (k : ℕ). latest p k (drop k lines)) same

-- who keeps the record at a place
pub home_at : (homes : List Who) (lines : List Line) (i : ℕ) (l : Line) (w : Who) → homes ≡ homes_in lines → i < length homes → slice_index_or homes i w ≡ home (slice_index_or lines i l).setting
home_at homes lines i l w same inside =
    ap (λ (xs : List Who). slice_index_or xs i w) same
    ∙ get_or-map (λ (x : Line). home x.setting) lines i l w (subst (λ (n : ℕ). i < n) (ap length same ∙ length-map lines (λ (x : Line). home x.setting)) inside)

pub ruleset steps = (latest-end, latest-more, latest-same)

pub drop_tail : (full ls : List Line) (l : Line) (k : ℕ) → drop k full ≡ l ∷ ls → drop (suc k) full ≡ ls
drop_tail [] ls l zero h = cc h
drop_tail [] ls l (suc k) h = cc h
drop_tail (x ∷ full) ls l zero h = ap (drop 1) h
drop_tail (x ∷ full) ls l (suc k) h = drop_tail full ls l k h

pub get_head : (full ls : List Line) (l : Line) (k : ℕ) → drop k full ≡ l ∷ ls → slice_get full k ≡ Some l
get_head [] ls l zero h = cc h
get_head [] ls l (suc k) h = cc h
get_head (x ∷ full) ls l zero h = ap (λ (ys : List Line). slice_get ys 0) h
get_head (x ∷ full) ls l (suc k) h = get_head full ls l k h

-- a record of a part is kept by the node of the part
in_home : (x : Part) (s : Setting) → is_in x s ≡ true → is_same (home s) (home_of x) ≡ true
in_home (part.Drift who) (sets.Drift node inc) h = h
in_home (part.Drift who) (sets.Tick node gap) h = cc
in_home (part.Drift who) (sets.Delay from to quanta) h = cc
in_home (part.Drift who) (sets.Loss from to is_lost) h = cc
in_home (part.Tick who) (sets.Drift node inc) h = cc
in_home (part.Tick who) (sets.Tick node gap) h = h
in_home (part.Tick who) (sets.Delay from to quanta) h = cc
in_home (part.Tick who) (sets.Loss from to is_lost) h = cc
in_home (part.Delay v w) (sets.Drift node inc) h = cc
in_home (part.Delay v w) (sets.Tick node gap) h = cc
in_home (part.Delay Every w) (sets.Delay Every to quanta) h = h
in_home (part.Delay (One v) w) (sets.Delay Every to quanta) h = cc
in_home (part.Delay Every w) (sets.Delay (One x) to quanta) h = cc
in_home (part.Delay (One v) w) (sets.Delay (One x) to quanta) h = (and_parts (is_same (One x) (One v)) (is_same to w) h).0
in_home (part.Delay v w) (sets.Loss from to is_lost) h = cc
in_home (part.Loss v w) (sets.Drift node inc) h = cc
in_home (part.Loss v w) (sets.Tick node gap) h = cc
in_home (part.Loss v w) (sets.Delay from to quanta) h = cc
in_home (part.Loss Every w) (sets.Loss Every to is_lost) h = h
in_home (part.Loss (One v) w) (sets.Loss Every to is_lost) h = cc
in_home (part.Loss Every w) (sets.Loss (One x) to is_lost) h = cc
in_home (part.Loss (One v) w) (sets.Loss (One x) to is_lost) h = (and_parts (is_same (One x) (One v)) (is_same to w) h).0

-- the places that pass the second of two tests stand among those that pass the first, where it is weaker
latest-filter : (p q : Setting → Bool) → ((s : Setting) → q s ≡ true → p s ≡ true) → (full ls : List Line) (k : ℕ) → drop k full ≡ ls → filter (is_at q full) (latest p k ls) ≡ latest q k ls
unfolding latest
latest-filter p q weak full [] k h = refl
latest-filter p q weak full (l ∷ ls) k h =
    let tail : drop (k + 1) full ≡ ls = rw add-one (drop_tail full ls l k h) in
    filter-append (is_at q full) (latest p (k + 1) ls) (cond (p l.setting) (k ∷ []) [])
    ∙ rw (latest-filter p q weak full ls (k + 1) tail) (ap (λ ps. latest q (k + 1) ls ++ ps) (pick (p l.setting) (q l.setting) refl refl))
  where
    here : is_at q full k ≡ q l.setting
    here = rw (get_head full ls l k h) refl

    pick : (a b : Bool) → p l.setting ≡ a → q l.setting ≡ b → filter (is_at q full) (cond a (k ∷ []) []) ≡ cond b (k ∷ []) []
    pick true true u w = rw (here, w) refl
    pick true false u w = rw (here, w) refl
    pick false false u w = refl
    pick false true u w = (let e : p l.setting ≡ true = weak l.setting w in let clash : true ≡ false = sym e ∙ u in cc)

-- the places of a part stand among those that its node keeps
pub chosen : (x : Part) (lines : List Line) → filter (is_at (is_in x) lines) (latest (λ s. is_same (home s) (home_of x)) 0 lines) ≡ latest (is_in x) 0 lines
chosen x lines = latest-filter (λ s. is_same (home s) (home_of x)) (is_in x) (in_home x) lines lines 0 refl

-- one place more that passes
pub chosen-more : (p : ℕ → Bool) (ps : List ℕ) (i : ℕ) → i < length ps → p (get_or ps i 0) ≡ true → filter p (take (i + 1) ps) ≡ filter p (take i ps) ++ get_or ps i 0 ∷ []
chosen-more p ps i h e = filter_more p ps i 0 h ∙ rw e refl

-- one that does not
pub chosen-same : (p : ℕ → Bool) (ps : List ℕ) (i : ℕ) → i < length ps → p (get_or ps i 0) ≡ false → filter p (take (i + 1) ps) ≡ filter p (take i ps)
chosen-same p ps i h e = filter_more p ps i 0 h ∙ rw e (append-nil _)

pub ruleset choices = (chosen, chosen-more, chosen-same, take_all)
