-- The number of the last record of some: of parts of them, and what it sets.
use Rattle.std.proofs.Common.{◌≡◌, ◌∙◌, ◌+◌, ◌-◌, ◌==◌, ◌<◌, ◌≤◌, ℕ, max, cond, Bool, true, false, ◌&&◌, ◌||◌, List, [], ◌∷◌, ◌++◌, drop, take, Option, Some, None, is_some, unwrap_or, ◌⊎◌, zero, suc, add-one, inl, inr, refl, sym, ap, arith}
use Rattle.std.specs.Prelude.{option_and_then, slice_get}
use Rattle.std.specs.Option.{option_or}
use Rattle.std.proofs.lemmas.Bool.Decides.{nat_tests}
use Rattle.gs_script.specs.declared.kept.BeaconRuns.{BeaconRuns}
use Rattle.gs_script.specs.declared.kept.ClockRuns.{ClockRuns}
use Rattle.gs_script.specs.declared.line.Line.{Line}
use Rattle.gs_script.specs.declared.line.Part.TheVariants as part
use Rattle.gs_script.specs.declared.line.Setting.{Setting}
use Rattle.gs_script.specs.declared.line.Setting.TheVariants as sets
use Rattle.gs_script.specs.declared.line.Who.TheVariants.{Every, One}
use Rattle.gs_script.specs.inside.Kept.{AreBeacons, IsClock, delay_set, gap_set, greatest, inc_set, is_in, is_lost_set, last_number, latest, number_in, setting_of}
use Rattle.gs_script.specs.Lines.{delay_said, gap_said, holds, inc_said, is_for, last_said, loss_said}
use Rattle.gs_script.specs.Lasts.{Lasts}
use Rattle.gs_script.specs.inside.Runs.{value_at}
use Rattle.gs_script.proofs.Latest.{drop_tail, get_head}

-- ---- the greatest number of places

greatest-append : (t : ℕ) (lines : List Line) (xs ys : List ℕ) → greatest t lines (xs ++ ys) ≡ max (greatest t lines xs) (greatest t lines ys)
unfolding greatest
greatest-append t lines [] ys = omega arith
greatest-append t lines (i ∷ xs) ys = (let rest = greatest-append t lines xs ys in omega (arith, rest))

-- that of a list is the greater of those of its halves
pub greatest-halves : (t : ℕ) (lines : List Line) (k : ℕ) (xs : List ℕ) → max (greatest t lines (take k xs)) (greatest t lines (drop k xs)) ≡ greatest t lines xs
unfolding greatest
greatest-halves t lines zero [] = omega arith
greatest-halves t lines (suc k) [] = omega arith
greatest-halves t lines zero (i ∷ xs) = omega arith
greatest-halves t lines (suc k) (i ∷ xs) = (let rest = greatest-halves t lines k xs in omega (arith, rest))

pub greatest-one : (t : ℕ) (lines : List Line) (i : ℕ) → greatest t lines (i ∷ []) ≡ number_in t lines i
unfolding greatest
greatest-one t lines i = omega arith

pub ruleset halves = (greatest-halves, greatest-one)

-- that of the places of the records that pass is the number of the last that passes
greatest-latest : (p : Setting → Bool) (t : ℕ) (full ls : List Line) (k : ℕ) → drop k full ≡ ls → greatest t full (latest p k ls) ≡ last_number p k ls t
unfolding greatest latest last_number
greatest-latest p t full [] k h = refl
greatest-latest p t full (l ∷ ls) k h =
    let tail : drop (k + 1) full ≡ ls = rw add-one (drop_tail full ls l k h) in
    greatest-append t full (latest p (k + 1) ls) (cond (p l.setting) (k ∷ []) []) ∙ rw (greatest-latest p t full ls (k + 1) tail) (pick (p l.setting))
  where
    pick : (b : Bool) → max (last_number p (k + 1) ls t) (greatest t full (cond b (k ∷ []) [])) ≡ max (cond (b && holds l.span t) (k + 1) 0) (last_number p (k + 1) ls t)
    pick true = rw (get_head full ls l k h) (omega arith)
    pick false = omega arith

pub painted_of : (p : Setting → Bool) (lines : List Line) (t : ℕ) → greatest t lines (latest p 0 lines) ≡ last_number p 0 lines t
painted_of p lines t = greatest-latest p t lines lines 0 refl

-- ---- parts of records

joined : (a b h : Bool) (k x y z : ℕ) → x ≡ max y z → max (cond ((a || b) && h) (k + 1) 0) x ≡ max (max (cond (a && h) (k + 1) 0) y) (max (cond (b && h) (k + 1) 0) z)
joined true true true k x y z e = omega (arith, e)
joined true true false k x y z e = omega (arith, e)
joined true false true k x y z e = omega (arith, e)
joined true false false k x y z e = omega (arith, e)
joined false true true k x y z e = omega (arith, e)
joined false true false k x y z e = omega (arith, e)
joined false false true k x y z e = omega (arith, e)
joined false false false k x y z e = omega (arith, e)

last_number-or : (r p q : Setting → Bool) → ((s : Setting) → r s ≡ (p s || q s)) → (t k : ℕ) (ls : List Line) → last_number r k ls t ≡ max (last_number p k ls t) (last_number q k ls t)
unfolding last_number
last_number-or r p q same t k [] = omega arith
last_number-or r p q same t k (l ∷ ls) =
    rw (same l.setting) (joined (p l.setting) (q l.setting) (holds l.span t) k (last_number r (k + 1) ls t) (last_number p (k + 1) ls t) (last_number q (k + 1) ls t) (last_number-or r p q same t (k + 1) ls))

-- runs of both parts give the number of the whole
both_parts : (r p q : Setting → Bool) → ((s : Setting) → r s ≡ (p s || q s)) → (lines : List Line) (f g : ℕ → ℕ) → ((i : ℕ) → f i ≡ last_number p 0 lines i) → ((i : ℕ) → g i ≡ last_number q 0 lines i)
    → (i : ℕ) → max (f i) (g i) ≡ last_number r 0 lines i
both_parts r p q same lines f g first second i = rw (first i, second i) (sym (last_number-or r p q same i 0 lines))

renamed : (f g : ℕ → ℕ) (t u n : ℕ) → ((i : ℕ) → f i ≡ g i) → Lasts f t u n → Lasts g t u n
renamed f g t u n same lasts = record { here = lasts.here; same = λ i from to. sym (same i) ∙ lasts.same i from to }

node_parts : {A : Type 0} (b : Bool) (x : A) → is_some (cond b (Some x) None) ≡ b
node_parts true x = refl
node_parts false x = refl

drift_parts : (v : ℕ) (s : Setting) → is_some (inc_said v s) ≡ (is_in (part.Drift Every) s || is_in (part.Drift (One v)) s)
drift_parts v (sets.Drift Every inc) = refl
drift_parts v (sets.Drift (One x) inc) = node_parts (x == v) inc
drift_parts v (sets.Tick node gap) = refl
drift_parts v (sets.Delay from to quanta) = refl
drift_parts v (sets.Loss from to is_lost) = refl

tick_parts : (v : ℕ) (s : Setting) → is_some (gap_said v s) ≡ (is_in (part.Tick Every) s || is_in (part.Tick (One v)) s)
tick_parts v (sets.Tick Every gap) = refl
tick_parts v (sets.Tick (One x) gap) = node_parts (x == v) gap
tick_parts v (sets.Drift node inc) = refl
tick_parts v (sets.Delay from to quanta) = refl
tick_parts v (sets.Loss from to is_lost) = refl

pub drift_lasts : (lines : List Line) (v : ℕ) (star own : ClockRuns) (t u n : ℕ) → IsClock lines Every star → IsClock lines (One v) own → Lasts (λ i. max (value_at star.drifts i) (value_at own.drifts i)) t u n
    → Lasts (last_number (λ s. is_some (inc_said v s)) 0 lines) t u n
drift_lasts lines v star own t u n a b = renamed _ _ t u n (both_parts _ _ _ (drift_parts v) lines (value_at star.drifts) (value_at own.drifts) a.drifts b.drifts)

pub tick_lasts : (lines : List Line) (v : ℕ) (star own : ClockRuns) (t u n : ℕ) → IsClock lines Every star → IsClock lines (One v) own → Lasts (λ i. max (value_at star.ticks i) (value_at own.ticks i)) t u n
    → Lasts (last_number (λ s. is_some (gap_said v s)) 0 lines) t u n
tick_lasts lines v star own t u n a b = renamed _ _ t u n (both_parts _ _ _ (tick_parts v) lines (value_at star.ticks) (value_at own.ticks) a.ticks b.ticks)

to_one : {A : Type 0} (b : Bool) (x : A) → is_some (cond b (Some x) None) ≡ (b || false)
to_one true x = refl
to_one false x = refl

from_one : {A : Type 0} (b : Bool) (x : A) → is_some (cond (b && true) (Some x) None) ≡ ((b && true) || (b && false))
from_one true x = refl
from_one false x = refl

from_to : {A : Type 0} (b c : Bool) (x : A) → is_some (cond (b && c) (Some x) None) ≡ ((b && false) || (b && c))
from_to true true x = refl
from_to true false x = refl
from_to false c x = refl

delay_parts : (v w : ℕ) (s : Setting)
    → is_some (delay_said v w s) ≡ ((is_in (part.Delay Every Every) s || is_in (part.Delay (One v) Every) s) || (is_in (part.Delay Every (One w)) s || is_in (part.Delay (One v) (One w)) s))
delay_parts v w (sets.Delay Every Every quanta) = refl
delay_parts v w (sets.Delay Every (One y) quanta) = to_one (y == w) quanta
delay_parts v w (sets.Delay (One x) Every quanta) = from_one (x == v) quanta
delay_parts v w (sets.Delay (One x) (One y) quanta) = from_to (x == v) (y == w) quanta
delay_parts v w (sets.Drift node inc) = refl
delay_parts v w (sets.Tick node gap) = refl
delay_parts v w (sets.Loss from to is_lost) = refl

loss_parts : (v w : ℕ) (s : Setting)
    → is_some (loss_said v w s) ≡ ((is_in (part.Loss Every Every) s || is_in (part.Loss (One v) Every) s) || (is_in (part.Loss Every (One w)) s || is_in (part.Loss (One v) (One w)) s))
loss_parts v w (sets.Loss Every Every is_lost) = refl
loss_parts v w (sets.Loss Every (One y) is_lost) = to_one (y == w) is_lost
loss_parts v w (sets.Loss (One x) Every is_lost) = from_one (x == v) is_lost
loss_parts v w (sets.Loss (One x) (One y) is_lost) = from_to (x == v) (y == w) is_lost
loss_parts v w (sets.Drift node inc) = refl
loss_parts v w (sets.Tick node gap) = refl
loss_parts v w (sets.Delay from to quanta) = refl

-- four parts as one
four_parts : (r a b c d : Setting → Bool) → ((s : Setting) → r s ≡ ((a s || b s) || (c s || d s))) → (lines : List Line) (fa fb fc fd : ℕ → ℕ)
    → ((i : ℕ) → fa i ≡ last_number a 0 lines i) → ((i : ℕ) → fb i ≡ last_number b 0 lines i) → ((i : ℕ) → fc i ≡ last_number c 0 lines i) → ((i : ℕ) → fd i ≡ last_number d 0 lines i)
    → (i : ℕ) → max (max (fa i) (fb i)) (max (fc i) (fd i)) ≡ last_number r 0 lines i
four_parts r a b c d same lines fa fb fc fd ha hb hc hd =
    both_parts r (λ s. a s || b s) (λ s. c s || d s) same lines (λ i. max (fa i) (fb i)) (λ i. max (fc i) (fd i))
    (both_parts (λ s. a s || b s) a b (λ s. refl) lines fa fb ha hb) (both_parts (λ s. c s || d s) c d (λ s. refl) lines fc fd hc hd)

pub delay_lasts : (lines : List Line) (v w : ℕ) (star sent received named : BeaconRuns) (t u n : ℕ) → AreBeacons lines Every Every star → AreBeacons lines (One v) Every sent → AreBeacons lines Every (One w) received → AreBeacons lines (One v) (One w) named
    → Lasts (λ i. max (max (value_at star.delays i) (value_at sent.delays i)) (max (value_at received.delays i) (value_at named.delays i))) t u n
    → Lasts (last_number (λ s. is_some (delay_said v w s)) 0 lines) t u n
delay_lasts lines v w star sent received named t u n a b c d =
    renamed _ _ t u n (four_parts _ _ _ _ _ (delay_parts v w) lines (value_at star.delays) (value_at sent.delays) (value_at received.delays) (value_at named.delays) a.delays b.delays c.delays d.delays)

pub loss_lasts : (lines : List Line) (v w : ℕ) (star sent received named : BeaconRuns) (t u n : ℕ) → AreBeacons lines Every Every star → AreBeacons lines (One v) Every sent → AreBeacons lines Every (One w) received → AreBeacons lines (One v) (One w) named
    → Lasts (λ i. max (max (value_at star.losses i) (value_at sent.losses i)) (max (value_at received.losses i) (value_at named.losses i))) t u n
    → Lasts (last_number (λ s. is_some (loss_said v w s)) 0 lines) t u n
loss_lasts lines v w star sent received named t u n a b c d =
    renamed _ _ t u n (four_parts _ _ _ _ _ (loss_parts v w) lines (value_at star.losses) (value_at sent.losses) (value_at received.losses) (value_at named.losses) a.losses b.losses c.losses d.losses)

-- ---- what is said last

-- what a record says is read of its setting
abbrev pub Reads : {A : Type 0} → (Setting → Option A) → (Setting → Option A) → Setting → Type 0
Reads said read s = said s ≡ cond (is_some (said s)) (read s) None

if_some : {A : Type 0} (b : Bool) (x : A) → cond b (Some x) None ≡ cond (is_some (cond b (Some x) None)) (Some x) None
if_some true x = refl
if_some false x = refl

pub inc_read : (v : ℕ) (s : Setting) → Reads (inc_said v) inc_set s
inc_read v (sets.Drift node inc) = if_some (is_for node v) inc
inc_read v (sets.Tick node gap) = refl
inc_read v (sets.Delay from to quanta) = refl
inc_read v (sets.Loss from to is_lost) = refl

pub gap_read : (v : ℕ) (s : Setting) → Reads (gap_said v) gap_set s
gap_read v (sets.Drift node inc) = refl
gap_read v (sets.Tick node gap) = if_some (is_for node v) gap
gap_read v (sets.Delay from to quanta) = refl
gap_read v (sets.Loss from to is_lost) = refl

pub delay_read : (v w : ℕ) (s : Setting) → Reads (delay_said v w) delay_set s
delay_read v w (sets.Drift node inc) = refl
delay_read v w (sets.Tick node gap) = refl
delay_read v w (sets.Delay from to quanta) = if_some (is_for from v && is_for to w) quanta
delay_read v w (sets.Loss from to is_lost) = refl

pub loss_read : (v w : ℕ) (s : Setting) → Reads (loss_said v w) is_lost_set s
loss_read v w (sets.Drift node inc) = refl
loss_read v w (sets.Tick node gap) = refl
loss_read v w (sets.Delay from to quanta) = refl
loss_read v w (sets.Loss from to is_lost) = if_some (is_for from v && is_for to w) is_lost

-- what the record of a number sets is what is said, and a number that is not 0 is above k
abbrev Says : {A : Type 0} → (Setting → Option A) → List Line → ℕ → ℕ → Option A → Type 0
Says read full k n o = (option_and_then read (setting_of full n) ≡ o) × ((n ≡ 0) ⊎ ((k < n) × (is_some o ≡ true)))

late : (c : Bool) (k n : ℕ) → k + 1 < n → max (cond c (k + 1) 0) n ≡ n
late true k n h = omega (arith, h)
late false k n h = omega arith

or_some : {A : Type 0} (o x : Option A) → is_some o ≡ true → option_or o x ≡ o
or_some None x h = cc
or_some (Some y) x h = refl

max_zero : (n : ℕ) → max n 0 ≡ n
max_zero n = omega arith

fresh : {A : Type 0} (read : Setting → Option A) (full : List Line) (k : ℕ) (said : Option A) (s : Setting) (b h : Bool) → said ≡ cond b (read s) None → is_some said ≡ b → setting_of full (k + 1) ≡ Some s
    → Says read full k (cond (b && h) (k + 1) 0) (cond h said None)
fresh read full k said s true true is some head = (ap (option_and_then read) head ∙ sym is, inr (omega arith, some))
fresh read full k said s true false is some head = (refl, inl refl)
fresh read full k said s false true is some head = (sym is, inl refl)
fresh read full k said s false false is some head = (refl, inl refl)

one_more : {A : Type 0} (read : Setting → Option A) (full : List Line) (k n : ℕ) (o said : Option A) (s : Setting) (b h : Bool) → said ≡ cond b (read s) None → is_some said ≡ b → setting_of full (k + 1) ≡ Some s
    → Says read full (k + 1) n o → Says read full k (max (cond (b && h) (k + 1) 0) n) (option_or o (cond h said None))
one_more read full k n o said s b h is some head (e, inr later) =
    let above : k < n = (let l = later.0 in omega (arith, l)) in
    rw (late (b && h) k n later.0, or_some o (cond h said None) later.1) (e, inr (above, later.1))
one_more read full k n o said s b h is some head (e, inl none) =
    let nothing : o ≡ None = sym e ∙ ap (λ m. option_and_then read (setting_of full m)) none in
    rw (none, nothing, max_zero (cond (b && h) (k + 1) 0)) (fresh read full k said s b h is some head)

number_at : (full : List Line) (k : ℕ) (l : Line) → slice_get full k ≡ Some l → setting_of full (k + 1) ≡ Some l.setting
number_at full k l h =
    let more : (k + 1 == 0) ≡ false = grind (arith, nat_tests) in
    let same : k + 1 - 1 ≡ k = omega arith in
    rw (more, same, h) refl

says_last : {A : Type 0} (said read : Setting → Option A) (t : ℕ) → ((s : Setting) → Reads said read s) → (full ls : List Line) (k : ℕ) → drop k full ≡ ls
    → Says read full k (last_number (λ s. is_some (said s)) k ls t) (last_said said t ls)
unfolding last_number last_said
says_last said read t reads full [] k h = (refl, inl refl)
says_last said read t reads full (l ∷ ls) k h =
    let tail : drop (k + 1) full ≡ ls = rw add-one (drop_tail full ls l k h) in
    one_more read full k (last_number (λ s. is_some (said s)) (k + 1) ls t) (last_said said t ls) (said l.setting) l.setting (is_some (said l.setting)) (holds l.span t)
    (reads l.setting) refl (number_at full k l (get_head full ls l k h)) (says_last said read t reads full ls (k + 1) tail)

-- what the last record says lasts as long as its number
pub said_lasts : {A : Type 0} (said read : Setting → Option A) (d : A) (lines : List Line) (t u n : ℕ) → ((s : Setting) → Reads said read s) → Lasts (last_number (λ s. is_some (said s)) 0 lines) t u n
    → Lasts (λ i. unwrap_or (last_said said i lines) d) t u (unwrap_or (option_and_then read (setting_of lines n)) d)
said_lasts said read d lines t u n reads lasts = record {
  here = lasts.here;
  same = λ i from to. ap (λ o. unwrap_or o d) (sym (says_last said read i reads lines lines 0 refl).0 ∙ ap (λ m. option_and_then read (setting_of lines m)) (lasts.same i from to));
}

-- a run may be told shorter
pub shorter : {A : Type 0} (f : ℕ → A) (t u w : ℕ) (x : A) → Lasts f t u x → t ≤ w → w ≤ u → Lasts f t w x
shorter f t u w x lasts here less = record { here = here; same = λ i from to. lasts.same i from (omega (arith, to, less)) }
