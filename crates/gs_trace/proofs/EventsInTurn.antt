-- Events that stand one behind the other are read as they were written, and nothing else is.
use Rattle.std.proofs.Common.{◌≡◌, ℕ, zero, suc, ◌+◌, ◌-◌, ◌<◌, ◌≤◌, false, ltb, ◌⊎◌, inl, inr, List, [], ◌∷◌, ◌++◌, length, take, drop, get_or, Option, Some, None, refl, sym, ap, ◌∙◌, subst, append_assoc, arith}
use Rattle.std.specs.List.{AllByRecursion, flat_map}
use Rattle.std.specs.Option.{option_or}
use Rattle.std.specs.Prelude.{◌↔◌, unwrap_or}
use Rattle.std.proofs.lemmas.Bool.{ltb-false, le-ltb}
use Rattle.std.proofs.lemmas.List.{length-append, length-drop, drop_at, drop_more, drop-drop, length-take-le}
use Rattle.std.proofs.lemmas.List.Elements.{All-nil, All-cons, recursion_from_All}
use Rattle.gs_units.proofs.FirstFault.{first_fails, none_of}
use Rattle.gs_beacon.specs.Numbers.{AreBytes}
use Rattle.gs_trace.specs.Firsts.{IsFirst}
use Rattle.gs_trace.specs.Formats.{Format, front_fault, fault_from, events_from}
use Rattle.gs_trace.specs.declared.fault.TraceFault.{TraceFault}
use Rattle.gs_trace.specs.declared.fault.TraceFault.TheVariants.{Cut, Beacon}
use Rattle.gs_trace.proofs.Spelled.{AreBytes-drop, in_front}

-- ---- one event

pub fault-skip : {E : Type 0} (f : Format E) (place skip : ℕ) (bytes : List ℕ) → fault_from f place skip bytes ≡ fault_from f (place + skip) 0 (drop skip bytes)
fault-skip f place zero [] = refl
fault-skip f place (suc skip) [] = refl
fault-skip f place zero (b ∷ bs) = ap (λ (p : ℕ). fault_from f p 0 (b ∷ bs)) (omega arith)
fault-skip f place (suc skip) (b ∷ bs) = fault-skip f (place + 1) skip bs ∙ ap (λ (p : ℕ). fault_from f p 0 (drop skip bs)) (omega arith)

pub events-skip : {E : Type 0} (f : Format E) (skip : ℕ) (bytes : List ℕ) → events_from f skip bytes ≡ events_from f 0 (drop skip bytes)
events-skip f zero [] = refl
events-skip f (suc skip) [] = refl
events-skip f zero (b ∷ bs) = refl
events-skip f (suc skip) (b ∷ bs) = events-skip f skip bs

-- a whole event stands in front
pub record IsWhole {E : Type 0} (f : Format E) (b : ℕ) (bs : List ℕ) (n : ℕ) : Type 0 where
  pub size : f.size b ≡ Some n
  pub some : 1 ≤ n
  pub inside : n ≤ length (b ∷ bs)
  pub allowed : f.refused (b ∷ bs) ≡ false

drop-front : (n b : ℕ) (bs : List ℕ) → 1 ≤ n → drop (n - 1) bs ≡ drop n (b ∷ bs)
drop-front zero b bs some = absurd (omega arith)
drop-front (suc n) b bs some = let e : suc n - 1 ≡ n = omega arith in rw e refl

pub fault-front : {E : Type 0} (f : Format E) (place b : ℕ) (bs : List ℕ) (n : ℕ) → IsWhole f b bs n → fault_from f place 0 (b ∷ bs) ≡ fault_from f (place + n) 0 (drop n (b ∷ bs))
fault-front f place b bs n h =
    let long : ltb (length (b ∷ bs)) n ≡ false = le-ltb _ _ h.inside in
    let some = h.some in
    let on : fault_from f (place + 1) (n - 1) bs ≡ fault_from f (place + n) 0 (drop n (b ∷ bs)) =
    fault-skip f (place + 1) (n - 1) bs
    ∙ ap (λ (p : ℕ). fault_from f p 0 (drop (n - 1) bs)) (omega (arith, some))
    ∙ ap (fault_from f (place + n) 0) (drop-front n b bs h.some) in
    rw (h.size, long, h.allowed) on

pub events-front : {E : Type 0} (f : Format E) (b : ℕ) (bs : List ℕ) (n : ℕ) → IsWhole f b bs n → events_from f 0 (b ∷ bs) ≡ f.event (b ∷ bs) ∷ events_from f 0 (drop n (b ∷ bs))
events-front f b bs n h =
    let on : events_from f (n - 1) bs ≡ events_from f 0 (drop n (b ∷ bs)) = events-skip f (n - 1) bs ∙ ap (events_from f 0) (drop-front n b bs h.some) in
    rw (h.size, on) refl

-- where nothing is at fault in front, a whole event stands there
front-cases : {E : Type 0} (f : Format E) (place : ℕ) (s : Option ℕ) (bytes : List ℕ) → front_fault f place s bytes ≡ None
    → (n : ℕ) × (s ≡ Some n) × (n ≤ length bytes) × (f.refused bytes ≡ false)
front-cases f place None bytes e = absurd (cc)
front-cases f place (Some n) bytes e =
    let within = first_fails (ltb (length bytes) n) (Cut place) _ e in
    let allowed = first_fails (f.refused bytes) (Beacon place) _ within.1 in
    (n, refl, ltb-false _ _ within.0, allowed.0)

-- ---- formats whose events are read as they are written

-- what writes events and reads them
pub record IsFormat {E : Type 0} (f : Format E) (bytes_of : E → List ℕ) (Fits : E → Type 0) : Type 0 where
  -- an event's bytes begin with its kind, and are of the kind's size
  pub kind : (e : E) → Fits e → (b : ℕ) × (bs : List ℕ) × (bytes_of e ≡ b ∷ bs) × (f.size b ≡ Some (length (b ∷ bs)))
  pub back : (e : E) (rest : List ℕ) → Fits e → f.event (bytes_of e ++ rest) ≡ e
  pub allowed : (e : E) (rest : List ℕ) → Fits e → f.refused (bytes_of e ++ rest) ≡ false
  pub some : (b n : ℕ) → f.size b ≡ Some n → 1 ≤ n
  pub fits : (b : ℕ) (bs : List ℕ) (n : ℕ) → AreBytes (b ∷ bs) → IsWhole f b bs n → Fits (f.event (b ∷ bs))
  pub spelled : (b : ℕ) (bs : List ℕ) (n : ℕ) → AreBytes (b ∷ bs) → IsWhole f b bs n → bytes_of (f.event (b ∷ bs)) ≡ take n (b ∷ bs)

-- a written event stands whole in front
pub written-whole : {E : Type 0} (f : Format E) (bytes_of : E → List ℕ) (Fits : E → Type 0) (h : IsFormat f bytes_of Fits) (e : E) (rest : List ℕ)
    → Fits e → (b : ℕ) × (bs : List ℕ) × (bytes_of e ≡ b ∷ bs) × IsWhole f b (bs ++ rest) (length (bytes_of e))
written-whole f bytes_of Fits h e rest fits =
    let k = h.kind e fits in
    let b = k.0 in
    let bs = k.1 in
    let count : length (bytes_of e) ≡ length (b ∷ bs) = ap length k.2 in
    let long = length-append (b ∷ bs) rest in
    let is : bytes_of e ++ rest ≡ b ∷ (bs ++ rest) = ap (λ (xs : List ℕ). xs ++ rest) k.2 in (
      b,
      bs,
      k.2,
      record {
        size = k.3 ∙ ap (λ (n : ℕ). Some n) (sym count);
        some = omega (arith, count);
        inside = omega (arith, count, long);
        allowed = ap f.refused (sym is) ∙ h.allowed e rest fits;
      },
    )

-- what was written has no fault, and is read
pub fault-written : {E : Type 0} (f : Format E) (bytes_of : E → List ℕ) (Fits : E → Type 0) (h : IsFormat f bytes_of Fits) (place : ℕ) (es : List E) (rest : List ℕ)
    → AllByRecursion Fits es → fault_from f place 0 (flat_map bytes_of es ++ rest) ≡ fault_from f (place + length (flat_map bytes_of es)) 0 rest
fault-written f bytes_of Fits h place [] rest fits = ap (λ (p : ℕ). fault_from f p 0 rest) (omega arith)
fault-written f bytes_of Fits h place (e ∷ es) rest fits =
    let others : List ℕ = flat_map bytes_of es ++ rest in
    let n : ℕ = length (bytes_of e) in
    let w = written-whole f bytes_of Fits h e others fits.0 in
    let whole : flat_map bytes_of (e ∷ es) ++ rest ≡ bytes_of e ++ others = append_assoc (bytes_of e) (flat_map bytes_of es) rest in
    let front : bytes_of e ++ others ≡ w.0 ∷ (w.1 ++ others) = ap (λ (xs : List ℕ). xs ++ others) w.2 in
    let behind : drop n (w.0 ∷ (w.1 ++ others)) ≡ others = ap (drop n) (sym front) ∙ drop_at (bytes_of e) others n refl in
    let long = length-append (bytes_of e) (flat_map bytes_of es) in
    ap (fault_from f place 0) (whole ∙ front)
    ∙ fault-front f place w.0 (w.1 ++ others) n w.3
    ∙ ap (fault_from f (place + n) 0) behind
    ∙ fault-written f bytes_of Fits h (place + n) es rest fits.1
    ∙ ap (λ (p : ℕ). fault_from f p 0 rest) (omega (arith, long))

pub events-written : {E : Type 0} (f : Format E) (bytes_of : E → List ℕ) (Fits : E → Type 0) (h : IsFormat f bytes_of Fits) (es : List E) (rest : List ℕ)
    → AllByRecursion Fits es → events_from f 0 (flat_map bytes_of es ++ rest) ≡ es ++ events_from f 0 rest
events-written {E = E} f bytes_of Fits h [] rest fits = refl
events-written {E = E} f bytes_of Fits h (e ∷ es) rest fits =
    let others : List ℕ = flat_map bytes_of es ++ rest in
    let n : ℕ = length (bytes_of e) in
    let w = written-whole f bytes_of Fits h e others fits.0 in
    let whole : flat_map bytes_of (e ∷ es) ++ rest ≡ bytes_of e ++ others = append_assoc (bytes_of e) (flat_map bytes_of es) rest in
    let front : bytes_of e ++ others ≡ w.0 ∷ (w.1 ++ others) = ap (λ (xs : List ℕ). xs ++ others) w.2 in
    let behind : drop n (w.0 ∷ (w.1 ++ others)) ≡ others = ap (drop n) (sym front) ∙ drop_at (bytes_of e) others n refl in
    let first : f.event (w.0 ∷ (w.1 ++ others)) ≡ e = ap f.event (sym front) ∙ h.back e others fits.0 in
    ap (events_from f 0) (whole ∙ front)
    ∙ events-front f w.0 (w.1 ++ others) n w.3
    ∙ ap (λ (x : E). x ∷ events_from f 0 (drop n (w.0 ∷ (w.1 ++ others)))) first
    ∙ ap (λ (xs : List ℕ). e ∷ events_from f 0 xs) behind
    ∙ ap (λ (xs : List E). e ∷ xs) (events-written f bytes_of Fits h es rest fits.1)

-- a whole event in front of bytes without a fault
pub whole-front : {E : Type 0} (f : Format E) (bytes_of : E → List ℕ) (Fits : E → Type 0) (h : IsFormat f bytes_of Fits) (place b : ℕ) (bs : List ℕ)
    → fault_from f place 0 (b ∷ bs) ≡ None → (n : ℕ) × IsWhole f b bs n × (fault_from f (place + n) 0 (drop n (b ∷ bs)) ≡ None)
whole-front f bytes_of Fits h place b bs none =
    let parts = none_of (front_fault f place (f.size b) (b ∷ bs)) _ none in
    let k = front-cases f place (f.size b) (b ∷ bs) parts.0 in
    let w : IsWhole f b bs k.0 = record { size = k.1; some = h.some b k.0 k.1; inside = k.2; allowed = k.3 } in
    (k.0, w, sym (fault-front f place b bs k.0 w) ∙ none)

-- what is read without a fault is what its events spell
pub record AreRead {E : Type 0} (f : Format E) (bytes_of : E → List ℕ) (Fits : E → Type 0) (bytes : List ℕ) : Type 0 where
  pub fits : AllByRecursion Fits (events_from f 0 bytes)
  pub is : bytes ≡ flat_map bytes_of (events_from f 0 bytes)

pub read-spelled : {E : Type 0} (f : Format E) (bytes_of : E → List ℕ) (Fits : E → Type 0) (h : IsFormat f bytes_of Fits) (k place : ℕ) (bytes : List ℕ)
    → length bytes ≤ k → AreBytes bytes → fault_from f place 0 bytes ≡ None → AreRead f bytes_of Fits bytes
read-spelled {E = E} f bytes_of Fits h k place [] long fits none = record { fits = tt; is = refl }
read-spelled {E = E} f bytes_of Fits h zero place (b ∷ bs) long fits none = absurd (omega arith)
read-spelled {E = E} f bytes_of Fits h (suc k) place (b ∷ bs) long fits none =
    let w = whole-front f bytes_of Fits h place b bs none in
    let n : ℕ = w.0 in
    let some = w.1.some in
    let shorter = length-drop n (b ∷ bs) in
    let rest = read-spelled f bytes_of Fits h k (place + n) (drop n (b ∷ bs)) (omega (arith, long, some, shorter)) (AreBytes-drop n (b ∷ bs) fits) w.2 in
    let e : E = f.event (b ∷ bs) in
    let es : List E = events_from f 0 (drop n (b ∷ bs)) in
    let events : events_from f 0 (b ∷ bs) ≡ e ∷ es = events-front f b bs n w.1 in
    let front : bytes_of e ≡ take n (b ∷ bs) = h.spelled b bs n fits w.1 in
    let is : b ∷ bs ≡ bytes_of e ++ flat_map bytes_of es = in_front n (b ∷ bs) (bytes_of e) (flat_map bytes_of es) front rest.is in
    record {
      fits = subst (λ (xs : List E). AllByRecursion Fits xs) (sym events) (h.fits b bs n fits w.1, rest.fits);
      is = is ∙ ap (flat_map bytes_of) (sym events);
    }

-- ---- the first event at fault

or_cases : {A : Type 0} (x y : Option A) (a : A) → option_or x y ≡ Some a → (x ≡ Some a) ⊎ ((x ≡ None) × (y ≡ Some a))
or_cases None y a e = inr (refl, e)
or_cases (Some b) y a e = inl e

-- behind one event more
one_more : {E : Type 0} (f : Format E) (bytes_of : E → List ℕ) (Fits : E → Type 0) (place n : ℕ) (bytes : List ℕ) (e : E) (fault : TraceFault)
    → Fits e → n ≤ length bytes → bytes_of e ≡ take n bytes → IsFirst f bytes_of Fits (place + n) (drop n bytes) fault → IsFirst f bytes_of Fits place bytes fault
one_more f bytes_of Fits place n bytes e fault fits inside front r =
    let others : List ℕ = flat_map bytes_of r.before in
    let count : length (bytes_of e) ≡ n = ap length front ∙ length-take-le n bytes inside in
    let joined = length-append (bytes_of e) others in
    let at : place + n + length others ≡ place + length (bytes_of e ++ others) = omega (arith, count, joined) in
    record {
      before = e ∷ r.before;
      kind = r.kind;
      rest = r.rest;
      fits = All-cons Fits e r.before fits r.fits;
      is = in_front n bytes (bytes_of e) (others ++ r.kind ∷ r.rest) front r.is ∙ sym (append_assoc (bytes_of e) others (r.kind ∷ r.rest));
      front = ap (λ (p : ℕ). front_fault f p (f.size r.kind) (r.kind ∷ r.rest)) (sym at) ∙ r.front;
    }

pub first-fault : {E : Type 0} (f : Format E) (bytes_of : E → List ℕ) (Fits : E → Type 0) (h : IsFormat f bytes_of Fits) (k place : ℕ) (bytes : List ℕ) (fault : TraceFault)
    → length bytes ≤ k → AreBytes bytes → fault_from f place 0 bytes ≡ Some fault → IsFirst f bytes_of Fits place bytes fault
first-fault f bytes_of Fits h k place [] fault long fits some = absurd (cc)
first-fault f bytes_of Fits h zero place (b ∷ bs) fault long fits some = absurd (omega arith)
first-fault f bytes_of Fits h (suc k) place (b ∷ bs) fault long fits some =
    elim (or_cases (front_fault f place (f.size b) (b ∷ bs)) _ fault some) [
      | inl here ↦ record { before = []; kind = b; rest = bs; fits = All-nil Fits; is = refl; front = let p : place + 0 ≡ place = omega arith in rw p here }
      | inr later ↦
          let c = front-cases f place (f.size b) (b ∷ bs) later.0 in
          let n : ℕ = c.0 in
          let w : IsWhole f b bs n = record { size = c.1; some = h.some b n c.1; inside = c.2; allowed = c.3 } in
          let least = w.some in
          let shorter = length-drop n (b ∷ bs) in
          let on : fault_from f (place + n) 0 (drop n (b ∷ bs)) ≡ Some fault = sym (fault-front f place b bs n w) ∙ some in
          let r = first-fault f bytes_of Fits h k (place + n) (drop n (b ∷ bs)) fault (omega (arith, long, least, shorter)) (AreBytes-drop n (b ∷ bs) fits) on in
          one_more f bytes_of Fits place n (b ∷ bs) (f.event (b ∷ bs)) fault (h.fits b bs n fits w) w.inside (h.spelled b bs n fits w) r
    ]

-- and it is the only one
pub fault-first : {E : Type 0} (f : Format E) (bytes_of : E → List ℕ) (Fits : E → Type 0) (h : IsFormat f bytes_of Fits) (place : ℕ) (bytes : List ℕ) (fault : TraceFault)
    → IsFirst f bytes_of Fits place bytes fault → fault_from f place 0 bytes ≡ Some fault
fault-first f bytes_of Fits h place bytes fault r =
    ap (fault_from f place 0) r.is ∙ fault-written f bytes_of Fits h place r.before (r.kind ∷ r.rest) (recursion_from_All Fits r.before r.fits) ∙ rw r.front refl

-- ---- places

-- no fault, wherever the bytes stand
front-moves : {E : Type 0} (f : Format E) (p q : ℕ) (s : Option ℕ) (bytes : List ℕ) → front_fault f p s bytes ≡ None → front_fault f q s bytes ≡ None
front-moves f p q s bytes e =
    let k = front-cases f p s bytes e in
    let long : ltb (length bytes) k.0 ≡ false = le-ltb _ _ k.2 in
    rw (k.1, long, k.3) refl

pub fault-moves : {E : Type 0} (f : Format E) (p q skip : ℕ) (bytes : List ℕ) → fault_from f p skip bytes ≡ None → fault_from f q skip bytes ≡ None
fault-moves f p q skip [] e = refl
fault-moves f p q (suc skip) (b ∷ bs) e = fault-moves f (p + 1) (q + 1) skip bs e
fault-moves f p q zero (b ∷ bs) e =
    let parts = none_of (front_fault f p (f.size b) (b ∷ bs)) _ e in
    rw (front-moves f p q (f.size b) (b ∷ bs) parts.0) (fault-moves f (p + 1) (q + 1) _ bs parts.1)

-- there are no more events than bytes
pub events-few : {E : Type 0} (f : Format E) (skip : ℕ) (bytes : List ℕ) → length (events_from f skip bytes) ≤ length bytes
events-few f skip [] = omega arith
events-few f zero (b ∷ bs) = let rest = events-few f (unwrap_or (f.size b) 0 - 1) bs in omega (arith, rest)
events-few f (suc skip) (b ∷ bs) = let rest = events-few f skip bs in omega (arith, rest)

-- at a place among bytes
pub fault-at : {E : Type 0} (f : Format E) (at n : ℕ) (bytes : List ℕ) → at < length bytes → f.size (get_or bytes at 0) ≡ Some n → 1 ≤ n → at + n ≤ length bytes
    → f.refused (drop at bytes) ≡ false → fault_from f at 0 (drop at bytes) ≡ fault_from f (at + n) 0 (drop (at + n) bytes)
fault-at f at n bytes below size some inside allowed =
    let is : drop at bytes ≡ get_or bytes at 0 ∷ drop (at + 1) bytes = drop_more bytes at 0 below in
    let count = length-drop at bytes in
    let same : length (drop at bytes) ≡ length (get_or bytes at 0 ∷ drop (at + 1) bytes) = ap length is in
    let w : IsWhole f (get_or bytes at 0) (drop (at + 1) bytes) n = record {
      size = size;
      some = some;
      inside = omega (arith, inside, count, same);
      allowed = ap f.refused (sym is) ∙ allowed;
    } in
    ap (fault_from f at 0) is ∙ fault-front f at (get_or bytes at 0) (drop (at + 1) bytes) n w
    ∙ ap (λ (xs : List ℕ). fault_from f (at + n) 0 (drop n xs)) (sym is) ∙ ap (fault_from f (at + n) 0) (drop-drop n at bytes)

-- the first event at fault is the one that is named
pub fault-is_first : {E : Type 0} (f : Format E) (bytes_of : E → List ℕ) (Fits : E → Type 0) (h : IsFormat f bytes_of Fits) (place : ℕ) (bytes : List ℕ) (fault : TraceFault)
    → AreBytes bytes → (fault_from f place 0 bytes ≡ Some fault) ↔ IsFirst f bytes_of Fits place bytes fault
fault-is_first f bytes_of Fits h place bytes fault are =
    (first-fault f bytes_of Fits h (length bytes) place bytes fault (omega arith) are, fault-first f bytes_of Fits h place bytes fault)
