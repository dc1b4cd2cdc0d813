-- What is written piece after piece.
use Rattle.std.proofs.Common.{◌≡◌, ◌==◌, ℕ, true, List, [], ◌∷◌, ◌++◌, length, take, drop, Option, Some, None, refl, sym, ◌∙◌, ap, subst, append_assoc, append-nil, arith}
use Rattle.std.proofs.lemmas.List.{take_all, take-append-drop}
use Rattle.std.proofs.Math.Seq.{take-append_seam}
use Rattle.std.specs.Io.KnownBytes.{Keeps}
use Rattle.std.specs.Io.KnownBytes.{Appends as Grows}
use Rattle.gs_io.specs.Held.{Appends, AppendsFront}

-- what is appended after something else is appended with it
pub then_appends : (old mid new : Option (List ℕ)) (front piece : List ℕ) → Appends old mid front → Appends mid new piece → Appends old new (front ++ piece)
then_appends None mid new front piece first second = tt
then_appends (Some held) mid new front piece first second =
    let next : new ≡ Some ((held ++ front) ++ piece) = subst (λ (m : Option (List ℕ)). Appends m new piece) first second in
    next ∙ ap Some (append_assoc held front piece)

-- what std says of a writer that took bytes, and of one that took none
pub grown : (old new : Option (List ℕ)) (added : List ℕ) → Grows old new added → Appends old new added
grown None new added is = tt
grown (Some held) None added is = absurd is
grown (Some held) (Some now) added is = ap Some is

pub kept : (old new : Option (List ℕ)) → Keeps old new → Appends old new []
kept None new is = tt
kept (Some held) None is = absurd is
kept (Some held) (Some now) is = ap Some (is ∙ sym (append-nil held))

-- a prefix of a text that ends within one of its pieces
pub then_appends_front : (old mid new : Option (List ℕ)) (text front piece after : List ℕ) → text ≡ front ++ (piece ++ after)
    → Appends old mid front → AppendsFront mid new piece → AppendsFront old new text
then_appends_front old mid new text front piece after whole first second =
    let n = second.0 in
    let got = front ++ take n piece in
    let cut : text ≡ got ++ (drop n piece ++ after) =
    rw (whole, append_assoc front (take n piece) (drop n piece ++ after), ← append_assoc (take n piece) (drop n piece) after, take-append-drop n piece) refl in
    let seam : take (length got) text ≡ got = rw cut (take-append_seam got (drop n piece ++ after)) in
    (length got, rw seam (then_appends old mid new front (take n piece) first second.1))

-- a text that is out whole, where nothing was added since
pub whole_is_front : (old mid new : Option (List ℕ)) (text front rest : List ℕ) → text ≡ front ++ rest → (length rest == 0) ≡ true
    → Appends old mid front → Keeps mid new → AppendsFront old new text
whole_is_front old mid new text front (byte ∷ rest) whole none first second = absurd (grind (arith, none))
whole_is_front old mid new text front [] whole none first second =
    let cut : take (length text) text ≡ text = take_all (length text) text (omega arith) in
    (length text, rw (cut, whole) (then_appends old mid new front [] first (kept mid new second)))
