-- The lines of a text.
use Rattle.std.proofs.Common.{◌≡◌, ◌+◌, ◌≤◌, ◌==◌, ℕ, List, [], ◌∷◌, length, take, Some, None, Bool, true, false, refl, sym, ap, suc, arith}
use Rattle.std.specs.List.{position, position_or_len}
use Rattle.std.specs.Io.BufRead.{take_through}
use Rattle.std.proofs.lemmas.List.{take_all}

-- a line ends with its first line feed, or with the text
line-end : (text : List ℕ) → take (position_or_len (λ c. c == 10) text + 1) text ≡ take_through 10 text
line-end [] = refl
line-end (c ∷ cs) = at (c == 10) refl (line-end cs)
  where
    at : (same : Bool) → (c == 10) ≡ same → take (position_or_len (λ c. c == 10) cs + 1) cs ≡ take_through 10 cs
        → take (position_or_len (λ c. c == 10) (c ∷ cs) + 1) (c ∷ cs) ≡ take_through 10 (c ∷ cs)
    at true is rest = rw is refl
    at false is rest =
        let next : position_or_len (λ c. c == 10) (c ∷ cs) + 1 ≡ suc (position_or_len (λ c. c == 10) cs + 1) = rw is (omega arith) in
        rw (next, is) (ap (λ line. c ∷ line) rest)

-- the first line feed ends the line
pub line-fed : (text : List ℕ) (feed : ℕ) → position (λ c. c == 10) text ≡ Some feed → take (feed + 1) text ≡ take_through 10 text
line-fed text feed is = rw (sym place) (line-end text)
  where
    place : position_or_len (λ c. c == 10) text ≡ feed
    place = grind (arith, is)

-- a text without a line feed is its line
pub line-unfed : (text : List ℕ) → position (λ c. c == 10) text ≡ None → take (length text) text ≡ take_through 10 text
line-unfed text is =
    let past : length text ≤ position_or_len (λ c. c == 10) text = grind (arith, is) in
    rw (take_all (length text) text (omega arith), ← line-end text, take_all (position_or_len (λ c. c == 10) text + 1) text (omega (arith, past))) refl

pub ruleset line_ends = (line-fed, line-unfed)
