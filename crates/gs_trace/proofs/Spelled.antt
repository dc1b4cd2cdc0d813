-- Numbers of one size that stand one behind the other.
use Rattle.std.proofs.Common.{◌≡◌, ℕ, zero, suc, ◌+◌, ◌*◌, ◌^◌, ◌<◌, ◌≤◌, List, [], ◌∷◌, ◌++◌, length, take, drop, refl, sym, ap, ◌∙◌, append_assoc, arith}
use Rattle.std.specs.List.{AllByRecursion}
use Rattle.std.proofs.Math.Nat.{mul-add}
use Rattle.std.proofs.lemmas.List.{length-append, length-drop, drop_at, take-append-drop}
use Rattle.std.proofs.Math.Seq.{take-add}
use Rattle.byteorder.specs.Endian.{big_bytes}
use Rattle.byteorder.specs.Numbers.{length-bytes_high_first}
use Rattle.std.proofs.lemmas.List.Elements.{All-drop}
use Rattle.gs_beacon.specs.Numbers.{AreBytes, number_at}
use Rattle.gs_beacon.proofs.Digits.{number_at-behind, number_at-drop, number_at-lt, big_bytes-number_at}
use Rattle.gs_trace.specs.Numbers.{spelled, numbers_at}

-- bytes behind others are bytes
pub AreBytes-drop : (n : ℕ) (xs : List ℕ) → AreBytes xs → AreBytes (drop n xs)
AreBytes-drop n xs are = All-drop (λ x. x < 256) n xs are

-- bytes are their first n and those behind them
pub in_front : (n : ℕ) (bytes front rest : List ℕ) → front ≡ take n bytes → drop n bytes ≡ rest → bytes ≡ front ++ rest
in_front n bytes front rest first behind = sym (take-append-drop n bytes) ∙ (λ i. sym first i ++ behind i)

times-more : (size i : ℕ) → size * suc i ≡ size + size * i
times-more size i =
    let e : suc i ≡ i + 1 = omega arith in
    let m = mul-add size i 1 in
    ap (λ (k : ℕ). size * k) e ∙ omega (arith, m)

-- one more number
pub numbers_more : (size i : ℕ) (bytes : List ℕ) → numbers_at size (i + 1) bytes ≡ numbers_at size i bytes ++ number_at (size * i) size bytes ∷ []
numbers_more size zero bytes = ap (λ (k : ℕ). number_at k size bytes ∷ []) (omega arith)
numbers_more size (suc i) bytes =
    let n : suc i + 1 ≡ suc (i + 1) = omega arith in
    let place : number_at (size * i) size (drop size bytes) ≡ number_at (size * suc i) size bytes = number_at-drop (size * i) size size bytes ∙ ap (λ (k : ℕ). number_at k size bytes) (sym (times-more size i)) in
    let rest : List ℕ = numbers_at size i (drop size bytes) in
    rw n (ap (λ (xs : List ℕ). number_at 0 size bytes ∷ xs) (numbers_more size i (drop size bytes) ∙ ap (λ (x : ℕ). rest ++ x ∷ []) place))

pub length-spelled : (size : ℕ) (xs : List ℕ) → length (spelled size xs) ≡ size * length xs
length-spelled size [] = omega arith
length-spelled size (x ∷ xs) =
    let one = length-append (big_bytes size x) (spelled size xs) in
    let count = length-bytes_high_first size x in
    let rest = length-spelled size xs in
    let more = times-more size (length xs) in
    one ∙ omega (arith, count, rest, more)

pub length-numbers : (size count : ℕ) (bytes : List ℕ) → length (numbers_at size count bytes) ≡ count
length-numbers size zero bytes = refl
length-numbers size (suc count) bytes = ap suc (length-numbers size count (drop size bytes))

-- what was spelled is read
pub numbers-spelled : (size : ℕ) (xs rest : List ℕ) → AllByRecursion (λ x. x < 256 ^ size) xs → numbers_at size (length xs) (spelled size xs ++ rest) ≡ xs
numbers-spelled size [] rest small = refl
numbers-spelled size (x ∷ xs) rest small =
    let whole : spelled size (x ∷ xs) ++ rest ≡ big_bytes size x ++ (spelled size xs ++ rest) = append_assoc (big_bytes size x) (spelled size xs) rest in
    let first : number_at 0 size (big_bytes size x ++ (spelled size xs ++ rest)) ≡ x = number_at-behind size x 0 [] (spelled size xs ++ rest) refl small.0 in
    let behind : drop size (big_bytes size x ++ (spelled size xs ++ rest)) ≡ spelled size xs ++ rest = drop_at (big_bytes size x) (spelled size xs ++ rest) size (length-bytes_high_first size x) in
    ap (numbers_at size (suc (length xs))) whole ∙ rw (first, behind, numbers-spelled size xs rest small.1) refl

-- what is read is spelled so
pub spelled-numbers : (size count : ℕ) (bytes : List ℕ) → AreBytes bytes → size * count ≤ length bytes → spelled size (numbers_at size count bytes) ≡ take (size * count) bytes
spelled-numbers size zero bytes fits long = let e : size * 0 ≡ 0 = omega arith in rw e refl
spelled-numbers size (suc count) bytes fits long =
    let more = times-more size count in
    let shorter = length-drop size bytes in
    let first = big_bytes-number_at 0 size bytes fits (omega (arith, long, more)) in
    let rest = spelled-numbers size count (drop size bytes) (AreBytes-drop size bytes fits) (omega (arith, long, more, shorter)) in
    rw (first, rest, more) (sym (take-add size (size * count) bytes))

pub numbers-small : (size count : ℕ) (bytes : List ℕ) → AreBytes bytes → AllByRecursion (λ x. x < 256 ^ size) (numbers_at size count bytes)
numbers-small size zero bytes fits = tt
numbers-small size (suc count) bytes fits = (number_at-lt 0 size bytes fits, numbers-small size count (drop size bytes) (AreBytes-drop size bytes fits))
