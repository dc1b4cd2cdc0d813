-- Numbers and their bytes: equal numbers have equal bytes, and what is written is read back.
use Rattle.std.proofs.Common.{◌≡◌, ℕ, zero, suc, ◌+◌, ◌-◌, ◌*◌, ◌/◌, ◌^◌, ◌<◌, ◌≤◌, List, [], ◌++◌, length, take, drop, slice_index, refl, sym, ap, ◌∙◌, inl, inr, arith}
use Rattle.std.proofs.Math.Nat.{add-mul, le-div_iff_mul-le, div-lt_iff_lt-mul, mod-lt}
use Rattle.std.proofs.Math.Seq.{drop-append_seam}
use Rattle.std.proofs.lemmas.Bool.{cases_lt}
use Rattle.std.proofs.lemmas.List.{ext_get_or, get_or_past, get_or-take, get_or-drop, drop-drop, length-take-le, length-drop, append-nil}
use Rattle.std.proofs.lemmas.List.Elements.{All-get_or, All-from_get_or}
use Rattle.std.specs.Int.{byte_at}
use Rattle.byteorder.specs.Endian.{big_bytes, big_number, big_from}
use Rattle.byteorder.specs.Numbers.{big_number-reads_back, big_from-lt, length-bytes_high_first}
use Rattle.gs_beacon.specs.Numbers.{AreBytes, number_at, WrittenIsRead, ReadIsWritten, NumbersAreSmall, PlacesCountOn}

-- numbers in the same base that are equal have equal highest digits
digit-le : (x y p r s : ℕ) → s < p → x * p + r ≡ y * p + s → x ≤ y
digit-le x y p r s low same =
    let top : (y + 1) * p ≡ y * p + 1 * p = add-mul y 1 p in
    let some : 0 < p = omega arith in
    let least : x ≤ (y * p + s) / p = (le-div_iff_mul-le some).1 (omega (arith, same)) in
    let most : (y * p + s) / p < y + 1 = (div-lt_iff_lt-mul some).1 (omega (arith, top, low)) in
    omega (arith, least, most)

pub digit-same : (x y p r s : ℕ) → r < p → s < p → x * p + r ≡ y * p + s → x ≡ y
digit-same x y p r s low_r low_s same =
    let le = digit-le x y p r s low_s same in
    let ge = digit-le y x p s r low_r (sym same) in
    omega (arith, le, ge)

-- numbers that are equal have equal bytes
pub big_from-same : (i n : ℕ) (xs ys : List ℕ) → ((k : ℕ) → slice_index xs k < 256) → ((k : ℕ) → slice_index ys k < 256)
    → big_from i n xs ≡ big_from i n ys → (k : ℕ) → k < n → slice_index xs (i + k) ≡ slice_index ys (i + k)
big_from-same i zero xs ys hx hy same k below = absurd (omega arith)
big_from-same i (suc n) xs ys hx hy same zero below =
    let first = digit-same (slice_index xs i) (slice_index ys i) (256 ^ n) _ _ (big_from-lt (suc i) n xs hx) (big_from-lt (suc i) n ys hy) same in
    let place : i + 0 ≡ i = omega arith in
    rw place first
big_from-same i (suc n) xs ys hx hy same (suc k) below =
    let first = digit-same (slice_index xs i) (slice_index ys i) (256 ^ n) _ _ (big_from-lt (suc i) n xs hx) (big_from-lt (suc i) n ys hy) same in
    let whole = rw first at same in
    let place : i + suc k ≡ suc i + k = omega arith in
    rw place (big_from-same (suc i) n xs ys hx hy (omega (arith, whole)) k (omega arith))

-- equal fields have equal bytes, each at its place
pub field-same : (from n : ℕ) (xs ys : List ℕ) → ((k : ℕ) → slice_index xs k < 256) → ((k : ℕ) → slice_index ys k < 256)
    → number_at from n xs ≡ number_at from n ys → (i : ℕ) → from ≤ i → i < from + n → slice_index xs i ≡ slice_index ys i
unfolding number_at
field-same from n xs ys hx hy same i least most =
    let bytes : (zs : List ℕ) → ((k : ℕ) → slice_index zs k < 256) → (k : ℕ) → slice_index (drop from zs) k < 256
    = λ zs hz k. rw (get_or-drop from zs k 0) (hz (from + k)) in
    let k : ℕ = i - from in
    let at : 0 + k ≡ k = omega arith in
    let byte = big_from-same 0 n (drop from xs) (drop from ys) (bytes xs hx) (bytes ys hy) same k (omega arith) in
    let moved : slice_index xs (from + k) ≡ slice_index ys (from + k) = rw (at, get_or-drop from xs k 0, get_or-drop from ys k 0) at byte in
    let place : from + k ≡ i = omega arith in
    rw place at moved

-- a byte at any place, and 0 behind the last
pub AreBytes-slice_index : (xs : List ℕ) → AreBytes xs → (k : ℕ) → slice_index xs k < 256
AreBytes-slice_index xs bytes k = elim (cases_lt k (length xs)) [
  | inl inside ↦ All-get_or (λ x. x < 256) xs k 0 inside bytes
  | inr past ↦ rw (get_or_past xs k 0 past) (omega arith)
]

-- the bytes of a number are bytes
byte_at-lt : (k x : ℕ) → byte_at k x < 256
byte_at-lt zero x = mod-lt x (omega arith)
byte_at-lt (suc k) x = mod-lt _ (omega arith)

big_bytes-lt : (n x k : ℕ) → slice_index (big_bytes n x) k < 256
big_bytes-lt zero x k = omega arith
big_bytes-lt (suc n) x zero = byte_at-lt n x
big_bytes-lt (suc n) x (suc k) = big_bytes-lt n x k

pub AreBytes-big_bytes : (n x : ℕ) → AreBytes (big_bytes n x)
AreBytes-big_bytes n x = All-from_get_or (λ y. y < 256) (big_bytes n x) 0 (λ i inside. big_bytes-lt n x i)

-- the bytes of the number that bytes spell are these bytes
big_bytes-number : (n : ℕ) (xs : List ℕ) → ((k : ℕ) → slice_index xs k < 256) → n ≤ length xs → big_bytes n (big_number n xs) ≡ take n xs
big_bytes-number n xs bytes long =
    let x : ℕ = big_number n xs in
    let ys : List ℕ = big_bytes n x in
    let count = length-bytes_high_first n x in
    let back : big_number n ys ≡ x = ap (big_number n) (sym (append-nil ys)) ∙ big_number-reads_back n x [] (big_from-lt 0 n xs bytes) in
    ext_get_or 0 ys (take n xs) (count ∙ sym (length-take-le n xs long)) (λ i below.
    let inside : i < n = omega (arith, below, count) in
    let at : 0 + i ≡ i = omega arith in
    let same = rw at at (big_from-same 0 n ys xs (big_bytes-lt n x) bytes back i inside) in
    rw (get_or-take n xs i 0 inside) same)

pub number_at-behind : WrittenIsRead
unfolding number_at
number_at-behind n x k xs ys count small =
    let seam : drop (length xs) (xs ++ (big_bytes n x ++ ys)) ≡ big_bytes n x ++ ys = drop-append_seam xs (big_bytes n x ++ ys) in
    let at : drop k (xs ++ (big_bytes n x ++ ys)) ≡ big_bytes n x ++ ys = rw count at seam in
    rw at (big_number-reads_back n x ys small)

pub number_at-drop : PlacesCountOn
unfolding number_at
number_at-drop from n k xs = rw (drop-drop from k xs) refl

-- the bytes from a place
bytes-drop : (from : ℕ) (xs : List ℕ) → AreBytes xs → (k : ℕ) → slice_index (drop from xs) k < 256
bytes-drop from xs bytes k = rw (get_or-drop from xs k 0) (AreBytes-slice_index xs bytes (from + k))

pub number_at-lt : NumbersAreSmall
unfolding number_at
number_at-lt from n xs bytes = big_from-lt 0 n (drop from xs) (bytes-drop from xs bytes)

pub big_bytes-number_at : ReadIsWritten
unfolding number_at
big_bytes-number_at from n xs bytes long = big_bytes-number n (drop from xs) (bytes-drop from xs bytes) (omega (arith, long, length-drop from xs))
