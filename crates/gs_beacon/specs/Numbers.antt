-- Numbers in bytes, as all formats of this project write them: the highest byte first.
use Rattle.std.specs.Prelude.{◌≡◌, ℕ, ◌+◌, ◌^◌, ◌<◌, ◌≤◌, List, ◌++◌, All, length, take, drop}
use Rattle.byteorder.specs.Endian.{big_bytes, big_number}

-- bytes, as a list of numbers
abbrev pub AreBytes : List ℕ → Type 0
AreBytes xs = All (λ x. x < 256) xs

-- the number in the n bytes from a place
unfoldable pub number_at : ℕ → ℕ → List ℕ → ℕ
number_at from n bytes = big_number n (drop from bytes)

-- a number that was written behind k bytes is read back from there
abbrev pub WrittenIsRead : Type 0
WrittenIsRead = (n x k : ℕ) (before after : List ℕ)
    → length before ≡ k → x < 256 ^ n → number_at k n (before ++ (big_bytes n x ++ after)) ≡ x

-- the bytes of a number that was read are those that it was read from
abbrev pub ReadIsWritten : Type 0
ReadIsWritten = (from n : ℕ) (bytes : List ℕ)
    → AreBytes bytes → from + n ≤ length bytes → big_bytes n (number_at from n bytes) ≡ take n (drop from bytes)

-- n bytes spell a number below 256^n
abbrev pub NumbersAreSmall : Type 0
NumbersAreSmall = (from n : ℕ) (bytes : List ℕ) → AreBytes bytes → number_at from n bytes < 256 ^ n

-- places count on behind the first k bytes
abbrev pub PlacesCountOn : Type 0
PlacesCountOn = (from n k : ℕ) (bytes : List ℕ) → number_at from n (drop k bytes) ≡ number_at (k + from) n bytes
