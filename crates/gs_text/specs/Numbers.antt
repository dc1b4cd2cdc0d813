-- Plain decimals.
use Rattle.std.specs.Prelude.{ℕ, ◌^◌, ◌==◌, ◌&&◌, not, List, [], ◌∷◌, Bool, false, nat_lt, Option, Some, None, if◌then◌else◌}
use Rattle.std.specs.Char.{is_ascii_digit}
use Rattle.std.specs.List.{list_all}
use Rattle.std.specs.Str.Parse.{digits_value}

-- digits alone, at least one, and no leading zero but in the text 0
abbrev pub is_plain : List ℕ → Bool
is_plain [] = false
is_plain (digit ∷ []) = is_ascii_digit digit
is_plain (first ∷ rest) = not (first == 48) && list_all is_ascii_digit (first ∷ rest)

-- the number that digits write, if it is below 2^64
unfoldable pub value_of : List ℕ → Option ℕ
value_of digits = if nat_lt (digits_value 10 digits) (2 ^ 64) then Some (digits_value 10 digits) else None

-- the number that a plain decimal below 2^64 writes
unfoldable pub number_of : List ℕ → Option ℕ
number_of text = if is_plain text then value_of text else None
