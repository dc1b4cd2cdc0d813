-- Digits and their value.
use Rattle.std.proofs.Common.{◌≡◌, ◌+◌, ◌<◌, ◌≤◌, ◌^◌, ℕ, List, [], ◌∷◌, length, get_or, decimal, true, Option, Some, None, Result, Ok, Err, IfSome, arith, rules, refl, sym}
use Rattle.std.specs.Char.{is_ascii_digit}
use Rattle.std.specs.List.{list_all}
use Rattle.std.specs.Str.Parse.{digits_value}
use Rattle.std.proofs.lemmas.Str.Parse.{IsNumeralModel, numerals_by_value, parse_digits}
use Rattle.std.specs.Str.{IsUtf8}
use Rattle.std.specs.Str.Parse.{ParsesUnsigned}
use Rattle.std.specs.Result.{OkIff, result_ok}
use Rattle.std.proofs.Math.Nat.{lt_of_not-le}
use Rattle.std.proofs.lemmas.Bool.{lt-ltb, le-ltb}
use Rattle.std.proofs.lemmas.Str.{IsUtf8-from_ascii}
use Rattle.std.proofs.lemmas.Fmt.{IsAscii-from_digits, digits_decimal, digits_value-decimal, decimal-digits_value, decimal_nonempty, first_decimal, decimal_digit}
use Rattle.gs_text.specs.Numbers.{is_plain, value_of, number_of}

-- the digits of a text, and their value
pub own : IsNumeralModel (λ ds. list_all is_ascii_digit ds ≡ true) (digits_value 10)
own = numerals_by_value _ (search rules)

-- a plain decimal is of digits
pub plain-digits : (text : List ℕ) → is_plain text ≡ true → list_all is_ascii_digit text ≡ true
plain-digits [] plain = grind arith
plain-digits (d ∷ []) plain = grind arith
plain-digits (d ∷ e ∷ ds) plain = grind arith

-- a plain decimal is not empty
pub plain-some : (text : List ℕ) → is_plain text ≡ true → 0 < length text
plain-some [] plain = grind arith
plain-some (d ∷ ds) plain = grind arith

-- a plain decimal with a zero in front is that zero
pub plain-zero : (text : List ℕ) → is_plain text ≡ true → get_or text 0 0 ≡ 48 → length text ≡ 1
plain-zero [] plain lead = grind arith
plain-zero (d ∷ []) plain lead = grind arith
plain-zero (d ∷ e ∷ ds) plain lead = grind arith

-- what is not empty, of digits and without a leading zero is plain
pub digits-plain : (ds : List ℕ) → list_all is_ascii_digit ds ≡ true → 0 < length ds → (get_or ds 0 0 ≡ 48 → length ds ≡ 1) → is_plain ds ≡ true
digits-plain [] digits some lead = grind arith
digits-plain (d ∷ []) digits some lead = grind arith
digits-plain (d ∷ e ∷ ds) digits some lead = grind arith

-- a plain decimal is text
pub plain-utf8 : (text : List ℕ) → is_plain text ≡ true → IsUtf8 text
plain-utf8 text plain = IsUtf8-from_ascii text (IsAscii-from_digits text (own.to text (plain-digits text plain)))

-- std's parse reads the value of a plain decimal
pub parse-plain : {E : Type 0} (text : List ℕ) (r : Result ℕ E) → is_plain text ≡ true → ParsesUnsigned 64 10 text r → result_ok r ≡ value_of text
unfolding value_of
parse-plain text r plain parsed = by r (parse_digits own 64 text r parsed (plain-digits text plain))
  where
    by : {E : Type 0} (r : Result ℕ E) → OkIff r ((0 < length text) × (digits_value 10 text < 2 ^ 64)) (digits_value 10 text) → result_ok r ≡ value_of text
    by (Ok n) gave = rw (gave.1, lt-ltb _ _ gave.0.1) refl
    by (Err e) gave =
        let more : 2 ^ 64 < digits_value 10 text + 1 = lt_of_not-le (λ small. gave (plain-some text plain, omega (arith, small))) in
        let large : 2 ^ 64 ≤ digits_value 10 text = omega (arith, more) in
        rw (le-ltb _ _ large) refl

-- the text of a number has no leading zero
decimal-zero : (n : ℕ) → n < 2 ^ 64 → get_or (decimal n) 0 0 ≡ 48 → length (decimal n) ≡ 1
decimal-zero n small lead = grind (arith, first_decimal n, decimal_digit n)

-- the text of a number is read as that number
pub decimal-number_of : (n : ℕ) → n < 2 ^ 64 → number_of (decimal n) ≡ Some n
unfolding number_of value_of
decimal-number_of n small =
    rw (digits-plain (decimal n) (digits_decimal own n small) (decimal_nonempty n small) (decimal-zero n small), digits_value-decimal own n small, lt-ltb _ _ small) refl

-- a value that is given is that of the digits
value_of-is : (text : List ℕ) (n : ℕ) → value_of text ≡ Some n → (digits_value 10 text < 2 ^ 64) × (digits_value 10 text ≡ n)
unfolding value_of
value_of-is text n read = grind arith

-- a number that is read is the value of a plain decimal
number_of-is : (text : List ℕ) (n : ℕ) → number_of text ≡ Some n → (is_plain text ≡ true) × (value_of text ≡ Some n)
unfolding number_of
number_of-is text n read = grind arith

-- what is read as a number is the text of that number
pub number_of-decimal : (text : List ℕ) (n : ℕ) → number_of text ≡ Some n → text ≡ decimal n
number_of-decimal text n read =
    let plain = (number_of-is text n read).0 in
    let value = value_of-is text n (number_of-is text n read).1 in
    let back : decimal (digits_value 10 text) ≡ text = decimal-digits_value own text (plain-digits text plain) (plain-some text plain) (plain-zero text plain) value.0 in
    rw (← value.1) (sym back)

-- a number that is read is one whose text it is
pub number_of-some : (text : List ℕ) (read : Option ℕ) → read ≡ number_of text → IfSome read (λ n. text ≡ decimal n)
number_of-some text None is = tt
number_of-some text (Some n) is = number_of-decimal text n (sym is)

-- the text of a number is read as that number, whatever names the text
pub number_of-every : (text : List ℕ) (read : Option ℕ) → read ≡ number_of text → (n : ℕ) → n < 2 ^ 64 → text ≡ decimal n → read ≡ Some n
number_of-every text read is n small named = rw (is, named) (decimal-number_of n small)

pub ruleset readings = (number_of-some, number_of-every)
