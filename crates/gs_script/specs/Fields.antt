-- The fields of a record, each as a text.
use Rattle.std.specs.Prelude.{codes, ℕ, ◌==◌, length, List, Bool, true, false, Option, Some, None, Result, Ok, Err}
use Rattle.std.specs.Prelude.{option_and_then, option_map, ok_or, if◌then◌else◌}
use Rattle.std.specs.Str.{bytes_eq, is_utf8}
use Rattle.std.specs.List.{list_all}
use Rattle.std.specs.Option.{option_map_or}
use Rattle.csv.specs.Records.{field_at}
use Rattle.gs_text.specs.Numbers.{number_of}
use Rattle.gs_script.specs.declared.fault.ScriptFault.{ScriptFault}
use Rattle.gs_script.specs.declared.fault.ScriptFault.TheVariants as fault
use Rattle.gs_script.specs.declared.fields.NodeField.{NodeField}
use Rattle.gs_script.specs.declared.fields.NodeField.TheVariants.{Star, Number}
use Rattle.gs_script.specs.declared.fields.Word.{Word}
use Rattle.gs_script.specs.declared.fields.Word.TheVariants.{Quanta, Drift, Tick, Delay, Loss}

infixl 10 ◌>>=◌
-- one step after the other, up to the first fault
abbrev pub ◌>>=◌ : {A B : Type 0} → Result A ScriptFault → (A → Result B ScriptFault) → Result B ScriptFault
(Ok x) >>= f = f x
(Err e) >>= f = Err e

-- a fault where the test fails
abbrev pub require : Bool → ScriptFault → Result (Unit {0}) ScriptFault
require true e = Ok tt
require false e = Err e

-- every field of record k is UTF-8
abbrev pub texts_in : ℕ → List (List ℕ) → Result (Unit {0}) ScriptFault
texts_in k fs = require (list_all is_utf8 fs) (fault.Csv k)

-- it has n fields
abbrev pub count_in : ℕ → ℕ → List (List ℕ) → Result (Unit {0}) ScriptFault
count_in n k fs = require (length fs == n) (fault.Fields k)

-- the word that a field is
abbrev pub word_of : List ℕ → Option Word
word_of f =
    if bytes_eq f (codes "quanta") then Some Quanta
    else if bytes_eq f (codes "drift") then Some Drift
    else if bytes_eq f (codes "tick") then Some Tick
    else if bytes_eq f (codes "delay") then Some Delay
    else if bytes_eq f (codes "loss") then Some Loss
    else None

-- the word of record k
unfoldable pub word_at : ℕ → List (List ℕ) → Result Word ScriptFault
word_at k fs = ok_or (option_and_then word_of (field_at fs 0)) (fault.Word k)

-- its first field is this word
abbrev pub begins_with : List ℕ → List (List ℕ) → Bool
begins_with word fs = option_map_or (λ f. bytes_eq f word) (field_at fs 0) false

-- the number in a field: a plain decimal below 2^64
unfoldable pub number_at : ℕ → List (List ℕ) → ℕ → Result ℕ ScriptFault
number_at k fs i = ok_or (option_and_then number_of (field_at fs i)) (fault.Number k)

-- a star, or a number
abbrev pub star_or_number : List ℕ → Option NodeField
star_or_number f = if bytes_eq f (codes "*") then Some Star else option_map Number (number_of f)

-- the node in a field, or the star
unfoldable pub node_at : ℕ → List (List ℕ) → ℕ → Result NodeField ScriptFault
node_at k fs i = ok_or (option_and_then star_or_number (field_at fs i)) (fault.Number k)
