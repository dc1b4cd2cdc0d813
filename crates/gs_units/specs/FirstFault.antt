-- The first fault in a fixed order. A fault where its test holds is std's `then_some`.
use Rattle.std.specs.Prelude.{List, [], ◌∷◌, Option, None}
use Rattle.std.specs.Option.{option_or}

-- the first of some faults
abbrev pub first_some : {F : Type 0} → List (Option F) → Option F
first_some [] = None
first_some (o ∷ os) = option_or o (first_some os)
