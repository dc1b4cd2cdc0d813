-- The words of the command `stamp`.
use Rattle.std.specs.Prelude.{ℕ, List, [], ◌∷◌, Option, None, if◌then◌else◌, codes}
use Rattle.std.specs.Str.{bytes_eq}
use Rattle.gs_cli.specs.Words.{number_within}

-- the COUNT of `FILE COUNT`
abbrev pub count_in : List (List ℕ) → Option ℕ
count_in (file ∷ count ∷ []) = number_within 1 1000000 count
count_in _ = None

-- how many stamps the words `stamp FILE COUNT` ask for
abbrev pub count_of : List (List ℕ) → Option ℕ
count_of (name ∷ args) = if bytes_eq name (codes "stamp") then count_in args else None
count_of _ = None
