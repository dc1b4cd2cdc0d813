-- Which fields are UTF-8.
use Rattle.std.proofs.Common.{◌≡◌, ◌∙◌, ◌<◌, ◌+◌, ℕ, zero, suc, List, [], ◌∷◌, length, take, get_or, Some, true, false, refl, arith}
use Rattle.std.specs.Str.{is_utf8}
use Rattle.std.specs.List.{list_all}
use Rattle.std.proofs.lemmas.List.Folds.{list_all_at, list_all_more}
use Rattle.std.proofs.lemmas.Str.{is_utf8-from_IsUtf8}
use Rattle.csv.specs.Records.{field_at}
use Rattle.gs_planfile.proofs.Views.{is_utf8-false}

-- the field at a place that is there
pub field_at-within : (fs : List (List ℕ)) (i : ℕ) → i < length fs → field_at fs i ≡ Some (get_or fs i [])
unfolding field_at
field_at-within [] i h = absurd (omega arith)
field_at-within (f ∷ fs) zero h = refl
field_at-within (f ∷ fs) (suc i) h = field_at-within fs i (omega arith)

pub ruleset tests = (is_utf8-from_IsUtf8, is_utf8-false, field_at-within)

pub fails_at : (fs : List (List ℕ)) (i : ℕ) → i < length fs → is_utf8 (get_or fs i []) ≡ false → list_all is_utf8 fs ≡ false
fails_at fs i h e = list_all_at is_utf8 fs i [] h e

pub passes_more : (fs : List (List ℕ)) (i : ℕ) → i < length fs → list_all is_utf8 (take i fs) ≡ true → is_utf8 (get_or fs i []) ≡ true → list_all is_utf8 (take (i + 1) fs) ≡ true
passes_more fs i h a b = list_all_more is_utf8 fs i [] h ∙ rw (a, b)

pub ruleset folds = (fails_at, passes_more)
