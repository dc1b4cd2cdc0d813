-- Numbers that change from run to run of quanta: for private functions alone.
use Rattle.std.specs.Prelude.{ℕ, ◌<◌, ◌≤◌, nat_le, length, slice_index_or, if◌then◌else◌, List, [], ◌∷◌}
use Rattle.gs_script.specs.declared.run.Run.{Run}

-- the value of the first run that has not ended before quantum t, or x behind the last
unfoldable pub value_or : ℕ → List Run → ℕ → ℕ
value_or t [] x = x
value_or t (r ∷ rs) x = if nat_le t r.until then r.value else value_or t rs x

-- the value in quantum t, which is 0 behind the last run
abbrev pub value_at : List Run → ℕ → ℕ
value_at rs t = value_or t rs 0

-- no run ends before quantum n, nor before one that stands before it
unfoldable pub Rise : ℕ → List Run → Type 0
Rise n [] = Unit {0}
Rise n (r ∷ rs) = (n ≤ r.until) × Rise r.until rs

-- all runs before this place end before quantum t
abbrev pub AreBehind : ℕ → List Run → ℕ → Type 0
AreBehind t rs place = (j : ℕ) (d : Run) → j < place → j < length rs → (slice_index_or rs j d).until < t
