-- What the records of a script say, and which of them decides.
use Rattle.std.specs.Prelude.{ℕ, ◌==◌, ◌&&◌, nat_le, if◌then◌else◌}
use Rattle.std.specs.Prelude.{List, [], ◌∷◌, Bool, true, Option, Some, None}
use Rattle.std.specs.Option.{option_or}
use Rattle.gs_script.specs.declared.line.Who.{Who}
use Rattle.gs_script.specs.declared.line.Who.TheVariants.{Every, One}
use Rattle.gs_script.specs.declared.line.Span.{Span}
use Rattle.gs_script.specs.declared.line.Setting.{Setting}
use Rattle.gs_script.specs.declared.line.Setting.TheVariants.{Drift, Tick, Delay, Loss}
use Rattle.gs_script.specs.declared.line.Line.{Line}

-- a node, or the star, is this node
abbrev pub is_for : Who → ℕ → Bool
is_for Every v = true
is_for (One w) v = w == v

-- both ends of a span belong to it
abbrev pub holds : Span → ℕ → Bool
holds s t = nat_le s.from t && nat_le t s.to

-- the increment that a record sets for node v
abbrev pub inc_said : ℕ → Setting → Option ℕ
inc_said v (Drift node inc) = if is_for node v then Some inc else None
inc_said v _ = None

-- the gap between ticks that it sets for node v
abbrev pub gap_said : ℕ → Setting → Option ℕ
gap_said v (Tick node gap) = if is_for node v then Some gap else None
gap_said v _ = None

-- the delay that it sets for beacons from v to w
abbrev pub delay_said : ℕ → ℕ → Setting → Option ℕ
delay_said v w (Delay from to quanta) = if is_for from v && is_for to w then Some quanta else None
delay_said v w _ = None

-- whether they are lost, where it sets that
abbrev pub loss_said : ℕ → ℕ → Setting → Option Bool
loss_said v w (Loss from to is_lost) = if is_for from v && is_for to w then Some is_lost else None
loss_said v w _ = None

-- what the last record says in quantum t that says anything
unfoldable pub last_said : {A : Type 0} → (Setting → Option A) → ℕ → List Line → Option A
last_said said t [] = None
last_said said t (l ∷ ls) = option_or (last_said said t ls) (if holds l.span t then said l.setting else None)
