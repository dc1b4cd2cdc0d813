-- What a reader answers.
use Rattle.std.specs.Prelude.{ℕ, ◌+◌, ◌-◌, ◌^◌, min, max, List, [], ◌∷◌}
use Rattle.gs_units.specs.Rates.{steer_of}
use Rattle.gs_units.specs.declared.rate.Rate.{Rate}
use Rattle.gs_view.specs.declared.snaps.Snap.{Snap}

-- the greatest clock that is answered
abbrev pub last_clock : ℕ
last_clock = 2 ^ 62 - 1

-- the clock of a snap at a reading: the clock that it tells where the reading is below its own, and never above the last clock
abbrev pub value_of : Rate → Snap → ℕ → ℕ
value_of rate snap hw = min (snap.l + steer_of rate snap.mode (min (hw - snap.at) last_clock)) last_clock

-- the clock of the last snap, or the last answer where that is greater
abbrev pub answer_at : Rate → List Snap → ℕ → ℕ → ℕ
answer_at rate [] last hw = last
answer_at rate (snap ∷ []) last hw = max last (value_of rate snap hw)
answer_at rate (_ ∷ snap ∷ snaps) last hw = answer_at rate (snap ∷ snaps) last hw
