-- Lists of snaps.
use Rattle.std.specs.Prelude.{◌≡◌, ℕ, ◌≤◌, List, [], ◌∷◌, ◌++◌, drop, length, Option, Some, None}
use Rattle.gs_view.specs.declared.snaps.Snap.{Snap}

-- the list xs begins with ys
abbrev pub StartsWith : List Snap → List Snap → Type 0
StartsWith xs ys = (rest : List Snap) × (xs ≡ ys ++ rest)

-- the last snap, if there is one
abbrev pub last_in : List Snap → Option Snap
last_in [] = None
last_in (x ∷ []) = Some x
last_in (x ∷ y ∷ ys) = last_in (y ∷ ys)

-- the last snap, or the first where there is no other
abbrev pub last_or : Snap → Option Snap → Snap
last_or first None = first
last_or first (Some last) = last

-- the place of the last snap, or n where there is none
abbrev pub last_place : ℕ → List Snap → ℕ
last_place n [] = n
last_place n (x ∷ xs) = last_place x.place xs

-- places never fall, beginning at n
abbrev pub Rises : ℕ → List Snap → Type 0
Rises n [] = Unit {0}
Rises n (x ∷ xs) = (n ≤ x.place) × Rises x.place xs

-- the snaps, if there are any
abbrev pub or_none : Option (List Snap) → List Snap
or_none None = []
or_none (Some xs) = xs

-- the snaps of a note, and behind them those that were known beyond so many. Where one of the two lists begins with the
-- other, this is the longer one
abbrev pub joined : List Snap → List Snap → List Snap
joined note known = note ++ drop (length note) known
