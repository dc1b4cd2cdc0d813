-- What a store in memory keeps: each state that it had.
use Rattle.std.specs.Prelude.{◌≡◌, ◌⊎◌, ℕ, ◌≤◌, List, [], ◌∷◌, length, Some}
use mathlib.Core.Logic.{inl, inr}
use Rattle.std.proofs.Common.{arith, sym, ◌∙◌, subst}
use Rattle.gs_stamp.specs.Tears.{Leaves, Leaves-refl, Leaves-size}
use Rattle.gs_stamp.specs.declared.in_memory.State.{State}

-- what a crash may leave in this state
abbrev pub LeavesOf : State → List ℕ → Type 0
LeavesOf state c = Leaves state.torn state.bytes c

-- one of the states from the moment t on may have left this: the state now, and those before, the newest first
abbrev pub LeftSince : State → List State → ℕ → List ℕ → Type 0
LeftSince now [] t c = LeavesOf now c
LeftSince now (state ∷ past) t c = LeavesOf now c ⊎ ((t ≤ length past) × LeftSince state past t c)

pub left_size : (state : State) (c : List ℕ) → LeavesOf state c → length c ≡ 18
left_size state c left = Leaves-size state.torn state.bytes c left ∙ state.whole

pub seen_may_stay : (state : State) (c : List ℕ) → Some state.bytes ≡ Some c → LeavesOf state c
seen_may_stay state c is =
    let same : state.bytes ≡ c = cc in
    subst (LeavesOf state) same (Leaves-refl state.torn state.bytes (state.each ∙ sym state.whole))

pub counts_now : (now : State) (past : List State) (t : ℕ) (c : List ℕ) → LeavesOf now c → LeftSince now past t c
counts_now now [] t c left = left
counts_now now (state ∷ past) t c left = inl left

pub only_now : (now : State) (past : List State) (c : List ℕ) → LeftSince now past (length past) c → LeavesOf now c
only_now now [] c left = left
only_now now (state ∷ past) c (inl left) = left
only_now now (state ∷ past) c (inr (late, left)) = absurd (omega arith)
