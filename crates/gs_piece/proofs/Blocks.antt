-- Columns that are looked at in blocks.
use Rattle.std.proofs.Common.{◌≡◌, ℕ, zero, suc, ◌+◌, ◌-◌, ◌<◌, ◌≤◌, arith, ap, sym, ◌∙◌, subst, Bool, true, false, List, length, drop, take, slice_index_or}
use Rattle.std.specs.List.{count_by}
use Rattle.std.proofs.Math.Seq.{take-length}
use Rattle.std.proofs.lemmas.List.{get_or-drop, get_or-take, length-drop, length-take-le}
use Rattle.std.proofs.lemmas.List.Sums.{count_by_more_no, count_by_more_yes}

-- the items of a block are those from its place on
pub block_length : {A : Type 0} (xs : List A) (a n : ℕ) → a + n ≤ length xs → length (take (a + n - a) (drop a xs)) ≡ n
block_length xs a n inside =
    let same : a + n - a ≡ n = omega arith in
    let rest = length-drop a xs in
    ap (λ (k : ℕ). length (take k (drop a xs))) same ∙ length-take-le n (drop a xs) (omega (arith, inside, rest))

pub block_item : {A : Type 0} (xs : List A) (a n k : ℕ) (d : A) → a + n ≤ length xs → k < n → slice_index_or (take (a + n - a) (drop a xs)) k d ≡ slice_index_or xs (a + k) d
block_item xs a n k d inside h =
    get_or-take (a + n - a) (drop a xs) k d (omega (arith, h)) ∙ get_or-drop a xs k d

-- flags that are not set are not counted
count_on : (flags : List Bool) (u n : ℕ) → u + n ≤ length flags → ((k : ℕ) → u ≤ k → k < u + n → slice_index_or flags k false ≡ false)
    → count_by (λ b. b) (take (u + n) flags) ≡ count_by (λ b. b) (take u flags)
count_on flags u zero inside clear = let same : u + zero ≡ u = omega arith in ap (λ (k : ℕ). count_by (λ b. b) (take k flags)) same
count_on flags u (suc n) inside clear =
    let same : u + suc n ≡ u + n + 1 = omega arith in
    ap (λ (k : ℕ). count_by (λ b. b) (take k flags)) same
    ∙ count_by_more_no (λ b. b) flags (u + n) false (omega (arith, inside)) (clear (u + n) (omega arith) (omega arith))
    ∙ count_on flags u n (omega (arith, inside)) (λ k low high. clear k low (omega (arith, high)))

count_upto : (flags : List Bool) (u i : ℕ) → u ≤ i → i ≤ length flags → ((k : ℕ) → u ≤ k → k < i → slice_index_or flags k false ≡ false)
    → count_by (λ b. b) (take i flags) ≡ count_by (λ b. b) (take u flags)
count_upto flags u i le inside clear =
    let same : i ≡ u + (i - u) = omega (arith, le) in
    ap (λ (k : ℕ). count_by (λ b. b) (take k flags)) same ∙ count_on flags u (i - u) (omega (arith, le, inside)) (λ k low high. clear k low (omega (arith, high, le)))

-- the next that is set is one more
pub count_next : (flags : List Bool) (u i : ℕ) → u ≤ i → i < length flags → slice_index_or flags i false ≡ true → ((k : ℕ) → u ≤ k → k < i → slice_index_or flags k false ≡ false)
    → count_by (λ b. b) (take (i + 1) flags) ≡ count_by (λ b. b) (take u flags) + 1
count_next flags u i le inside set clear =
    count_by_more_yes (λ b. b) flags i false inside set ∙ ap (λ (n : ℕ). n + 1) (count_upto flags u i le (omega (arith, inside)) clear)

-- where none is left that is set, all are counted
pub count_all : (flags : List Bool) (u : ℕ) → u ≤ length flags → ((k : ℕ) → u ≤ k → k < length flags → slice_index_or flags k false ≡ false)
    → count_by (λ b. b) flags ≡ count_by (λ b. b) (take u flags)
count_all flags u inside clear = ap (count_by (λ b. b)) (sym (take-length flags)) ∙ count_upto flags u (length flags) inside (omega arith) clear
