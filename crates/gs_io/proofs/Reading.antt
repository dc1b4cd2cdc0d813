-- What is read under a limit.
use Rattle.std.proofs.Common.{◌≡◌, ℕ, ◌+◌, ◌-◌, ◌^◌, ◌<◌, ◌≤◌, List, length, take, min, Option, Some, None, IfSome, option_map, arith, refl, ◌∙◌}
use Rattle.std.proofs.lemmas.List.{length-take, take_all}

-- what was read under a limit is all where it stops short of the limit
pub all_told : (told : Option (List ℕ)) (most limit : ℕ) (items : List ℕ) → limit ≡ min (most + 1) (2 ^ 64 - 1) → length items ≤ most → length items < 2 ^ 63
    → IfSome (option_map (take limit) told) (λ xs. items ≡ xs) → IfSome told (λ xs. items ≡ xs)
all_told None most limit items is at_most fits front = tt
all_told (Some xs) most limit items is at_most fits front =
    let short : length (take limit xs) ≡ length items = rw front refl in
    let whole : length xs ≤ limit = grind (arith, is, short, length-take limit xs) in
    front ∙ take_all limit xs whole
