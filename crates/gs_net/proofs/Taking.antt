-- One item more.
use Rattle.std.proofs.Common.{◌≡◌, ◌∙◌, ℕ, ◌+◌, List, [], ◌∷◌, ◌++◌, Bool, refl, arith}
use Rattle.std.specs.List.{sum_by}
use Rattle.std.proofs.lemmas.List.Sums.{sum_by-append}
use Rattle.gs_net.specs.declared.items.Item.{Item}
use Rattle.gs_net.specs.Items.{ends_in}

pub sum_more : (f : Item → ℕ) (items : List Item) (i : Item) → sum_by f (items ++ i ∷ []) ≡ sum_by f items + f i
sum_more f items i = sum_by-append f items (i ∷ []) ∙ omega arith

pub ends_more : (test : Item → Bool) (items : List Item) (i : Item) → ends_in test (items ++ i ∷ []) ≡ test i
ends_more test [] i = refl
ends_more test (x ∷ []) i = refl
ends_more test (x ∷ y ∷ items) i = ends_more test (y ∷ items) i
