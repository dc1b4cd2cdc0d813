-- What is said of items that were taken from an inlet.
use Rattle.std.specs.Prelude.{ℕ, Bool, true, false, List, [], ◌∷◌}
use Rattle.std.specs.List.{sum_by}
use Rattle.gs_net.specs.declared.items.Item.{Item}
use Rattle.gs_net.specs.declared.items.Item.TheVariants.{Datagram, Quiet}

-- a quiet mark: nothing was ready
abbrev pub is_quiet : Item → Bool
is_quiet Quiet = true
is_quiet (Datagram bytes) = false

abbrev pub one_datagram : Item → ℕ
one_datagram Quiet = 0
one_datagram (Datagram bytes) = 1

-- how many datagrams there are
abbrev pub datagrams : List Item → ℕ
datagrams items = sum_by one_datagram items

-- there are items, and the last passes this test
abbrev pub ends_in : (Item → Bool) → List Item → Bool
ends_in test [] = false
ends_in test (last ∷ []) = test last
ends_in test (item ∷ next ∷ items) = ends_in test (next ∷ items)
