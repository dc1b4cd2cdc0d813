-- What a stamper shows: its store, the least stamp that it may issue next, and whether it is closed.
use Rattle.std.specs.Prelude.{ℕ, Bool}
use Rattle.gs_stamp.specs.declared.stores.Store.{Ghosts}
use Rattle.gs_stamp.specs.declared.stamping.Stamper.{Stamper}

-- the store
abbrev pub store_of : {S : Type 0} {told : Ghosts S} → Stamper S told → S
store_of stamper = stamper.store

-- the least stamp that may come next
abbrev pub next_of : {S : Type 0} {told : Ghosts S} → Stamper S told → ℕ
next_of stamper = stamper.next

-- the store failed: no stamp comes any more
abbrev pub is_closed : {S : Type 0} {told : Ghosts S} → Stamper S told → Bool
is_closed stamper = stamper.closed
