-- What a store in memory shows.
use Rattle.std.specs.Prelude.{Bool}
use Rattle.gs_io.specs.Causes.{counted, is_to_fail}
use Rattle.gs_stamp.specs.declared.in_memory.MemStore.{MemStore}
use Rattle.gs_stamp.specs.declared.in_memory.State.{State}

-- its bytes, and which of them a crash may change
abbrev pub state_of : MemStore → State
state_of store = store.state

-- the next call is one of those that are to fail
abbrev pub is_next_to_fail : MemStore → Bool
is_next_to_fail store = is_to_fail store.fails.items (counted store.calls)
