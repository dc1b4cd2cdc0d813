-- What a node keeps of its neighbours, and how far their clocks are ahead by it.
use Rattle.std.specs.Prelude.{ℕ, ℤ, pos, ◌-ℤ◌, ◌+◌, ◌-◌, List, Bool, nat_lt, if◌then◌else◌, slice_index_or, slice_set}
use Rattle.gs_estimate.specs.declared.slots.Entry.{Entry}
use Rattle.gs_estimate.specs.declared.slots.Heard.{Heard}
use Rattle.gs_estimate.specs.declared.slots.Heard.TheVariants.{Fresh, Old}

-- the estimate of a neighbour's clock at a reading: what its beacon told, grown at the node's own hardware rate since
abbrev pub estimate_of : Entry → ℕ → ℕ
estimate_of e now = e.value + (now - e.at)

-- how far the estimate is ahead of the clock l
abbrev pub offset_of : ℕ → ℕ → Entry → ℤ
offset_of l now e = pos (estimate_of e now) -ℤ pos l

-- the entry of the neighbour at a place
abbrev pub entry_at : List Entry → ℕ → Entry
entry_at entries i = slice_index_or entries i (record { seq = 0; value = 0; at = 0 })

-- whether a beacon of this sequence is newer than what the entry keeps
abbrev pub is_fresh : Entry → ℕ → Bool
is_fresh e seq = nat_lt e.seq seq

-- how a beacon of this sequence is taken
abbrev pub answer_of : Entry → ℕ → Heard
answer_of e seq = if is_fresh e seq then Fresh else Old

-- the entries after a beacon of the neighbour at place i, which makes the entry e where it is fresh
abbrev pub heard_at : List Entry → ℕ → Entry → List Entry
heard_at entries i e = if is_fresh (entry_at entries i) e.seq then slice_set entries i e else entries
