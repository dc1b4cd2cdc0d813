-- The budget: how far the offsets that nodes decide by are off when they are used.
use Rattle.std.specs.Prelude.{ℕ, ◌<◌, ℤ, pos, ◌-ℤ◌, ◌+ℤ◌, ◌≤ℤ◌, List, [], ◌∷◌, map, length, ⊤, slice_index_or, slice_set}
use Rattle.std.specs.List.{range_with_len}
use Rattle.gs_trigger.specs.Triggers.{Sight}
use Rattle.gs_core.specs.Node.{Decision, decision_of}
use Rattle.gs_core.specs.declared.event.Event.{Event}
use Rattle.gs_core.specs.declared.event.Event.TheVariants.{Quantum, Tick, Deliver}
use Rattle.gs_run.specs.Net.{Net, params_of, neighbours, neighbour, delta_of}
use Rattle.gs_run.specs.World.{World, member, effect, clock_in}

-- a world, with what the last tick of each node decided by, which the world does not keep; the start counts as a tick
pub record Watched : Type 0 where
  pub world : World
  pub decided : List Decision

abbrev pub no_decision : Decision
no_decision = record { sights = []; m = 0 }

abbrev pub decision : Watched → ℕ → Decision
decision x v = slice_index_or x.decided v no_decision

-- what node v would decide by now
abbrev pub decision_in : Net → World → ℕ → Decision
decision_in net w v = decision_of (params_of net v) (member w v).node (member w v).reading

abbrev pub decided_after : Net → Watched → Event → List Decision
decided_after net x (Quantum incs) = x.decided
decided_after net x (Tick v) = slice_set x.decided v (decision_in net x.world v)
decided_after net x (Deliver from to seq) = x.decided

abbrev pub watch : Net → Watched → Event → Watched
watch net x e = record { world = effect net x.world e; decided = decided_after net x e }

abbrev pub watched_at_start : Net → World → Watched
watched_at_start net w = record { world = w; decided = map (decision_in net w) (range_with_len 0 net.nodes) }

-- how far x is ahead of v
abbrev pub true_offset : Net → World → ℕ → ℕ → ℤ
true_offset net w v x = pos (clock_in net w x) -ℤ pos (clock_in net w v)

-- The offset of the neighbour at place i that node v decided by is within the edge's delta of what it is now.
pub record IsNear (net : Net) (x : Watched) (v i : ℕ) (sight : Sight) : Type 0 where
  pub most : sight.1 ≤ℤ (true_offset net x.world v (neighbour net v i) +ℤ pos (delta_of net v (neighbour net v i)))
  pub least : true_offset net x.world v (neighbour net v i) ≤ℤ (sight.1 +ℤ pos (delta_of net v (neighbour net v i)))

abbrev pub AreNear : Net → Watched → Type 0
AreNear net x = (v i : ℕ) (d : Sight) → v < net.nodes → i < length (neighbours net v)
    → IsNear net x v i (slice_index_or (decision x v).sights i d)

-- At the end of each quantum the offsets that the nodes last decided by are near.
abbrev pub Budget : Net → Watched → List Event → Type 0
Budget net x [] = ⊤
Budget net x (Quantum incs ∷ es) = AreNear net (watch net x (Quantum incs)) × Budget net (watch net x (Quantum incs)) es
Budget net x (Tick v ∷ es) = Budget net (watch net x (Tick v)) es
Budget net x (Deliver from to seq ∷ es) = Budget net (watch net x (Deliver from to seq)) es
