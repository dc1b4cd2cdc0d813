-- What is late in a world, and from when on something may be: for private functions alone.
use Rattle.std.specs.Prelude.{ℕ, ◌+◌, ◌≤◌, All, Option, is_some, position}
use Rattle.gs_run.specs.Net.{Net}
use Rattle.gs_run.specs.Why.{at_node, is_due_at, stale_of, stale_place}
use Rattle.gs_run.specs.World.{World}
use Rattle.gs_world.specs.declared.deadlines.Deadlines.{Deadlines}
use Rattle.gs_run.specs.declared.refused.Refused.{Refused}
use Rattle.gs_run.specs.declared.refused.Refused.TheVariants.{TickDue}

-- the refusal of the least node whose tick is due
abbrev pub due_in : Net → World → Option Refused
due_in net w = at_node TickDue (position (is_due_at net w.quanta) w.members)

-- the refusal of the least node that heard some neighbour too long ago
abbrev pub stale_in : Net → World → Option Refused
stale_in net w = stale_of net w (position (λ m. is_some (stale_place net w.quanta m)) w.members)

-- no tick is due before so many quanta
abbrev pub IsNoneDueBefore : Net → World → ℕ → Type 0
IsNoneDueBefore net w due = All (λ m. due ≤ m.ticked_at + net.tick) w.members

-- nothing that was heard is stale before so many quanta
abbrev pub IsNoneStaleBefore : Net → World → ℕ → Type 0
IsNoneStaleBefore net w stale = All (λ m. All (λ sent. stale ≤ sent + net.age) m.heard) w.members

-- nothing is late before these
pub record AreDeadlines (net : Net) (w : World) (d : Deadlines) : Type 0 where
  pub ticks : IsNoneDueBefore net w d.due
  pub heard : IsNoneStaleBefore net w d.stale
