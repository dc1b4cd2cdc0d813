use Rattle.std.proofs.Common.{ℕ, ◌<◌, ◌≤◌, All, slice_index_or}
use Rattle.gs_world.specs.declared.member.Member.{Member as Seat}
use Rattle.gs_world.proofs.deadlines.oldest_heard.Given as goal

abbrev pub invariant-loop-member : goal.invariant-loop-member
invariant-loop-member l = (k : ℕ) (d : Seat) → k < l.member-index → All (λ sent. l.oldest ≤ sent) (slice_index_or l.members k d).heard.items
