use Rattle.std.proofs.Common.{ℕ, ◌≤◌, ◌||◌, get_or, nat_lt, sym}
use Rattle.std.proofs.lemmas.Bool.{le-ltb, or_from}
use Rattle.std.proofs.lemmas.List.Elements.{All-get_or}
use Rattle.gs_topo.proofs.Nearer.{position_nowhere}
use Rattle.gs_world.proofs.quantum.first_drift.Goals as goal

pub returns-then-are_within : goal.returns-then-are_within
returns-then-are_within c =
    let incs = c.args.incs.now in
    let within = c.are_within.ensures c.if-are_within.true in
    sym (position_nowhere (λ h. nat_lt h c.args.lo || nat_lt c.args.hi h) incs 0 (λ k inside.
    let at = All-get_or (λ (h : ℕ). (c.args.lo ≤ h) × (h ≤ c.args.hi)) incs k 0 inside within in
    or_from (nat_lt (get_or incs k 0) c.args.lo) (nat_lt c.args.hi (get_or incs k 0)) (le-ltb _ _ at.0) (le-ltb _ _ at.1)))
