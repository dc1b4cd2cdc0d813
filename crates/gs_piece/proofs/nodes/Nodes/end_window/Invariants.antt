use Rattle.std.proofs.Common.{◌≡◌, ℕ, ◌-◌, ◌≤◌, length}
use Rattle.gs_run.specs.Net.{Net}
use Rattle.gs_calendar.specs.Course.{Course}
use Rattle.gs_piece.specs.Nodes.{AllHanded, AreNodes, AreWith, Ending}
use Rattle.gs_piece.proofs.nodes.Nodes.end_window.Given as goal

abbrev pub invariant-loop-i : goal.invariant-loop-i
invariant-loop-i l = record {
  inside : l.from ≤ length l.self.sends.items;
  nodes : (net : Net) (c : Course) (by : ℕ → ℕ → ℕ) (a b m t : ℕ) → AllHanded net by a b t → AreNodes net c by a b m (λ i. t) l.fn.self
      → AreWith net.nodes a b (Ending net c a m t l.from) l.self;
}

abbrev pub decreases-loop-i : goal.decreases-loop-i
decreases-loop-i l = length l.self.sends.items - l.from
