-- Facts of a run under other names of what was handed in.
use Rattle.std.proofs.Common.{◌≡◌, ◌∙◌, ℕ, List, Option, Some, None, map, ap, subst}
use Rattle.gs_net.specs.Tales.{Tale}
use Rattle.gs_units.specs.declared.params.NodeParams.{NodeParams}
use Rattle.gs_trace.specs.declared.start.NodeStart.{NodeStart}
use Rattle.gs_core.specs.State.{State}
use Rattle.gs_board.specs.Ledger.{Ledger}
use Rattle.gs_board.specs.Entries.{neighbours_of}
use Rattle.gs_board.specs.Slips.{Slip, new_slip}
use Rattle.gs_node.specs.Ends.{IsEnd, Shows}
use Rattle.gs_node.specs.Handing.{Failures, HandedBack, HandedIn}
use Rattle.gs_node.specs.Serving.{DoneEnd, EveryEnd}
use Rattle.gs_node.specs.declared.ends.End.{End}
use Rattle.gs_node.specs.declared.ends.End.TheVariants as end
use Rattle.gs_node.specs.inside.Runs.{HasReasons, HasRun, Leavings, Reasons}

abbrev handed : NodeParams → NodeStart → ℕ → List (Option Tale) → Option Tale → HandedIn
handed params begun ticks inlets door = record { params = params; begun = begun; ticks = ticks; inlets = inlets; door = door }

-- what the copy of the parameters and the timer's seat tell of their board
pub from_timer : (t : Ledger) (p : NodeParams) (s : Slip) (ticks : ℕ) (inlets : List (Option Tale)) (door : Option Tale) → p ≡ t.core.params → s ≡ new_slip t None
    → handed p s.begun ticks inlets door ≡ handed t.core.params t.begun ticks inlets door
from_timer t p s ticks inlets door e f =
    ap (λ (z : NodeParams). handed z s.begun ticks inlets door) e ∙ ap (λ (z : Slip). handed t.core.params z.begun ticks inlets door) f

-- a board that has issued seats tells what it told before
pub from_board : (t u : Ledger) (ticks : ℕ) (inlets : List (Option Tale)) (door : Option Tale) → u.core ≡ t.core → u.begun ≡ t.begun
    → handed u.core.params u.begun ticks inlets door ≡ handed t.core.params t.begun ticks inlets door
from_board t u ticks inlets door e f =
    ap (λ (z : State). handed z.params u.begun ticks inlets door) e ∙ ap (λ (z : NodeStart). handed t.core.params z ticks inlets door) f

pub run_from : (a b : HandedIn) (whose : List (Option ℕ)) (r : Leavings) → a ≡ b → whose ≡ map (λ x. Some x) (neighbours_of b.params)
    → HasRun a whose r → HasRun b (map (λ x. Some x) (neighbours_of b.params)) r
run_from a b whose r e f h = subst (λ (z : List (Option ℕ)). HasRun b z r) f (subst (λ (z : HandedIn). HasRun z whose r) e h)

pub reasons_from : (a b : HandedIn) (r : Leavings) (n : Failures) (w : Reasons) → a ≡ b → HasReasons a r n w → HasReasons b r n w
reasons_from a b r n w e h = subst (λ (z : HandedIn). HasReasons z r n w) e h

pub every_from : (a b : HandedIn) (back : HandedBack) → a ≡ b → EveryEnd a back → EveryEnd b back
every_from a b back e h = subst (λ (z : HandedIn). EveryEnd z back) e h

pub done_from : (a b : HandedIn) (back : HandedBack) → a ≡ b → DoneEnd a back → DoneEnd b back
done_from a b back e h = subst (λ (z : HandedIn). DoneEnd z back) e h

-- what shows that a start was refused may be said in other words
pub end_as : (t : Ledger) (ss : List Slip) (n : Failures) (a b : Type 0) (why : End) → (a → b) → IsEnd t ss n a why → IsEnd t ss n b why
end_as t ss n a b why f x = record { torn = x.torn; shows = by why x.shows; halt = x.halt }
  where
    by : (why : End) → Shows t ss n a why → Shows t ss n b why
    by (end.Torn torn) s = s
    by end.NoThread s = f s
    by (end.ClockFault h) s = s
    by end.ClockEnd s = s
    by end.JournalEnd s = s
    by end.LinkFault s = s
    by end.OutOfMemory s = s
    by end.Done s = s
