-- What a node that was served hands back.
use Rattle.std.proofs.Common.{◌≡◌, ◌∙◌, ℕ, List, [], ◌∷◌, length, map, Option, ap, sym, subst}
use Rattle.std.proofs.lemmas.List.{length-map}
use Rattle.gs_net.specs.Tales.{Tale, whole}
use Rattle.gs_net.specs.declared.items.Item.{Item}
use Rattle.std.specs.List.{AllZip}
use Rattle.gs_net.specs.Lending.{Holds}
use Rattle.gs_units.specs.declared.params.NodeParams.{NodeParams}
use Rattle.gs_board.specs.Boards.{ledger_in}
use Rattle.gs_board.specs.Ledger.{Ledger}
use Rattle.gs_board.specs.Slips.{Slip}
use Rattle.gs_node.specs.Handing.{HandedBack, HandedIn}
use Rattle.gs_node.specs.Serving.{EndsWith}
use Rattle.gs_clock.specs.declared.clocks.Clock as clock
use Rattle.gs_node_run.specs.Served.{IfClock, IfServed, IsHanded, WasServed}
use Rattle.gs_node_run.specs.declared.ends.Left.{Left}
use Rattle.gs_node_run.specs.declared.ends.Left.TheVariants as left

same_long : (f : Option Tale → Option (List Item)) (xs ys : List (Option Tale)) → map f xs ≡ map f ys → length xs ≡ length ys
same_long f xs ys same = sym (length-map xs (f)) ∙ (ap length same ∙ length-map ys (f))

-- as many inlets as were handed in
pub as_many : (a : HandedIn) (b : HandedBack) (seats : List Slip) → EndsWith a b seats → length b.inlets ≡ length a.inlets
as_many a b [] without = ap length without.untouched.inlets_same
as_many a b (timer ∷ others) with_seats = same_long whole b.inlets a.inlets with_seats.items

-- a node that was served has no clock left
pub no_clock : {C : Type 0} {c : clock.Ghosts C} (left : Left C c) (P : C → Type 0) → WasServed left → IfClock left P
no_clock (left.Clock clock) P served = absurd served
no_clock (left.Served board seats) P served = tt

-- what is so of one served node is so of another fact of it
pub served_as : {C : Type 0} {c : clock.Ghosts C} (left : Left C c) (P Q : Ledger → List Slip → Type 0) → ((ledger : Ledger) (seats : List Slip) → P ledger seats → Q ledger seats) → IfServed left P → IfServed left Q
served_as (left.Clock clock) P Q turn is = tt
served_as (left.Served board seats) P Q turn is = turn (ledger_in board) seats.items is

-- and of two facts of it
pub both_served : {C : Type 0} {c : clock.Ghosts C} (left : Left C c) (P R Q : Ledger → List Slip → Type 0) → ((ledger : Ledger) (seats : List Slip) → P ledger seats → R ledger seats → Q ledger seats) → IfServed left P → IfServed left R → IfServed left Q
both_served (left.Clock clock) P R Q turn is also = tt
both_served (left.Served board seats) P R Q turn is also = turn (ledger_in board) seats.items is also

-- and so of a clock that is left
pub clock_as : {C : Type 0} {c : clock.Ghosts C} (left : Left C c) (P Q : C → Type 0) → ((clock : C) → P clock → Q clock) → IfClock left P → IfClock left Q
clock_as (left.Clock clock) P Q turn is = turn clock is
clock_as (left.Served board seats) P Q turn is = tt

-- the same of equal parameters, ticks and ports
pub handed_as : (params others : NodeParams) (ticks turns : ℕ) (held : Option (ℕ → List Item)) (ports numbers : List ℕ) (door port : ℕ) (handed : HandedIn) → params ≡ others → ticks ≡ turns → ports ≡ numbers → door ≡ port
    → IsHanded params ticks held ports door handed → IsHanded others turns held numbers port handed
handed_as params others ticks turns held ports numbers door port handed p t n d is = record {
  params_are = is.params_are ∙ p;
  ticks_are = is.ticks_are ∙ t;
  start = is.start;
  inlets = subst (λ (z : List ℕ). AllZip (Holds held) z handed.inlets) n is.inlets;
  door_holds = subst (λ (z : ℕ). Holds held z handed.door) d is.door_holds;
}
