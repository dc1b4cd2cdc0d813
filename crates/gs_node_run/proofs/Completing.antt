-- Where nothing keeps a run of a node from its end, it is done, or memory was short.
use Rattle.std.proofs.Common.{◌≡◌, ℕ, ◌<◌, inl, inr, All, List, length, Option, Some, None, refl, subst, arith}
use Rattle.gs_planfile.specs.declared.text.PlanText.{PlanText}
use Rattle.gs_plan.specs.Plans.{graph_of, text_of}
use Rattle.gs_plan.specs.declared.plan.Plan.{Plan}
use Rattle.gs_clock.specs.declared.clocks.Clock as clock
use Rattle.gs_board.specs.Boards.{ledger_in}
use Rattle.gs_board.specs.Ledger.{Ledger}
use Rattle.gs_board.specs.Slips.{Slip}
use Rattle.gs_board.specs.Torn.{IsWhole}
use Rattle.gs_cli.specs.Answers.{Answer}
use Rattle.gs_cli.specs.declared.status.Status.{Status}
use Rattle.gs_cli.specs.declared.status.Status.TheVariants as status
use Rattle.gs_inputs.specs.AtHand.{HasPlan, IsCompleted}
use Rattle.gs_inputs.specs.Sources.{FilesSeen}
use Rattle.gs_inputs.proofs.AtHand.{never_no_plan, same_plan}
use Rattle.gs_node.proofs.Completing.{not_whole}
use Rattle.gs_node_run.specs.Completeness.{IsUnhindered}
use Rattle.gs_node_run.specs.Nodes.{IsOrderRefused, IsRefused, IsRefusedAs}
use Rattle.gs_node_run.specs.Served.{IfClock, IfServed}
use Rattle.gs_node_run.specs.Statuses.{EndsServed, EndsUnserved, Faults, HasRisen, IsLate, ShowsServed, ShowsUnserved}
use Rattle.gs_node_run.specs.Words.{Order, order_of}
use Rattle.gs_node_run.specs.declared.ends.Left.{Left}
use Rattle.gs_node_run.specs.declared.ends.Left.TheVariants as left

-- an order at hand is not refused
never_order : (files : FilesSeen) (order : Order) (text : PlanText) (answer : Answer) → HasPlan files order.plan text
    → ((plan : Plan) → text_of plan ≡ text → order.node < (graph_of plan).nodes) → IsOrderRefused files order answer → ⊥
never_order files order text answer has node (inl no_plan) = never_no_plan files order.plan text answer has no_plan
never_order files order text answer has node (inr (plan, (source, is_read, accepted), past, is)) =
    let inside = node plan (same_plan files order.plan text (text_of plan) source has is_read accepted) in omega (arith, inside, past)

-- so the words are not
never_words : (files : FilesSeen) (words : List (List ℕ)) (order : Order) (text : PlanText) (answer : Answer) → order_of words ≡ Some order → HasPlan files order.plan text
    → ((plan : Plan) → text_of plan ≡ text → order.node < (graph_of plan).nodes) → IsRefused files words answer → ⊥
never_words files words order text answer spelled has node refused =
    never_order files order text answer has node (subst (λ (o : Option Order). IsRefusedAs files o answer) spelled refused)

-- a node that nothing hindered was served, or memory was short
unserved : (n : Faults) (late : Type 0) (s : Status) → n.clock ≡ 0 → ¬ (HasRisen n.ports) → ¬ late → ShowsUnserved n late s → IsCompleted s
unserved n late status.ClockFault clock ports early shows = absurd (omega (arith, clock, shows))
unserved n late status.ClockEnd clock ports early shows = absurd (early shows)
unserved n late status.LinkFault clock ports early shows = absurd (ports shows)
unserved n late status.OutOfMemory clock ports early shows = inr refl
unserved n late status.Done clock ports early shows = absurd shows
unserved n late status.Usage clock ports early shows = absurd shows
unserved n late status.ReadFault clock ports early shows = absurd shows
unserved n late status.TooLong clock ports early shows = absurd shows
unserved n late status.PlanRefused clock ports early shows = absurd shows
unserved n late status.InputRefused clock ports early shows = absurd shows
unserved n late status.Breach clock ports early shows = absurd shows
unserved n late status.WriteFault clock ports early shows = absurd shows
unserved n late status.NoThread clock ports early shows = absurd shows
unserved n late status.JournalEnd clock ports early shows = absurd shows
unserved n late status.Torn clock ports early shows = absurd shows
unserved n late status.StoreFault clock ports early shows = absurd shows
unserved n late status.StampEnd clock ports early shows = absurd shows

-- and one that was served was done
served : (t : Ledger) (seats : List Slip) (n : Faults) (s : Status) → n.clock ≡ 0 → n.view ≡ 0 → ¬ (HasRisen n.ports) → ¬ (HasRisen n.crew) → ¬ (HasRisen n.trace)
    → t.halt ≡ None → length t.journal < 4193281 → All (IsWhole t) seats → ShowsServed t seats n s → IsCompleted s
served t seats n status.Done clock view ports crew trace quiet room whole shows = inl refl
served t seats n status.WriteFault clock view ports crew trace quiet room whole shows = absurd (trace shows.1)
served t seats n status.OutOfMemory clock view ports crew trace quiet room whole shows = inr refl
served t seats n status.ClockFault clock view ports crew trace quiet room whole shows = absurd (elim shows [
  | inl fell ↦ (let is = fell.2 in cc)
  | inr failed ↦ elim failed [ inl more ↦ omega (arith, more, clock) | inr more ↦ omega (arith, more, view) ]
])
served t seats n status.LinkFault clock view ports crew trace quiet room whole shows = absurd (ports shows.1)
served t seats n status.NoThread clock view ports crew trace quiet room whole shows = absurd (crew shows)
served t seats n status.ClockEnd clock view ports crew trace quiet room whole shows = absurd (cc)
served t seats n status.JournalEnd clock view ports crew trace quiet room whole shows = absurd (let full = shows.1 in omega (arith, full, room))
served t seats n status.Torn clock view ports crew trace quiet room whole shows = absurd (not_whole t seats shows.0 shows.1 whole)
served t seats n status.Usage clock view ports crew trace quiet room whole shows = absurd shows
served t seats n status.ReadFault clock view ports crew trace quiet room whole shows = absurd shows
served t seats n status.TooLong clock view ports crew trace quiet room whole shows = absurd shows
served t seats n status.PlanRefused clock view ports crew trace quiet room whole shows = absurd shows
served t seats n status.InputRefused clock view ports crew trace quiet room whole shows = absurd shows
served t seats n status.Breach clock view ports crew trace quiet room whole shows = absurd shows
served t seats n status.StoreFault clock view ports crew trace quiet room whole shows = absurd shows
served t seats n status.StampEnd clock view ports crew trace quiet room whole shows = absurd shows

-- so is a run by what is said of how it ends
pub completed : {C : Type 0} {c : clock.Ghosts C} (files : FilesSeen) (words : List (List ℕ)) (told : Option (List ℕ)) (left : Left C c) (n : Faults) (Says : List ℕ → Type 0) (s : Status)
    → IfClock left (λ clock. EndsUnserved files words n (IsLate told (c.left clock)) Says s) → IfServed left (λ t seats. EndsServed t seats n Says s)
    → IsUnhindered files words told left n → IsCompleted s
completed files words told (left.Clock clock) n Says s ends other free = elim ends [
  | inl refused ↦ absurd (never_words files words free.order free.text refused.0 free.spelled free.at_hand free.node refused.1)
  | inr (inl met) ↦ unserved n _ s free.clock free.ports free.early met.3
  | inr (inr short) ↦ inr short.0
]
completed files words told (left.Served board seats) n Says s other ends free =
    let quiet = free.quiet in
    served (ledger_in board) seats.items n s free.clock free.view free.ports free.crew free.trace quiet.0 quiet.1 quiet.2 ends.shows
