-- What `slots` answers.
use Rattle.std.proofs.Common.{◌≡◌, ℕ, suc, ◌+◌, List, Some, None, arith, ap, refl, ◌∙◌, length, slice_index}
use Rattle.std.proofs.lemmas.List.FromFn.{length-map-range_with_len}
use Rattle.gs_plan.specs.Plans.{graph_of}
use Rattle.gs_plan.specs.declared.plan.Plan.{Plan}
use Rattle.gs_script.specs.Script.{Said}
use Rattle.gs_calendar.specs.Scripts.{breach_of_script}
use Rattle.gs_tdma.specs.Faults.{slot_fault}
use Rattle.gs_tdma.specs.Slots.{AreSlots, Slots, sent_of, sent_upto}
use Rattle.gs_rows.specs.Row.{rows_of_script, zeros_of}
use Rattle.gs_run.specs.Nets.{net_of}
use Rattle.gs_tdma.specs.declared.fault.SlotFault.{SlotFault}
use Rattle.gs_cli.specs.Answers.{Answer}
use Rattle.gs_cli.specs.declared.status.Status.TheVariants as status
use Rattle.gs_tool.specs.Runs.{IsSlotted, IsTold}
use Rattle.gs_tool.specs.Slotted.{slot_refused, slots_text, slotted, with_node, with_nodes}
use Rattle.gs_tool.proofs.Playing.{stopped_by, told_of}

-- one more node has one more line
pub one_more_node : (text : List ℕ) (s : Slots) (sent : List ℕ) (n : ℕ)
    → with_nodes text s sent (n + 1) ≡ with_node (with_nodes text s sent n) s n (slice_index sent n)
one_more_node text s sent n = let e : n + 1 ≡ suc n = omega arith in rw e refl

-- one count and one colour a node
pub long_sent : (plan : Plan) (said : Said) (s : Slots) (sent : List ℕ) → sent ≡ sent_of plan said s → length sent ≡ (graph_of plan).nodes
long_sent plan said s sent is =
    ap (λ (l : List ℕ). length l) is
    ∙ length-map-range_with_len (λ v. sent_upto s (rows_of_script plan said (zeros_of (net_of plan))) v said.quanta) 0 (graph_of plan).nodes

pub long_colours : (plan : Plan) (s : Slots) → AreSlots plan s → length s.colours ≡ (graph_of plan).nodes
long_colours plan s slots = slots.colours.count

-- the counts of a script without a breach
pub sent_by : (plan : Plan) (said : Said) (s : Slots) (sent : List ℕ) (answer : Answer)
    → breach_of_script plan said ≡ None → sent ≡ sent_of plan said s
    → answer ≡ record { status = status.Done; text = slots_text (graph_of plan) s sent } → IsTold (slotted s) plan said answer
sent_by plan said s sent answer none is tells = told_of (slotted s) plan said answer none (rw is at tells)

-- by a slot plan
pub slotted_by : (plan : Plan) (said : Said) (reach slot : ℕ) (s : Slots) (answer : Answer)
    → slot_fault plan reach slot ≡ None → AreSlots plan s → (s.reach ≡ reach) × (s.slot ≡ slot)
    → IsTold (slotted s) plan said answer → IsSlotted reach slot plan said answer
slotted_by plan said reach slot s answer none slots (same_reach, same_slot) is = rw none (s, slots, same_reach, same_slot, is)

-- the line of a fault
pub refused_by : (plan : Plan) (said : Said) (reach slot : ℕ) (fault : SlotFault) (answer : Answer)
    → slot_fault plan reach slot ≡ Some fault → answer ≡ slot_refused fault → IsSlotted reach slot plan said answer
refused_by plan said reach slot fault answer found is = rw found is

pub ruleset nodes = (one_more_node)

pub ruleset sending = (sent_by, stopped_by, long_sent, long_colours)

pub ruleset slotting = (slotted_by, refused_by)
