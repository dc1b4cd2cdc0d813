-- The text of `slots`, and the line of a reach and a slot that are refused.
use Rattle.std.specs.Prelude.{ℕ, zero, suc, List, [], ◌∷◌, ◌++◌, codes, decimal, slice_index}
use Rattle.gs_topo.specs.Graph.{Graph}
use Rattle.gs_plan.specs.Plans.{graph_of}
use Rattle.gs_plan.specs.declared.plan.Plan.{Plan}
use Rattle.gs_script.specs.Script.{Said}
use Rattle.gs_tdma.specs.FaultWords.{why_of}
use Rattle.gs_tdma.specs.Slots.{Slots, colour_of, count_of, sent_of}
use Rattle.gs_tdma.specs.declared.fault.SlotFault.{SlotFault}
use Rattle.gs_cli.specs.Answers.{Answer, line}
use Rattle.gs_cli.specs.declared.status.Status.TheVariants as status

-- a text and then the line of a slot plan
abbrev pub with_slots : List ℕ → Graph → Slots → List ℕ
with_slots text g s =
    text ++ codes "nodes " ++ decimal g.nodes ++ codes " colours " ++ decimal (count_of s.colours)
    ++ codes " slot " ++ decimal s.slot ++ codes " guard " ++ decimal s.guard ++ codes " reach " ++ decimal s.reach
    ++ 10 ∷ []

-- the line of node v, which may send at the end of so many quanta
abbrev pub with_node : List ℕ → Slots → ℕ → ℕ → List ℕ
with_node text s v sent =
    text ++ codes "node " ++ decimal v ++ codes " colour " ++ decimal (colour_of s v)
    ++ codes " sent " ++ decimal sent ++ 10 ∷ []

-- the lines of the first n nodes
abbrev pub with_nodes : List ℕ → Slots → List ℕ → ℕ → List ℕ
with_nodes text s sent zero = text
with_nodes text s sent (suc n) = with_node (with_nodes text s sent n) s n (slice_index sent n)

-- the text of a slot plan over the graph of its plan, with these counts of quanta
abbrev pub slots_text : Graph → Slots → List ℕ → List ℕ
slots_text g s sent = with_nodes (with_slots [] g s) s sent g.nodes

-- the text of `slots` by a slot plan
abbrev pub slotted : Slots → Plan → Said → List ℕ
slotted s plan said = slots_text (graph_of plan) s (sent_of plan said s)

-- a reach and a slot that have a fault
abbrev pub slot_refused : SlotFault → Answer
slot_refused fault = line status.InputRefused (codes "slot refused: " ++ why_of fault)
