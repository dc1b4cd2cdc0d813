-- The text of `order`: what it tells of a plan and a script.
use Rattle.std.specs.Prelude.{ℕ, ◌+◌, List, [], ◌∷◌, ◌++◌, Option, Some, None, codes, decimal, is_some}
use Rattle.std.specs.List.{count_by}
use Rattle.gs_plan.specs.Plans.{graph_of}
use Rattle.gs_plan.specs.declared.plan.Plan.{Plan}
use Rattle.gs_script.specs.Script.{Said}
use Rattle.gs_order.specs.Orders.{order_of}
use Rattle.gs_order.specs.Waits.{wait_of}
use Rattle.gs_order.specs.declared.timed.Timed.{Timed}

-- the line of the count of nodes, the count of quanta and the commit wait
abbrev pub with_wait : List ℕ → Plan → Said → List ℕ
with_wait text plan said =
    text ++ codes "nodes " ++ decimal (graph_of plan).nodes ++ codes " quanta " ++ decimal said.quanta
    ++ codes " wait " ++ decimal (wait_of plan) ++ 10 ∷ []

-- when an event finished, at the end of its line
abbrev pub with_finish : List ℕ → Option ℕ → List ℕ
with_finish text None = text ++ codes " finished none" ++ 10 ∷ []
with_finish text (Some t) = text ++ codes " finished " ++ decimal t ++ 10 ∷ []

-- the line of event i
abbrev pub with_event : List ℕ → ℕ → Timed → List ℕ
with_event text i event =
    with_finish (text ++ codes "event " ++ decimal i ++ codes " node " ++ decimal event.node
    ++ codes " begun " ++ decimal event.begun ++ codes " stamp " ++ decimal event.stamp) event.finished

-- the lines of these events, from event i on
abbrev pub with_events : List ℕ → ℕ → List Timed → List ℕ
with_events text i [] = text
with_events text i (event ∷ events) = with_events (with_event text i event) (i + 1) events

-- the number of events that have finished
abbrev pub finished_in : List Timed → ℕ
finished_in events = count_by (λ event. is_some event.finished) events

-- the line of that number
abbrev pub with_count : List ℕ → List Timed → List ℕ
with_count text events = text ++ codes "finished " ++ decimal (finished_in events) ++ 10 ∷ []

-- the text of these events
abbrev pub order_text : Plan → Said → List Timed → List ℕ
order_text plan said events = with_count (with_events (with_wait [] plan said) 0 events) events

-- The text of `order`, with an event every so many quanta.
abbrev pub ordered : ℕ → Plan → Said → List ℕ
ordered every plan said = order_text plan said (order_of plan said every)
