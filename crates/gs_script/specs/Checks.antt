-- What the plan allows a record to say.
use Rattle.std.specs.Prelude.{ℕ, ◌+◌, ◌*◌, ◌==◌, ◌&&◌, ◌||◌, nat_lt, length, if◌then◌else◌}
use Rattle.std.specs.Prelude.{Bool, true, false, Result, Ok, Err}
use Rattle.std.specs.List.{list_any}
use Rattle.gs_topo.specs.Graph.{adjacent}
use Rattle.gs_planfile.specs.declared.text.PlanText.{PlanText}
use Rattle.gs_plan.specs.Edges.{edge_given}
use Rattle.gs_plan.specs.Faults.{is_outside}
use Rattle.gs_plan.specs.Shapes.{graph_of_text}
use Rattle.gs_script.specs.declared.fault.ScriptFault.{ScriptFault}
use Rattle.gs_script.specs.declared.fault.ScriptFault.TheVariants as fault
use Rattle.gs_script.specs.declared.fields.NodeField.{NodeField}
use Rattle.gs_script.specs.declared.fields.NodeField.TheVariants.{Star, Number}
use Rattle.gs_script.specs.declared.line.Who.{Who}
use Rattle.gs_script.specs.declared.line.Who.TheVariants.{Every, One}
use Rattle.gs_script.specs.declared.line.Span.{Span}
use Rattle.gs_script.specs.Fields.{require}
use Rattle.gs_script.specs.Lines.{is_for}
use Rattle.gs_script.specs.Script.{least_delay}

-- a count of quanta within the limits: of quanta, and of quanta times the nodes and edges
abbrev pub is_large : PlanText → ℕ → Bool
is_large t n = nat_lt 1048576 n || nat_lt 67108864 (n * ((graph_of_text t).nodes + length (graph_of_text t).edges))

abbrev pub quanta_in : PlanText → ℕ → Result ℕ ScriptFault
quanta_in t n = if is_large t n then Err fault.Large else Ok n

-- a node of the plan, or the star
abbrev pub who_in : PlanText → ℕ → NodeField → Result Who ScriptFault
who_in t k Star = Ok Every
who_in t k (Number v) = if nat_lt v (graph_of_text t).nodes then Ok (One v) else Err (fault.Node k)

-- two nodes are joined by an edge; the star may be any node
abbrev pub may_be_joined : PlanText → Who → Who → Bool
may_be_joined t (One v) (One w) = adjacent (graph_of_text t) v w
may_be_joined t _ _ = true

abbrev pub edge_in : PlanText → ℕ → Who → Who → Result (Unit {0}) ScriptFault
edge_in t k v w = require (may_be_joined t v w) (fault.Edge k)

-- quanta from 1 on, up to the last one
abbrev pub span_in : ℕ → ℕ → ℕ → ℕ → Result Span ScriptFault
span_in quanta k from to =
    if (from == 0) || (nat_lt to from || nat_lt quanta to) then Err (fault.Span k)
    else Ok (record { from = from; to = to })

-- a value within low to high
abbrev pub value_within : ℕ → ℕ → ℕ → ℕ → Result ℕ ScriptFault
value_within low high k x = if is_outside low high x then Err (fault.Bound k) else Ok x

-- a flag is 0 or 1
abbrev pub flag_in : ℕ → ℕ → Result Bool ScriptFault
flag_in k x = if x == 0 then Ok false else if x == 1 then Ok true else Err (fault.Bound k)

-- a record for beacons from v to w matches beacons over the edge, in one direction or the other
abbrev pub meets : Who → Who → ℕ × ℕ → Bool
meets v w e = (is_for v e.0 && is_for w e.1) || (is_for v e.1 && is_for w e.0)

-- a delay is out of the range of an edge with these delays
abbrev pub is_bad_delay : ℕ → ℕ → ℕ → Bool
is_bad_delay delay_min delay_max d = is_outside (least_delay delay_min) delay_max d

-- it is out of the range of this edge of the plan
abbrev pub is_bad_over : PlanText → ℕ × ℕ → ℕ → Bool
is_bad_over t e d = is_bad_delay (edge_given t e).delay_min (edge_given t e).delay_max d

-- a delay is out of the range of some edge that is met or, where none is met, of the plan's own
abbrev pub is_delay_outside : PlanText → Who → Who → ℕ → Bool
is_delay_outside t v w d =
    if list_any (meets v w) (graph_of_text t).edges
    then list_any (λ e. meets v w e && is_bad_over t e d) (graph_of_text t).edges
    else is_bad_delay t.delay_min t.delay_max d

abbrev pub delay_in : PlanText → ℕ → Who → Who → ℕ → Result ℕ ScriptFault
delay_in t k v w d = if is_delay_outside t v w d then Err (fault.Bound k) else Ok d
