-- What is wrong with the text of a plan: its first fault in a fixed order.
use Rattle.std.specs.Prelude.{ℕ, ◌+◌, ◌*◌, ◌^◌, ◌||◌, nat_lt, nat_le, not, if◌then◌else◌, Bool, true, false, List, [], ◌∷◌, ◌++◌, Option, Some, None, length, option_map, is_some}
use Rattle.std.specs.Bool.{then_some}
use Rattle.std.specs.List.{list_any}
use Rattle.std.specs.Option.{option_map_or}
use Rattle.gs_units.specs.Faults.{rate_fault}
use Rattle.gs_units.specs.FirstFault.{first_some}
use Rattle.gs_topo.specs.Faults.{fault_of}
use Rattle.gs_topo.specs.Graph.{Graph, adjacent}
use Rattle.gs_planfile.specs.declared.text.EdgeSpan.{EdgeSpan}
use Rattle.gs_planfile.specs.declared.text.PlanText.{PlanText}
use Rattle.gs_planfile.specs.declared.text.Version.{Version}
use Rattle.gs_planfile.specs.declared.text.Version.TheVariants.{One, Two}
use Rattle.gs_plan.specs.declared.edge.EdgeGiven.{EdgeGiven}
use Rattle.gs_plan.specs.declared.fault.PlanFault.{PlanFault}
use Rattle.gs_plan.specs.declared.fault.PlanFault.TheVariants as fault
use Rattle.gs_plan.specs.Shapes.{shape_nodes, shape_edges, graph_of_text}
use Rattle.gs_plan.specs.Edges.{own_given, span_between, span_given}
use Rattle.gs_plan.specs.Numbers.{least_kappa_in, q_in, r_in}
use Rattle.gs_plan.specs.Bounds.{greatest_delay_in, global_in, greatest_kappa_in}

-- x is outside of low to high
abbrev pub is_outside : ℕ → ℕ → ℕ → Bool
is_outside low high x = nat_lt x low || nat_lt high x

-- delays out of order, or a greatest delay out of range
abbrev pub are_bad_delays : ℕ → ℕ → Bool
are_bad_delays least greatest = nat_lt greatest least || is_outside 1 65536 greatest

abbrev pub is_one : Version → Bool
is_one One = true
is_one Two = false

-- A span is at fault where the version has none, where it names no edge, where one of the earlier spans names the same
-- edge, or for its delays.
abbrev pub is_bad_span : Version → Graph → List EdgeSpan → EdgeSpan → Bool
is_bad_span version g earlier s =
    is_one version
    || (not (adjacent g s.a s.b) || (is_some (span_between earlier s.a s.b) || are_bad_delays s.delay_min s.delay_max))

-- the first span at fault, from number i on
unfoldable pub span_fault : Version → Graph → ℕ → List EdgeSpan → List EdgeSpan → Option PlanFault
span_fault version g i earlier [] = None
span_fault version g i earlier (s ∷ ss) =
    if is_bad_span version g earlier s then Some (fault.Span i) else span_fault version g (i + 1) (earlier ++ s ∷ []) ss

-- the least age that lets beacons come in time, whatever is lost
abbrev pub beacon_bound : PlanText → Graph → ℕ
beacon_bound t g = (t.losses + 1) * t.every * t.tick + greatest_delay_in t g

-- the ports that nodes use reach from `port` over two for each edge and one for each node
abbrev pub are_bad_ports : PlanText → Graph → Bool
are_bad_ports t g = nat_lt t.port 1024 || nat_lt 65536 (t.port + 2 * length g.edges + g.nodes)

-- a given kappa is too low for the delays beside it
abbrev pub is_low_kappa : PlanText → EdgeGiven → Bool
is_low_kappa t e = option_map_or (λ kappa. nat_lt kappa (least_kappa_in t e)) e.kappa false

abbrev pub are_low_kappas : PlanText → Bool
are_low_kappas t = is_low_kappa t (own_given t) || list_any (λ s. is_low_kappa t (span_given s)) t.spans

-- the greatest bound reaches the end of clocks
abbrev pub is_wide : PlanText → Graph → Bool
is_wide t g = nat_le (2 ^ 62) (2 * t.levels * greatest_kappa_in t g + global_in t g)

-- the first fault over a graph
abbrev pub fault_over : PlanText → Graph → Option PlanFault
fault_over t g = first_some (
    then_some (is_outside 1 65536 t.tick) fault.Tick
    ∷ then_some (are_bad_delays t.delay_min t.delay_max) fault.Delay
    ∷ span_fault t.version g 0 [] t.spans
    ∷ then_some (is_outside 1 1024 t.every) fault.Every
    ∷ then_some (nat_lt 1024 t.losses) fault.Losses
    ∷ then_some (nat_lt t.age (beacon_bound t g)) fault.Age
    ∷ then_some (is_outside 1 32 t.levels) fault.Levels
    ∷ then_some (are_bad_ports t g) fault.Port
    ∷ then_some (nat_lt (q_in t) (2 * r_in t)) fault.Weak
    ∷ then_some (are_low_kappas t) fault.Kappa
    ∷ then_some (is_wide t g) fault.Wide
    ∷ [])

-- the first fault of a plan
unfoldable pub plan_fault : PlanText → Option PlanFault
plan_fault t = first_some (
    option_map fault.Rate (rate_fault t.lo t.hi t.mu)
    ∷ option_map fault.Topo (fault_of (shape_nodes t.shape) (shape_edges t.shape))
    ∷ fault_over t (graph_of_text t)
    ∷ [])
