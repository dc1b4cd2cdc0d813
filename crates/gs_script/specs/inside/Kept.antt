-- How a script is kept: for its private functions alone.
use Rattle.std.specs.Prelude.{◌≡◌, ℕ, ◌+◌, ◌-◌, ◌<◌, ◌≤◌, ◌==◌, ◌&&◌, max, Bool, true, false, List, [], ◌∷◌, ◌++◌}
use Rattle.std.specs.Prelude.{Option, Some, None, Result, Ok, Err}
use Rattle.std.specs.Prelude.{length, map, option_map, get_or, slice_get, slice_index, if◌then◌else◌}
use Rattle.std.specs.Option.{option_map_or}
use Rattle.gs_topo.specs.Graph.{neighbours_of}
use Rattle.gs_planfile.specs.declared.text.PlanText.{PlanText}
use Rattle.gs_plan.specs.Edges.{edge_given}
use Rattle.gs_plan.specs.Shapes.{graph_of_text}
use Rattle.gs_script.specs.declared.fault.ScriptFault.{ScriptFault}
use Rattle.gs_script.specs.declared.line.Line.{Line}
use Rattle.gs_script.specs.declared.line.Setting.{Setting}
use Rattle.gs_script.specs.declared.line.Setting.TheVariants.{Drift, Tick, Delay, Loss}
use Rattle.gs_script.specs.declared.line.Part.{Part}
use Rattle.gs_script.specs.declared.line.Part.TheVariants as part
use Rattle.gs_script.specs.declared.line.Span.{Span}
use Rattle.gs_script.specs.declared.run.Run.{Run}
use Rattle.gs_script.specs.inside.Runs.{value_at}
use Rattle.gs_script.specs.declared.line.Who.{Who}
use Rattle.gs_script.specs.declared.line.Who.TheVariants.{Every, One}
use Rattle.gs_script.specs.declared.kept.BeaconRuns.{BeaconRuns}
use Rattle.gs_script.specs.declared.kept.ClockRuns.{ClockRuns}
use Rattle.gs_script.specs.declared.kept.NodeRecords.{NodeRecords}
use Rattle.gs_script.specs.declared.kept.StarRecords.{StarRecords}
use Rattle.gs_script.specs.declared.kept.WayRecords.{WayRecords}
use Rattle.gs_script.specs.declared.kept.Ways.{Ways}
use Rattle.gs_script.specs.declared.links.Link.{Link}
use Rattle.gs_script.specs.Checks.{is_delay_outside}
use Rattle.gs_script.specs.Lines.{holds}
use Rattle.gs_script.specs.Script.{IsScript, Said, least_delay}

-- an edge with its delays
abbrev pub link_of : PlanText → ℕ × ℕ → Link
link_of t e = record { a = e.0; b = e.1; delay_min = (edge_given t e).delay_min; delay_max = (edge_given t e).delay_max }

abbrev pub links_of : PlanText → List Link
links_of t = map (link_of t) (graph_of_text t).edges

-- a node of the plan, or the star
abbrev pub IsKnown : PlanText → Who → Type 0
IsKnown t Every = Unit {0}
IsKnown t (One v) = v < (graph_of_text t).nodes

-- what a record sets is within the bounds of the plan
abbrev pub SettingFits : PlanText → Setting → Type 0
SettingFits t (Drift node inc) = (t.lo ≤ inc) × (inc ≤ t.hi)
SettingFits t (Tick node gap) = (1 ≤ gap) × (gap ≤ t.tick)
SettingFits t (Delay from to quanta) = is_delay_outside t from to quanta ≡ false
SettingFits t (Loss from to is_lost) = Unit {0}

-- it ends at its beginning or later, and not before quantum 1
pub record IsSpan (s : Span) : Type 0 where
  pub begins : 1 ≤ s.from
  pub ends : s.from ≤ s.to

abbrev pub Fits : PlanText → Line → Type 0
Fits t l = SettingFits t l.setting

-- records before others
abbrev pub after : List Line → Result (List Line) ScriptFault → Result (List Line) ScriptFault
after done (Ok ls) = Ok (done ++ ls)
after done (Err e) = Err e

-- a node, or the star, is the other one
abbrev pub is_same : Who → Who → Bool
is_same Every Every = true
is_same Every (One w) = false
is_same (One v) Every = false
is_same (One v) (One w) = v == w

-- the node that keeps a record: the one that it names, of two the sender, or the star
abbrev pub home : Setting → Who
home (Drift node inc) = node
home (Tick node gap) = node
home (Delay Every to quanta) = to
home (Delay (One v) to quanta) = One v
home (Loss Every to is_lost) = to
home (Loss (One v) to is_lost) = One v

-- who keeps each record
abbrev pub homes_in : List Line → List Who
homes_in lines = map (λ l. home l.setting) lines

-- the same for a part of the records
abbrev pub home_of : Part → Who
home_of (part.Drift node) = node
home_of (part.Tick node) = node
home_of (part.Delay Every to) = to
home_of (part.Delay (One v) to) = One v
home_of (part.Loss Every to) = to
home_of (part.Loss (One v) to) = One v

-- a record belongs to a part: it sets this, and names exactly these
abbrev pub is_in : Part → Setting → Bool
is_in (part.Drift who) (Drift node inc) = is_same node who
is_in (part.Tick who) (Tick node gap) = is_same node who
is_in (part.Delay v w) (Delay from to quanta) = is_same from v && is_same to w
is_in (part.Loss v w) (Loss from to is_lost) = is_same from v && is_same to w
is_in _ _ = false

-- the places from k on of the records that pass a test, the latest first
unfoldable pub latest : (Setting → Bool) → ℕ → List Line → List ℕ
latest p k [] = []
latest p k (l ∷ ls) = latest p (k + 1) ls ++ (if p l.setting then k ∷ [] else [])

-- the record at a place passes a test
abbrev pub is_at : (Setting → Bool) → List Line → ℕ → Bool
is_at p lines i = option_map_or (λ l. p l.setting) (slice_get lines i) false

-- the number of the record at a place, from 1, in the quanta of its span
abbrev pub number_in : ℕ → List Line → ℕ → ℕ
number_in t lines i = option_map_or (λ l. if holds l.span t then i + 1 else 0) (slice_get lines i) 0

-- the greatest of these numbers in quantum t
unfoldable pub greatest : ℕ → List Line → List ℕ → ℕ
greatest t lines [] = 0
greatest t lines (i ∷ is) = max (number_in t lines i) (greatest t lines is)

-- the number of the last record that passes a test and holds in quantum t, where the first is number k + 1
unfoldable pub last_number : (Setting → Bool) → ℕ → List Line → ℕ → ℕ
last_number p k [] t = 0
last_number p k (l ∷ ls) t = max (if p l.setting && holds l.span t then k + 1 else 0) (last_number p (k + 1) ls t)

-- what the record of a number sets
abbrev pub setting_of : List Line → ℕ → Option Setting
setting_of lines n = if n == 0 then None else option_map (λ l. l.setting) (slice_get lines (n - 1))

-- the increment that is set
abbrev pub inc_set : Setting → Option ℕ
inc_set (Drift node inc) = Some inc
inc_set _ = None

-- the gap between ticks
abbrev pub gap_set : Setting → Option ℕ
gap_set (Tick node gap) = Some gap
gap_set _ = None

-- the delay
abbrev pub delay_set : Setting → Option ℕ
delay_set (Delay from to quanta) = Some quanta
delay_set _ = None

-- the loss, or that there is none
abbrev pub is_lost_set : Setting → Option Bool
is_lost_set (Loss from to is_lost) = Some is_lost
is_lost_set _ = None

-- these runs are those of a part of the records
abbrev pub Paints : List Line → Part → List Run → Type 0
Paints lines x runs = (t : ℕ) → value_at runs t ≡ last_number (is_in x) 0 lines t

-- the runs of beacons between two nodes, or the star
pub record AreBeacons (lines : List Line) (v w : Who) (b : BeaconRuns) : Type 0 where
  pub delays : Paints lines (part.Delay v w) b.delays
  pub losses : Paints lines (part.Loss v w) b.losses

-- the delay of beacons from v to w where no record sets it
abbrev pub least_between : PlanText → ℕ → ℕ → ℕ
least_between t v w = least_delay (edge_given t (v, w)).delay_min

-- what is kept of the way from v to w
pub record IsWay (t : PlanText) (lines : List Line) (v w : ℕ) (way : WayRecords) : Type 0 where
  pub least : way.least ≡ least_between t v w
  pub named : AreBeacons lines (One v) (One w) way.named

-- the ways from v to the first k of its neighbours, and the place of each among them
pub record HasWays (t : PlanText) (lines : List Line) (v k : ℕ) (index : List ℕ) (ways : List WayRecords) : Type 0 where
  pub count : length index ≡ (graph_of_text t).nodes
  pub made : length ways ≡ k
  pub place : (i : ℕ) → i < k → slice_index index (slice_index (neighbours_of (graph_of_text t) v) i) ≡ i
  pub each : (i : ℕ) (d : WayRecords) → i < k → IsWay t lines v (slice_index (neighbours_of (graph_of_text t) v) i) (get_or ways i d)

-- the ways to all its neighbours
abbrev pub HasAllWays : PlanText → List Line → ℕ → Ways → Type 0
HasAllWays t lines v ways =
    HasWays t lines v (length (neighbours_of (graph_of_text t) v)) ways.index.items ways.items.items

-- the runs of the clock of a node, or the star
pub record IsClock (lines : List Line) (v : Who) (clock : ClockRuns) : Type 0 where
  pub drifts : Paints lines (part.Drift v) clock.drifts
  pub ticks : Paints lines (part.Tick v) clock.ticks

-- what is kept of the star
pub record IsStar (lines : List Line) (star : StarRecords) : Type 0 where
  pub clock : IsClock lines Every star.clock
  pub beacons : AreBeacons lines Every Every star.beacons

-- what is kept of a node
pub record IsNode (t : PlanText) (lines : List Line) (v : ℕ) (node : NodeRecords) : Type 0 where
  pub clock : IsClock lines (One v) node.clock
  pub sent : AreBeacons lines (One v) Every node.sent
  pub received : AreBeacons lines Every (One v) node.received
  pub ways : HasAllWays t lines v node.ways

-- what is kept of the first n nodes
pub record HasNodes (t : PlanText) (lines : List Line) (n : ℕ) (nodes : List NodeRecords) : Type 0 where
  pub count : length nodes ≡ n
  pub each : (v : ℕ) (d : NodeRecords) → v < n → IsNode t lines v (get_or nodes v d)

-- what is kept of a script
pub record IsKept (s : Said) (every : StarRecords) (each : List NodeRecords) : Type 0 where
  pub script : IsScript s
  pub star : IsStar s.lines every
  pub nodes : HasNodes s.text s.lines (graph_of_text s.text).nodes each
