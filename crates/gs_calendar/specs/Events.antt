-- The events of a script.
use Rattle.std.specs.Prelude.{ℕ, zero, suc, List, [], ◌∷◌, ◌++◌, map, filter}
use Rattle.std.specs.List.{flat_map, range_with_len}
use Rattle.gs_core.specs.declared.event.Event.{Event}
use Rattle.gs_core.specs.declared.event.Event.TheVariants.{Quantum, Tick, Deliver}
use Rattle.gs_run.specs.Net.{Net, neighbours}
use Rattle.gs_calendar.specs.Course.{Course}
use Rattle.gs_calendar.specs.Calendar.{ticks, arrivals}

-- the nodes, ascending
abbrev pub nodes_of : Net → List ℕ
nodes_of net = range_with_len 0 net.nodes

-- what each hardware clock adds in quantum t
abbrev pub incs_at : Net → Course → ℕ → List ℕ
incs_at net c t = map (λ v. c.inc v t) (nodes_of net)

-- the deliveries of some beacons
abbrev pub deliveries : ℕ → ℕ → List (ℕ × ℕ) → List Event
deliveries from to bs = map (λ b. Deliver from to b.1) bs

-- the deliveries to one node in quantum t, by sender and sequence
abbrev pub deliveries_to : Net → Course → ℕ → ℕ → List Event
deliveries_to net c t to = flat_map (λ from. deliveries from to (arrivals net c from to t)) (neighbours net to)

-- the ticks of quantum t, by node
abbrev pub ticks_at : Net → Course → ℕ → List Event
ticks_at net c t = map Tick (filter (λ v. ticks net c v t) (nodes_of net))

-- Quantum t with its deliveries, by receiver, and then its ticks.
abbrev pub quantum_at : Net → Course → ℕ → List Event
quantum_at net c t = Quantum (incs_at net c t) ∷ (flat_map (deliveries_to net c t) (nodes_of net) ++ ticks_at net c t)

-- the events of the first quanta
abbrev pub events_upto : Net → Course → ℕ → List Event
events_upto net c zero = []
events_upto net c (suc t) = events_upto net c t ++ quantum_at net c (suc t)

-- All events of a script.
abbrev pub events_of : Net → Course → List Event
events_of net c = events_upto net c c.quanta

-- the events of the n quanta after t
abbrev pub events_from : Net → Course → ℕ → ℕ → List Event
events_from net c t zero = []
events_from net c t (suc n) = quantum_at net c (suc t) ++ events_from net c (suc t) n
