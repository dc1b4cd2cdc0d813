-- At which ports the nodes of a plan receive: two for each edge, and behind them one for each node.
use Rattle.std.specs.Prelude.{ℕ, ◌+◌, ◌*◌, nat_lt, if◌then◌else◌, List, [], ◌∷◌, ◌++◌, length, map}
use Rattle.std.specs.Option.{option_map_or}
use Rattle.gs_topo.specs.Graph.{Graph, neighbours_of, number_of}
use Rattle.gs_planfile.specs.declared.text.PlanText.{PlanText}
use Rattle.gs_net.specs.declared.lending.Ask.{Ask}
use Rattle.gs_net.specs.declared.lending.Ask.TheVariants as ask

-- of the two ports of an edge the first is that of its higher end
abbrev pub side_of : ℕ → ℕ → ℕ
side_of v x = if nat_lt v x then 1 else 0

-- where node v receives from its neighbour x
abbrev pub receives_at : PlanText → Graph → ℕ → ℕ → ℕ
receives_at t g v x = option_map_or (λ e. t.port + 2 * e + side_of v x) (number_of g v x) 0

-- where node v is asked for its time
abbrev pub answers_at : PlanText → Graph → ℕ → ℕ
answers_at t g v = t.port + 2 * length g.edges + v

-- where each neighbour of node v receives from it
abbrev pub routes_of : PlanText → Graph → ℕ → List (ℕ × ℕ)
routes_of t g v = map (λ x. (x, receives_at t g x v)) (neighbours_of g v)

-- what a node asks for: these inlets, an outlet over these routes, and this door, in this order
abbrev pub asks_for : List ℕ → List (ℕ × ℕ) → ℕ → List Ask
asks_for inlets routes door = map (λ port. ask.Inlet port) inlets ++ (ask.Outlet routes ∷ ask.Door door ∷ [])

-- what node v asks its ports for: its inlets by ascending neighbour, its outlet, and its door
abbrev pub asks_of : PlanText → Graph → ℕ → List Ask
asks_of t g v = asks_for (map (receives_at t g v) (neighbours_of g v)) (routes_of t g v) (answers_at t g v)
