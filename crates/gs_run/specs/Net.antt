-- What the world knows of a plan.
use Rattle.std.specs.Prelude.{ℕ, ◌+◌, ◌-◌, ◌*◌, ◌/◌, Bool, IsTrue, nat_eq, List, filter, map, position, Option, slice_index}
use Rattle.std.specs.List.{range_with_len}
use Rattle.gs_units.specs.Rates.{bound_at, delay_comp, delay_jump, delay_spread, delta_at, drift_of, g_of, iota_at, lambda_at, r_of, sigma_of, skew_at}
use Rattle.gs_units.specs.declared.params.Link.{Link}
use Rattle.gs_units.specs.declared.params.NodeParams.{NodeParams}
use Rattle.gs_units.specs.declared.rate.Rate.{Rate}

-- The numbers of a plan as functions of nodes: an edge's numbers are those of its two ends, and each pair of nodes has a
-- weight. `tick` is the greatest gap of two ticks, `age` the greatest age of what a node goes by, `delay_min` and `delay_max`
-- are the delays of an edge, all in quanta; `widest` is the greatest spread of an edge.
pub record Net : Type 0 where
  pub cluster : ℕ
  pub nodes : ℕ
  pub rate : Rate
  pub tick : ℕ
  pub age : ℕ
  pub every : ℕ
  pub adjacent : ℕ → ℕ → Bool
  pub delay_min : ℕ → ℕ → ℕ
  pub delay_max : ℕ → ℕ → ℕ
  pub kappa : ℕ → ℕ → ℕ
  pub weight : ℕ → ℕ → ℕ
  pub diameter : ℕ
  pub widest : ℕ

-- two nodes are neighbours
abbrev pub Adjacent : Net → ℕ → ℕ → Type 0
Adjacent net v w = IsTrue (net.adjacent v w)

-- how far the delays of an edge spread, in clock units
abbrev pub spread_of : Net → ℕ → ℕ → ℕ
spread_of net v w = delay_spread net.rate.lo (net.delay_min v w) (net.delay_max v w)

-- what a beacon's maximum is raised by for its way
abbrev pub jump_of : Net → ℕ → ℕ → ℕ
jump_of net v w = delay_jump net.rate.lo (net.delay_min v w)

-- what a beacon's clock is raised by for its way
abbrev pub comp_of : Net → ℕ → ℕ → ℕ
comp_of net v w = delay_comp net.rate.lo (net.delay_min v w) (net.delay_max v w)

-- how far an offset may be off at the end of a quantum that uses it
abbrev pub delta_of : Net → ℕ → ℕ → ℕ
delta_of net v w = delta_at (drift_of net.rate) net.age net.tick (spread_of net v w)

-- how far ahead the maximum has to be for a node to be fast by itself
abbrev pub iota_of : Net → ℕ
iota_of net = iota_at (drift_of net.rate) net.tick

-- how far a maximum may lag behind the greatest clock
abbrev pub lambda_of : Net → ℕ
lambda_of net = lambda_at net.diameter net.rate.hi (g_of net.rate) net.age net.widest

-- G(0): the bound of the difference of any two clocks
abbrev pub skew_of : Net → ℕ
skew_of net = skew_at (lambda_of net) (iota_of net) (r_of net.rate) net.tick

-- G(s): the bound of level s
abbrev pub level_of : Net → ℕ → ℕ
level_of net s = bound_at (skew_of net) (sigma_of net.rate) (r_of net.rate) s

-- the neighbours of a node, ascending
abbrev pub neighbours : Net → ℕ → List ℕ
neighbours net v = filter (net.adjacent v) (range_with_len 0 net.nodes)

-- the neighbour at a place among them, and the place of a neighbour
abbrev pub neighbour : Net → ℕ → ℕ → ℕ
neighbour net v i = slice_index (neighbours net v) i

abbrev pub place_of : Net → ℕ → ℕ → Option ℕ
place_of net v x = position (λ y. nat_eq y x) (neighbours net v)

-- the link of node v to its neighbour x
abbrev pub link_of : Net → ℕ → ℕ → Link
link_of net v x = record { node = x; comp = comp_of net v x; jump = jump_of net v x; kappa = net.kappa v x; delta = delta_of net v x }

-- what node v is told before it runs
abbrev pub params_of : Net → ℕ → NodeParams
params_of net v = record { cluster = net.cluster; node = v; links = map (link_of net v) (neighbours net v); rate = net.rate; iota = iota_of net; every = net.every }
