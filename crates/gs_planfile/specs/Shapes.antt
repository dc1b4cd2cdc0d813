-- The shape that a topology names, with the keys that it needs.
use Rattle.std.specs.Prelude.{codes, ℕ, List, Option, Some, None, Result, Ok, Err, if◌then◌else◌}
use Rattle.std.specs.Str.{bytes_eq}
use Rattle.toml.specs.Data.{Data, Members, string}
use Rattle.gs_planfile.specs.declared.key.Key.TheVariants.{Topology, Nodes, Rows, Cols}
use Rattle.gs_planfile.specs.declared.key.PlanFileFault.{PlanFileFault}
use Rattle.gs_planfile.specs.declared.key.PlanFileFault.TheVariants.{Missing, Kind, Range}
use Rattle.gs_planfile.specs.declared.text.Shape.{Shape}
use Rattle.gs_planfile.specs.declared.text.Shape.TheVariants.{Line, Ring, Grid, Edges}
use Rattle.gs_planfile.specs.Lists.{edges_at}
use Rattle.gs_planfile.specs.Values.{◌>>=◌, number_at, value_at}

-- a line and a ring take the count of nodes
abbrev pub line_at : Members → Result Shape PlanFileFault
line_at ms = do
  nodes ← number_at Nodes ms
  Ok (Line nodes)

abbrev pub ring_at : Members → Result Shape PlanFileFault
ring_at ms = do
  nodes ← number_at Nodes ms
  Ok (Ring nodes)

-- a grid takes its rows and columns
abbrev pub grid_at : Members → Result Shape PlanFileFault
grid_at ms = do
  rows ← number_at Rows ms
  cols ← number_at Cols ms
  Ok (Grid rows cols)

-- listed edges take the count of nodes and the list
abbrev pub listed_at : Members → Result Shape PlanFileFault
listed_at ms = do
  nodes ← number_at Nodes ms
  edges ← edges_at ms
  Ok (Edges nodes edges)

-- the shape of a topology's name
abbrev pub shape_named : List ℕ → Members → Result Shape PlanFileFault
shape_named name ms =
    if bytes_eq name (codes "line") then line_at ms
    else if bytes_eq name (codes "ring") then ring_at ms
    else if bytes_eq name (codes "grid") then grid_at ms
    else if bytes_eq name (codes "edges") then listed_at ms
    else Err (Range Topology)

-- the topology is needed, and is a string
abbrev pub shape_of : Option Data → Members → Result Shape PlanFileFault
shape_of None ms = Err (Missing Topology)
shape_of (Some (string name)) ms = shape_named name ms
shape_of (Some d) ms = Err (Kind Topology)

abbrev pub shape_at : Members → Result Shape PlanFileFault
shape_at ms = shape_of (value_at Topology ms) ms
