-- The graph of a shape.
use Rattle.std.specs.Prelude.{ℕ, ◌+◌, ◌-◌, ◌*◌, nat_le, if◌then◌else◌, List, [], ◌∷◌, ◌++◌, map}
use Rattle.std.specs.List.{flat_map, range_with_len}
use Rattle.gs_topo.specs.Graph.{Graph, graph_of}
use Rattle.gs_planfile.specs.declared.text.PlanText.{PlanText}
use Rattle.gs_planfile.specs.declared.text.Shape.{Shape}
use Rattle.gs_planfile.specs.declared.text.Shape.TheVariants.{Line, Ring, Grid, Edges}

-- the number of nodes
abbrev pub shape_nodes : Shape → ℕ
shape_nodes (Line n) = n
shape_nodes (Ring n) = n
shape_nodes (Grid rows cols) = rows * cols
shape_nodes (Edges n es) = n

-- each node of a line is joined to the next
abbrev pub line_edges : ℕ → List (ℕ × ℕ)
line_edges n = map (λ i. (i, i + 1)) (range_with_len 0 (n - 1))

-- a ring of three nodes or more also joins the first and the last
abbrev pub ring_edges : ℕ → List (ℕ × ℕ)
ring_edges n = line_edges n ++ (if nat_le 3 n then (0, n - 1) ∷ [] else [])

-- In a grid the node in row r and column c is r * cols + c. Each is joined to the one on its right,
abbrev pub row_edges : ℕ → ℕ → List (ℕ × ℕ)
row_edges cols r = map (λ c. (r * cols + c, r * cols + c + 1)) (range_with_len 0 (cols - 1))

-- and to the one below it.
abbrev pub column_edges : ℕ → ℕ → List (ℕ × ℕ)
column_edges cols r = map (λ c. (r * cols + c, r * cols + c + cols)) (range_with_len 0 cols)

abbrev pub grid_edges : ℕ → ℕ → List (ℕ × ℕ)
grid_edges rows cols =
    flat_map (row_edges cols) (range_with_len 0 rows) ++ flat_map (column_edges cols) (range_with_len 0 (rows - 1))

-- the edges, in any order
abbrev pub shape_edges : Shape → List (ℕ × ℕ)
shape_edges (Line n) = line_edges n
shape_edges (Ring n) = ring_edges n
shape_edges (Grid rows cols) = grid_edges rows cols
shape_edges (Edges n es) = es

-- the graph of a plan
abbrev pub graph_of_text : PlanText → Graph
graph_of_text t = graph_of (shape_nodes t.shape) (shape_edges t.shape)
