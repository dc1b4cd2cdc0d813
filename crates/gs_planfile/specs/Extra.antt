-- Which keys may stand in a file. Any other is an extra one.
use Rattle.std.specs.Prelude.{ℕ, List, [], ◌∷◌, Bool, true, false, not, ◌&&◌, Result, Ok, Err, if◌then◌else◌}
use Rattle.std.specs.List.{list_any}
use Rattle.std.specs.Str.{bytes_eq}
use Rattle.toml.specs.Data.{Members, no_members, member}
use Rattle.gs_planfile.specs.declared.key.Key.{Key}
use Rattle.gs_planfile.specs.declared.key.Key.TheVariants.{Nodes, Rows, Cols, Edges, Spans}
use Rattle.gs_planfile.specs.declared.key.PlanFileFault.{PlanFileFault}
use Rattle.gs_planfile.specs.declared.key.PlanFileFault.TheVariants.{Extra}
use Rattle.gs_planfile.specs.declared.text.Shape.{Shape}
use Rattle.gs_planfile.specs.declared.text.Shape.TheVariants as shape
use Rattle.gs_planfile.specs.declared.text.Version.{Version}
use Rattle.gs_planfile.specs.declared.text.Version.TheVariants as version
use Rattle.gs_planfile.specs.Keys.{every_key, key_name}

-- whether a shape is made of a count of nodes, of rows and columns, of listed edges
abbrev pub takes_nodes : Shape → Bool
takes_nodes (shape.Line n) = true
takes_nodes (shape.Ring n) = true
takes_nodes (shape.Grid rows cols) = false
takes_nodes (shape.Edges n edges) = true

abbrev pub takes_rows : Shape → Bool
takes_rows (shape.Grid rows cols) = true
takes_rows _ = false

abbrev pub takes_edges : Shape → Bool
takes_edges (shape.Edges n edges) = true
takes_edges _ = false

-- whether a version knows of spans
abbrev pub takes_spans : Version → Bool
takes_spans version.One = false
takes_spans version.Two = true

-- whether a key may stand in a file of this version and shape
abbrev pub may_stand : Version → Shape → Key → Bool
may_stand v s Nodes = takes_nodes s
may_stand v s Rows = takes_rows s
may_stand v s Cols = takes_rows s
may_stand v s Edges = takes_edges s
may_stand v s Spans = takes_spans v
may_stand v s _ = true

-- whether a key of this name may stand in a file of this version and shape
unfoldable pub is_allowed : Version → Shape → List ℕ → Bool
is_allowed v s name = list_any (λ key. bytes_eq (key_name key) name && may_stand v s key) every_key

-- the keys that stand there
abbrev pub names : Members → List (List ℕ)
names no_members = []
names (member name value ms) = name ∷ names ms

-- whether a key stands there that this version and shape do not take
abbrev pub has_extra : Version → Shape → Members → Bool
has_extra version shape ms = list_any (λ name. not (is_allowed version shape name)) (names ms)

abbrev pub no_extra : Version → Shape → Members → Result (Unit {0}) PlanFileFault
no_extra version shape ms = if has_extra version shape ms then Err Extra else Ok tt
