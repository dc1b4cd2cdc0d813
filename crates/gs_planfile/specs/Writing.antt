-- The document that `migrate` writes, put together key by key.
use Rattle.std.specs.Prelude.{◌<◌, ◌^◌, ◌==◌, codes, ℕ, List, pos, map, length, if◌then◌else◌}
use Rattle.std.specs.Prelude.{Option, Some, None, IfSome}
use Rattle.std.specs.List.{AllByRecursion}
use Rattle.std.specs.Ordering.{nat_cmp, match_ordering}
use Rattle.std.specs.Cmp.Lexicographic.{slice_cmp}
use Rattle.toml.specs.Data.{Data, Items, no_items, item, Members, no_members, member, integer, string, array}
use Rattle.toml.specs.View.{items_of}
use Rattle.gs_planfile.specs.declared.key.Key.{Key}
use Rattle.gs_planfile.specs.declared.key.Key.TheVariants as key
use Rattle.gs_planfile.specs.declared.text.EdgeSpan.{EdgeSpan}
use Rattle.gs_planfile.specs.declared.text.PlanText.{PlanText}
use Rattle.gs_planfile.specs.declared.text.Shape.{Shape}
use Rattle.gs_planfile.specs.declared.text.Shape.TheVariants as shape
use Rattle.gs_planfile.specs.Keys.{key_name}
use Rattle.gs_planfile.specs.Texts.{KappaFits}

-- members with a key set, in the order of their names
unfoldable pub insert_member : List ℕ → Data → Members → Members
insert_member name d no_members = member name d no_members
insert_member name d (member other e ms) =
    match_ordering (slice_cmp nat_cmp name other)
    (member name d (member other e ms)) (member other d ms) (member other e (insert_member name d ms))

-- members with the value of a key set
abbrev pub put : Key → Data → Members → Members
put k d ms = insert_member (key_name k) d ms

abbrev pub put_number : Key → ℕ → Members → Members
put_number k n ms = put k (integer (pos n)) ms

-- an edge as an array of two integers
abbrev pub edge_data : ℕ × ℕ → Data
edge_data edge = array (item (integer (pos edge.0)) (item (integer (pos edge.1)) no_items))

-- a kappa that is given is a fifth integer
abbrev pub kappa_items : Option ℕ → Items
kappa_items None = no_items
kappa_items (Some kappa) = item (integer (pos kappa)) no_items

-- a span as an array of four or five integers
abbrev pub span_data : EdgeSpan → Data
span_data s =
    array (item (integer (pos s.a)) (item (integer (pos s.b))
    (item (integer (pos s.delay_min)) (item (integer (pos s.delay_max)) (kappa_items s.kappa)))))

abbrev pub edges_data : List (ℕ × ℕ) → Data
edges_data edges = array (items_of (map edge_data edges))

abbrev pub spans_data : List EdgeSpan → Data
spans_data spans = array (items_of (map span_data spans))

unfoldable pub put_shape : Shape → Members → Members
put_shape (shape.Line n) ms = put_number key.Nodes n (put key.Topology (string (codes "line")) ms)
put_shape (shape.Ring n) ms = put_number key.Nodes n (put key.Topology (string (codes "ring")) ms)
put_shape (shape.Grid rows cols) ms =
    put_number key.Cols cols (put_number key.Rows rows (put key.Topology (string (codes "grid")) ms))
put_shape (shape.Edges n edges) ms =
    put key.Edges (edges_data edges) (put_number key.Nodes n (put key.Topology (string (codes "edges")) ms))

abbrev pub put_rates : PlanText → Members → Members
put_rates t ms = put_number key.Mu t.mu (put_number key.Hi t.hi (put_number key.Lo t.lo ms))

abbrev pub put_times : PlanText → Members → Members
put_times t ms =
    put_number key.Age t.age (put_number key.Losses t.losses (put_number key.Every t.every
    (put_number key.DelayMax t.delay_max (put_number key.DelayMin t.delay_min (put_number key.Tick t.tick ms)))))

-- an absent kappa and an empty list of spans are left out
unfoldable pub put_kappa : Option ℕ → Members → Members
put_kappa None ms = ms
put_kappa (Some kappa) ms = put_number key.Kappa kappa ms

unfoldable pub put_spans : List EdgeSpan → Members → Members
put_spans spans ms = if length spans == 0 then ms else put key.Spans (spans_data spans) ms

-- the members that a text is written as, in version 2
abbrev pub written : PlanText → Members
written t =
    put_spans t.spans (put_number key.Port t.port (put_number key.Levels t.levels (put_kappa t.kappa
    (put_times t (put_rates t (put_shape t.shape
    (put_number key.Cluster t.cluster (put_number key.Version 2 no_members))))))))

-- what the types of a text's numbers say
abbrev pub EdgeFits : ℕ × ℕ → Type 0
EdgeFits edge = (edge.0 < 2 ^ 32) × (edge.1 < 2 ^ 32)

abbrev pub SpanFits : EdgeSpan → Type 0
SpanFits s = (s.a < 2 ^ 32) × (s.b < 2 ^ 32) × (s.delay_min < 2 ^ 32) × (s.delay_max < 2 ^ 32) × KappaFits s

abbrev pub ShapeFits : Shape → Type 0
ShapeFits (shape.Line n) = n < 2 ^ 32
ShapeFits (shape.Ring n) = n < 2 ^ 32
ShapeFits (shape.Grid rows cols) = (rows < 2 ^ 32) × (cols < 2 ^ 32)
ShapeFits (shape.Edges n edges) = (n < 2 ^ 32) × AllByRecursion EdgeFits edges

abbrev pub RatesFit : PlanText → Type 0
RatesFit t = (t.lo < 2 ^ 32) × (t.hi < 2 ^ 32) × (t.mu < 2 ^ 32)

abbrev pub TimesFit : PlanText → Type 0
TimesFit t =
    (t.tick < 2 ^ 32) × (t.delay_min < 2 ^ 32) × (t.delay_max < 2 ^ 32)
    × (t.every < 2 ^ 32) × (t.losses < 2 ^ 32) × (t.age < 2 ^ 32)

pub record Fits (t : PlanText) : Type 0 where
  pub cluster : t.cluster < 2 ^ 32
  pub shape : ShapeFits t.shape
  pub rates : RatesFit t
  pub times : TimesFit t
  pub kappa : IfSome t.kappa (λ kappa. kappa < 2 ^ 62)
  pub levels : t.levels < 2 ^ 32
  pub port : t.port < 2 ^ 32
  pub spans : AllByRecursion SpanFits t.spans
