-- What the list of edges and the list of spans mean.
use Rattle.std.specs.Prelude.{ℕ, List, [], ◌∷◌, ◌==◌, ◌&&◌, ◌||◌, Bool, true, false, length, if◌then◌else◌}
use Rattle.std.specs.Prelude.{Option, Some, None, Result, Ok, Err}
use Rattle.std.specs.List.{list_all}
use Rattle.toml.specs.Data.{Data, Items, no_items, item, Members, at, integer, array}
use Rattle.gs_planfile.specs.declared.key.Key.{Key}
use Rattle.gs_planfile.specs.declared.key.Key.TheVariants.{Edges, Spans}
use Rattle.gs_planfile.specs.declared.key.PlanFileFault.{PlanFileFault}
use Rattle.gs_planfile.specs.declared.key.PlanFileFault.TheVariants.{Kind}
use Rattle.gs_planfile.specs.declared.text.EdgeSpan.{EdgeSpan}
use Rattle.gs_planfile.specs.declared.text.Version.{Version}
use Rattle.gs_planfile.specs.declared.text.Version.TheVariants.{One, Two}
use Rattle.gs_planfile.specs.Values.{◌>>=◌, needed, number_of, optional, optional_kappa, value_at}

-- the values of an array
abbrev pub values : Items → List Data
values no_items = []
values (item d ds) = d ∷ values ds

-- an integer of any size
abbrev pub is_integer : Data → Bool
is_integer (integer z) = true
is_integer _ = false

-- the form of an edge: an array of two integers
abbrev pub is_edge : Data → Bool
is_edge (array ds) = (length (values ds) == 2) && list_all is_integer (values ds)
is_edge _ = false

-- the form of a span: an array of four or five integers
abbrev pub is_span : Data → Bool
is_span (array ds) = ((length (values ds) == 4) || (length (values ds) == 5)) && list_all is_integer (values ds)
is_span _ = false

-- the number at a place of an array
abbrev pub item_number : Key → Option Data → Result ℕ PlanFileFault
item_number k (Some d) = number_of k d
item_number k None = Err (Kind k)

abbrev pub number_in : Key → ℕ → Data → Result ℕ PlanFileFault
number_in k i d = item_number k (at i d)

-- an edge: its two ends
abbrev pub edge_of : Data → Result (ℕ × ℕ) PlanFileFault
edge_of d = do
  a ← number_in Edges 0 d
  b ← number_in Edges 1 d
  Ok (a, b)

-- a span: the two ends of its edge, its delays and, where there is a fifth, its kappa
unfoldable pub span_of : Data → Result EdgeSpan PlanFileFault
span_of d = do
  a ← number_in Spans 0 d
  b ← number_in Spans 1 d
  delay_min ← number_in Spans 2 d
  delay_max ← number_in Spans 3 d
  kappa ← optional_kappa Spans (at 4 d)
  Ok (record { a = a; b = b; delay_min = delay_min; delay_max = delay_max; kappa = kappa })

-- values that are read one after the other, or the first fault
abbrev pub each : {A : Type 0} → (Data → Result A PlanFileFault) → List Data → Result (List A) PlanFileFault
each read [] = Ok []
each read (d ∷ ds) = read d >>= (λ x. each read ds >>= (λ xs. Ok (x ∷ xs)))

-- a list: the form of all its values comes before the range of any
abbrev pub list_of : {A : Type 0} → Key → (Data → Bool) → (Data → Result A PlanFileFault) → List Data
    → Result (List A) PlanFileFault
list_of k has_form read ds = if list_all has_form ds then each read ds else Err (Kind k)

-- what a value says as the list of edges, and as the list of spans
abbrev pub edges_of : Data → Result (List (ℕ × ℕ)) PlanFileFault
edges_of (array ds) = list_of Edges is_edge edge_of (values ds)
edges_of _ = Err (Kind Edges)

abbrev pub spans_of : Data → Result (List EdgeSpan) PlanFileFault
spans_of (array ds) = list_of Spans is_span span_of (values ds)
spans_of _ = Err (Kind Spans)

-- the edges, which a shape that lists them needs
abbrev pub edges_at : Members → Result (List (ℕ × ℕ)) PlanFileFault
edges_at ms = needed Edges edges_of (value_at Edges ms)

-- the spans, at which version 1 does not look
abbrev pub spans_at : Version → Members → Result (List EdgeSpan) PlanFileFault
spans_at One ms = Ok []
spans_at Two ms = optional [] spans_of (value_at Spans ms)
