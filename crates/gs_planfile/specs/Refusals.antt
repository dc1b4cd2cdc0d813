-- What the first fault of a document says of its keys.
use Rattle.std.specs.Prelude.{◌≡◌, codes, ℕ, List, [], Bool, true, false, not, Option, Some, None, IsSome, Err}
use Rattle.std.specs.List.{AllByRecursion, before_first}
use Rattle.std.specs.Str.{bytes_eq}
use Rattle.toml.specs.Data.{Data, Members, string}
use Rattle.gs_planfile.specs.declared.key.Key.{Key}
use Rattle.gs_planfile.specs.declared.key.Key.TheVariants.{Topology, Nodes, Rows, Cols, Edges}
use Rattle.gs_planfile.specs.declared.key.Key.TheVariants.{Kappa, Levels, Port, Spans}
use Rattle.gs_planfile.specs.declared.key.PlanFileFault.{PlanFileFault}
use Rattle.gs_planfile.specs.declared.key.PlanFileFault.TheVariants.{Missing, Kind, Range, Extra}
use Rattle.gs_planfile.specs.Keys.{every_key, key_name}
use Rattle.gs_planfile.specs.Meaning.{plan_in}
use Rattle.gs_planfile.specs.Values.{value_at}

-- the text that a value is
abbrev pub text_in : Option Data → List ℕ
text_in (Some (string text)) = text
text_in _ = []

-- whether a plan with this topology needs a key
abbrev pub is_needed : List ℕ → Key → Bool
is_needed topology Nodes = not (bytes_eq topology (codes "grid"))
is_needed topology Rows = bytes_eq topology (codes "grid")
is_needed topology Cols = bytes_eq topology (codes "grid")
is_needed topology Edges = bytes_eq topology (codes "edges")
is_needed topology Kappa = false
is_needed topology Levels = false
is_needed topology Port = false
is_needed topology Spans = false
is_needed topology _ = true

-- the document's topology needs the key
abbrev pub IsNeeded : Members → Key → Type 0
IsNeeded ms k = is_needed (text_in (value_at Topology ms)) k ≡ true

-- the key stands there, with some value
abbrev pub IsThere : Members → Key → Type 0
IsThere ms k = IsSome (value_at k ms)

-- the keys that are looked at before this one
abbrev pub keys_before : Key → List Key
keys_before k = before_first (λ q. bytes_eq (key_name q) (key_name k)) every_key

-- of these keys, each that is needed is there
abbrev pub NoneIsMissing : Members → List Key → Type 0
NoneIsMissing ms ks = AllByRecursion (λ k. IsNeeded ms k → IsThere ms k) ks

-- what a fault says of a document: nothing is missing before its key, and that key is missing, or is there
abbrev pub IsFaultOf : Members → PlanFileFault → Type 0
IsFaultOf ms (Missing k) = IsNeeded ms k × (value_at k ms ≡ None) × NoneIsMissing ms (keys_before k)
IsFaultOf ms (Kind k) = IsThere ms k × NoneIsMissing ms (keys_before k)
IsFaultOf ms (Range k) = IsThere ms k × NoneIsMissing ms (keys_before k)
IsFaultOf ms Extra = NoneIsMissing ms every_key
IsFaultOf ms _ = ⊥

-- every document that says no plan has such a fault
abbrev pub FaultsAreAtKeys : Type 0
FaultsAreAtKeys = (ms : Members) (fault : PlanFileFault) → plan_in ms ≡ Err fault → IsFaultOf ms fault
