-- The two texts of a generated network.
use Rattle.std.specs.Prelude.{ℕ, ◌+◌, ◌%◌, List, [], ◌∷◌, ◌++◌, codes, decimal, flat_map}
use Rattle.std.specs.List.{range_with_len}
use Rattle.gs_gen.specs.declared.draws.Draws.{Draws}
use Rattle.gs_gen.specs.Draws.{draws_of}

-- The plan file of a ring of so many nodes.
unfoldable pub plan_text : ℕ → List ℕ
plan_text size =
    codes "version = 1\ncluster = 7\ntopology = \"ring\"\nnodes = " ++ decimal size
    ++ codes "\nlo = 10000\nhi = 10001\nmu = 2000\ntick = 100\ndelay_min = 2\ndelay_max = 12\n"
    ++ codes "every = 1\nlosses = 3\nage = 412\n"

-- a number behind a comma
abbrev pub field_of : ℕ → List ℕ
field_of n = codes "," ++ decimal n

-- a record: its word, its numbers, and the end of its line
unfoldable pub record_of : List ℕ → List ℕ → List ℕ
record_of word numbers = word ++ flat_map field_of numbers ++ 10 ∷ []

-- the records of node v of a ring: its drift, its gap, and the delay to the node after it, each in the quanta 1 to 4000
unfoldable pub node_records : ℕ → ℕ → Draws → List ℕ
node_records size v draws =
    record_of (codes "drift") (v ∷ 1 ∷ 4000 ∷ (10000 + draws.drift % 2) ∷ [])
    ++ record_of (codes "tick") (v ∷ 1 ∷ 4000 ∷ (50 + draws.gap % 51) ∷ [])
    ++ record_of (codes "delay") (v ∷ (v + 1) % size ∷ 1 ∷ 4000 ∷ (2 + draws.delay % 11) ∷ [])

-- those of the first n nodes
unfoldable pub nodes_records : ℕ → ℕ → ℕ → List ℕ
nodes_records number size n = flat_map (λ v. node_records size v (draws_of number v)) (range_with_len 0 n)

-- The script file of the network of a number and a size.
unfoldable pub script_text : ℕ → ℕ → List ℕ
script_text number size =
    record_of (codes "quanta") (4000 ∷ [])
    ++ nodes_records number size size
    ++ record_of (codes "loss") (0 ∷ 1 ∷ 1 ∷ 50 ∷ 1 ∷ [])
