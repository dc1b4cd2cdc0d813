-- The keys of a plan file.
use Rattle.std.specs.Prelude.{codes, ℕ, List, [], ◌∷◌}
use Rattle.gs_planfile.specs.declared.key.Key.{Key}
use Rattle.gs_planfile.specs.declared.key.Key.TheVariants.{Version, Cluster, Topology, Nodes, Rows, Cols, Edges}
use Rattle.gs_planfile.specs.declared.key.Key.TheVariants.{Lo, Hi, Mu, Tick, DelayMin, DelayMax, Every, Losses, Age}
use Rattle.gs_planfile.specs.declared.key.Key.TheVariants.{Kappa, Levels, Port, Spans}

-- a key as a file spells it
abbrev pub key_name : Key → List ℕ
key_name Version = codes "version"
key_name Cluster = codes "cluster"
key_name Topology = codes "topology"
key_name Nodes = codes "nodes"
key_name Rows = codes "rows"
key_name Cols = codes "cols"
key_name Edges = codes "edges"
key_name Lo = codes "lo"
key_name Hi = codes "hi"
key_name Mu = codes "mu"
key_name Tick = codes "tick"
key_name DelayMin = codes "delay_min"
key_name DelayMax = codes "delay_max"
key_name Every = codes "every"
key_name Losses = codes "losses"
key_name Age = codes "age"
key_name Kappa = codes "kappa"
key_name Levels = codes "levels"
key_name Port = codes "port"
key_name Spans = codes "spans"

-- all keys
abbrev pub every_key : List Key
every_key =
    Version ∷ Cluster ∷ Topology ∷ Nodes ∷ Rows ∷ Cols ∷ Edges ∷ Lo ∷ Hi ∷ Mu ∷ Tick ∷ DelayMin ∷ DelayMax ∷ Every
    ∷ Losses ∷ Age ∷ Kappa ∷ Levels ∷ Port ∷ Spans ∷ []
