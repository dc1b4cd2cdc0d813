-- How far an audit has come. These facts are for private functions and proofs.
use Rattle.std.specs.Prelude.{◌≡◌, ℕ, ◌+◌, ◌*◌, ◌^◌, ◌<◌, ◌≤◌, List, [], ◌∷◌, ◌++◌, length, map}
use Rattle.gs_topo.specs.Graph.{Graph}
use Rattle.gs_core.specs.declared.event.Event.{Event}
use Rattle.gs_level.specs.Tallies.{tally_of}
use Rattle.gs_level.specs.declared.tally.Tally.{Tally}
use Rattle.gs_run.specs.Net.{Net}
use Rattle.gs_run.specs.Run.{first_refused, later_ends}
use Rattle.gs_run.specs.World.{World, clocks_in}
use Rattle.gs_run.specs.RunRows.{fast_of, rows_of}

-- Of all events of an audit these are left in this world behind `index` others, and nothing was refused so far. The rows of
-- clocks that were taken in, of which `clocks` is the last, and those that are to come are the rows of all events, and so
-- it is with what is counted as fast.
pub record IsUnderWay (net : Net) (g : Graph) (start : World) (all left : List Event) (w : World) (tally : Tally) (clocks : List ℕ)
    (fast index : ℕ) : Type 0 where
  pub refused : first_refused net 0 start all ≡ first_refused net index w left
  pub fasts : fast_of net start all ≡ fast + fast_of net w left
  pub before : List (List ℕ)
  pub rows : rows_of net start all ≡ before ++ clocks ∷ map (clocks_in net) (later_ends net w left)
  pub tallied : tally ≡ tally_of g (before ++ clocks ∷ [])
  pub number : length before ≡ w.quanta
  pub members : length w.members ≡ net.nodes
  pub count : length clocks ≡ net.nodes
  pub few : fast ≤ 2 ^ 32 * w.quanta
  pub short : index + length left < 2 ^ 64
