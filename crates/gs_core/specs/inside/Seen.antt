-- For private functions and proofs: how the fields of a core are seen.
use Rattle.std.specs.Prelude.{◌≡◌, length}
use Rattle.gs_units.specs.Params.{AreValid}
use Rattle.gs_core.specs.Node.{Node}
use Rattle.gs_core.specs.State.{State, IsNode}
use Rattle.gs_core.specs.declared.node.Core.TheInside.{Inside}

-- the node that the fields stand for
abbrev pub node_of : Inside → Node
node_of a = record {
  l = a.l;
  at = a.at;
  mode = a.mode;
  max = a.max;
  entries = a.slots;
  seq = a.seq;
  ticks = a.ticks;
  last = a.last;
}

-- the core that the fields stand for
abbrev pub state_of : Inside → State
state_of a = record { params = a.params; node = node_of a }

-- what is true of the fields: there is room for each offset
pub record IsInside (a : Inside) : Type 0 where
  pub valid : AreValid a.params
  pub runs : IsNode a.params (node_of a)
  pub room : length a.offsets.items ≡ length a.params.links
