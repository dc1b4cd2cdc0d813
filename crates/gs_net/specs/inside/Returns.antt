-- For private functions and proofs: what ports in memory keep.
use Rattle.std.specs.Prelude.{List}
use Rattle.gs_net.specs.declared.returns.Returns.{Returns}
use Rattle.gs_net.specs.Lending.{Returned}
use Rattle.gs_net.specs.Weave.{weave}

-- all that came back, in order
abbrev pub back_in_order : {In Out Asked : Type 0} → Returns In Out Asked → List (Returned In Out Asked)
back_in_order returns =
    weave returns.kinds.returned.items returns.inlets.returned.items returns.outlets.returned.items returns.doors.returned.items
