-- What keeps a node from a beacon.
use Rattle.std.proofs.Common.{◌≡◌, ℕ, ◌==◌, true, refl, Some}
use Rattle.gs_units.specs.declared.params.NodeParams.{NodeParams}
use Rattle.gs_beacon.specs.declared.beacon.Beacon.{Beacon}
use Rattle.gs_core.specs.Node.{Node, link_place}
use Rattle.gs_core.specs.Steps.{reading_fault, deliver_fault}
use Rattle.gs_core.specs.declared.reply.CoreFault.{CoreFault}

-- a beacon of a neighbour is refused for its reading
pub refused_for_reading : (p : NodeParams) (n : Node) (b : Beacon) (now i : ℕ) (fault : CoreFault)
    → (b.cluster == p.cluster) ≡ true → link_place p b.sender ≡ Some i → reading_fault p n now ≡ Some fault
    → deliver_fault p n b now ≡ Some fault
refused_for_reading p n b now i fault cluster place reading = rw (cluster, place, reading) refl
