use Rattle.std.proofs.Common.{◌≡◌, drop}
use Rattle.gs_net.specs.Pools.{fails_at, held_at}
use Rattle.gs_net.proofs.mem_ports.first_at.Given as goal

abbrev pub invariant-loop-lot : goal.invariant-loop-lot
invariant-loop-lot l =
    (held_at l.fn.held l.fn.port ≡ held_at (drop l.lot-index l.fn.held) l.fn.port)
    × (fails_at l.fn.held l.fn.port ≡ fails_at (drop l.lot-index l.fn.held) l.fn.port)
