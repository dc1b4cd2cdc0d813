use Rattle.std.proofs.Common.{Ok, Err}
use Rattle.gs_topo.proofs.Numbering.{IsLookedUp, number_is}
use Rattle.gs_topo.proofs.topology.edge_number.Goals as goal

pub returns-in-Ok : goal.returns-in-Ok
returns-in-Ok c =
    let ends : IsLookedUp c.args.edges.now c.args.v c.args.w (c.min.result, c.max.result) =
    record { upright = c.requires.upright; ascending = c.requires.ascending; lower = c.min.ensures; upper = c.max.ensures } in
    number_is c.args.edges.now c.args.v c.args.w (c.min.result, c.max.result) (Ok c.in-Ok.number) ends c.in-Ok.ensures.bound c.in-Ok.ensures.position

pub returns-in-Err : goal.returns-in-Err
returns-in-Err c =
    let ends : IsLookedUp c.args.edges.now c.args.v c.args.w (c.min.result, c.max.result) =
    record { upright = c.requires.upright; ascending = c.requires.ascending; lower = c.min.ensures; upper = c.max.ensures } in
    number_is c.args.edges.now c.args.v c.args.w (c.min.result, c.max.result) (Err c.in-Err.field-0) ends c.in-Err.ensures.bound c.in-Err.ensures.position
