use Rattle.std.proofs.Common.{arith}
use Rattle.gs_run.specs.Nets.{net_of}
use Rattle.gs_piece.specs.Nodes.{none_handed}
use Rattle.gs_rows_tests.proofs.pieces.has_sent.Goals as goal

pub sent-requires : goal.sent-requires
sent-requires c =
    let is = c.requires in
    (net_of is.0, is.1, none_handed 0, 0, 1, 0, 1, omega arith, omega arith, is.2)
