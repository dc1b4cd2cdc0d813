use Rattle.std.proofs.Common.{◌≤◌, ℕ, ◌<◌, length, slice_index, rules}
use Rattle.gs_seat.proofs.Looking.{oldest_read}
use Rattle.gs_seat.proofs.seat.Seat.oldest.Goals as goal

pub returns : goal.returns
returns c = λ net course v i by m t hv hi is.
    let each : (k : ℕ) → k < length c.args.self.now.node.heard.items → c.oldest.result ≤ slice_index c.args.self.now.node.heard.items k = search rules in
    oldest_read net course v t i c.oldest.result c.args.self.now.node hv hi is.node each
