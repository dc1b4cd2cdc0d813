use Rattle.std.proofs.Common.{◌≡◌, ◌*◌, length, rules}
use Rattle.gs_topo.proofs.Flagging.{flags_more}
use Rattle.gs_topo.proofs.flags.flag_both_ways.Goals as goal

pub returns : goal.returns
returns c =
    let count : length c.set_flag-2.new.flags.items ≡ c.args.side * c.args.side = search rules in
    flags_more c.args.side c.args.v c.args.w c.args.flags.now.items c.set_flag.new.flags.items c.set_flag-2.new.flags.items c.requires.nodes.0 c.requires.nodes.1
    count c.set_flag.ensures.here c.set_flag.ensures.others c.set_flag-2.ensures.here c.set_flag-2.ensures.others
