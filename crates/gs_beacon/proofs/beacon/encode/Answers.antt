use Rattle.std.proofs.Common.{rules, ◌≡◌, ◌++◌}
use Rattle.gs_beacon.specs.Beacons.{bytes_of, head_bytes, number_bytes}
use Rattle.gs_beacon.proofs.Written.{spells-written}
use Rattle.gs_beacon.proofs.beacon.encode.Goals as goal

pub returns-clause-bytes : goal.returns-clause-bytes
unfolding bytes_of
returns-clause-bytes c = search rules

pub returns-clause-spells : goal.returns-clause-spells
unfolding bytes_of
returns-clause-spells c =
    let whole : borrow.Rule.Slice.PartMut.put_mid 16 24 c.write_head.new.bytes c.write_numbers.new.bytes ≡ head_bytes c.args.b.now ++ number_bytes c.args.b.now = search rules in
    rw whole (spells-written c.args.b.now c.requires (search rules))
