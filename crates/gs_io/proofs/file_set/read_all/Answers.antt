use Rattle.std.proofs.Common.{rules}
use Rattle.gs_io.proofs.Reading.{all_told}
use Rattle.gs_io.proofs.file_set.read_all.Goals as goal

pub returns-clause-bytes : goal.returns-clause-bytes
returns-clause-bytes g c =
    let items = c.read_to_end.new.buf.items in
    all_told (g.F.Read.remaining c.args.file) c.args.most c.take.result.limit items (search rules) (search rules) (search rules) (search rules)
