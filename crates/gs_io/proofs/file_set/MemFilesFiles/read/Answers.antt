use Rattle.std.proofs.Common.{rules}
use Rattle.gs_io.proofs.Counts.{alone, later, raised}
use Rattle.gs_io.proofs.file_set.MemFilesFiles.read.Goals as goal

pub returns-in-None-clause-failed : goal.returns-in-None-clause-failed
returns-in-None-clause-failed c = λ is. raised c.args.self.now c.count_failure.new.self c.args.name.now (search rules)

pub returns-in-None-clause-later : goal.returns-in-None-clause-later
returns-in-None-clause-later c = λ other. later c.args.self.now c.count_failure.new.self c.args.name.now other (search rules) (search rules)

pub returns-in-None-clause-alone : goal.returns-in-None-clause-alone
returns-in-None-clause-alone c = λ other apart. alone c.args.self.now c.count_failure.new.self c.args.name.now other (search rules) apart
