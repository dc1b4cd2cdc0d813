use Rattle.gs_stamp.proofs.Tearing.{stays}
use Rattle.gs_stamp.proofs.in_memory.MemStore.new.Goals as goal

pub returns-clause-durable : goal.returns-clause-durable
returns-clause-durable c c' left = stays 18 c.args.bytes c' left
