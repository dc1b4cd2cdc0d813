use Rattle.std.proofs.Common.{Some, sym, ap}
use Rattle.gs_stamp.proofs.Tearing.{synced_leaves}
use Rattle.gs_stamp.proofs.in_memory.MemStore.crash.Goals as goal

pub returns-clause-durable : goal.returns-clause-durable
returns-clause-durable c c' left = sym (ap (λ l. Some l) (synced_leaves c.crashed.result c' c.crashed.ensures.torn left))
