use Rattle.std.proofs.Common.{⊎_elim, length, subst}
use Rattle.gs_stamp.specs.Kept.{LeavesOf}
use Rattle.gs_stamp.proofs.Tearing.{written_follows, unwritten_follows}
use Rattle.gs_stamp.proofs.in_memory.MemStoreStore.write.Goals as goal

pub returns-clause-crash : goal.returns-clause-crash
returns-clause-crash c c' left =
    ⊎_elim
    (λ is. written_follows c.args.at c.args.piece.now c.args.self.now.state c.written.result c.requires c.written.ensures.bytes c.written.ensures.torn c' (subst (λ state. LeavesOf state c') is left))
    (λ is. unwritten_follows c.args.at (length c.args.piece.now) c.args.self.now.state c' (subst (λ state. LeavesOf state c') is left))
    c.goes_on.ensures.either
