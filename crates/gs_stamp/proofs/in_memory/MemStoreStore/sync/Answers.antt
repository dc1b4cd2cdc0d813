use Rattle.std.proofs.Common.{⊎_elim, Some, sym, ◌∙◌, ap, subst}
use Rattle.std.proofs.lemmas.Result.{on_ok_weaker}
use Rattle.gs_stamp.specs.Kept.{LeavesOf}
use Rattle.gs_stamp.proofs.Tearing.{synced_leaves, synced_follows}
use Rattle.gs_stamp.proofs.in_memory.MemStoreStore.sync.Goals as goal

pub returns-clause-durable : goal.returns-clause-durable
returns-clause-durable c =
    on_ok_weaker c.goes_on.result
    (λ is c' left. sym (ap (λ l. Some l) (synced_leaves c.goes_on.new.self.state c' (ap (λ state. state.torn) is ∙ c.synced.ensures.torn) left ∙ ap (λ state. state.bytes) is ∙ c.synced.ensures.bytes)))
    c.goes_on.ensures.ok

pub returns-clause-crash : goal.returns-clause-crash
returns-clause-crash c c' left =
    ⊎_elim
    (λ is. synced_follows c.args.self.now.state c.synced.result c.synced.ensures.bytes c.synced.ensures.torn c' (subst (λ state. LeavesOf state c') is left))
    (λ is. subst (λ state. LeavesOf state c') is left)
    c.goes_on.ensures.either
