use Rattle.std.proofs.Common.{ℕ, Option, Some, None, sym, subst}
use Rattle.gs_respond.specs.inside.Accounts.{Replies}
use Rattle.gs_respond.proofs.Accounting.{replies_more, replies_same}
use Rattle.gs_respond.proofs.replying.reply.Goals as goal

pub returns-in-Ok-reply-clause-replies : goal.returns-in-Ok-reply-clause-replies
returns-in-Ok-reply-clause-replies g c =
    let a = c.in-Some-answer.ensures.answered in
    subst (λ (asked : Option ℕ). Replies c.args.node asked None (g.D.Inlet.replies c.args.door.now) (g.D.Inlet.replies c.reply.new.self) c.args.reader.now.answer c.answer.new.reader.answer) (sym a.1)
    (replies_more c.args.node a.0 c.in-Some-answer.bytes _ _ _ _ a.2 a.3 c.in-Some-answer.ensures.asked.never_falls c.in-Ok-reply.ensures.replied)

pub returns-in-Err-clause-replies : goal.returns-in-Err-clause-replies
returns-in-Err-clause-replies g c =
    subst (λ (asked : Option ℕ). Replies c.args.node asked (Some c.in-Some.number) (g.D.Inlet.replies c.args.door.now) (g.D.Inlet.replies c.reply.new.self) c.args.reader.now.answer c.answer.new.reader.answer) c.in-Some.ensures
    (replies_same c.args.node (Some c.in-Some.number) _ _ _ _ c.in-Err.ensures.unreplied c.in-Some-answer.ensures.asked.never_falls)
