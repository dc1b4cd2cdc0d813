use Rattle.std.proofs.Common.{rules, ◌≡◌, ◌∙◌, MatchOption, length, sym, ap, List}
use Rattle.std.specs.Prelude.{filter}
use Rattle.gs_core.specs.declared.event.NodeEvent.{NodeEvent}
use Rattle.gs_core.specs.declared.reply.Reply.{Reply}
use Rattle.gs_board.specs.Entries.{is_of, told_from}
use Rattle.gs_board.specs.Torn.{DifferBy, SameFrame}
use Rattle.gs_board.proofs.Comparing.{torn_by_list}
use Rattle.gs_board.proofs.Entering.{as_many_replies, entries_are}
use Rattle.gs_board.proofs.boards.Board.compare.Goals as goal

pub first_torn-requires : goal.first_torn-requires
first_torn-requires g c =
    ap (λ (rs : List Reply). length rs) c.replies.ensures ∙ (as_many_replies c.args.self.now.kept c.args.self.now.ledger ∙ ap (λ (es : List NodeEvent). length es) (sym c.journal.ensures))

pub returns : goal.returns
returns g c =
    let frame : SameFrame c.args.self.now.kept c.args.seat.now = search rules in
    let list : MatchOption c.first_torn.result (c.args.seat.now.told ≡ filter (λ k. is_of c.args.seat.now.whose k.event) (told_from 0 c.args.self.now.kept.journal c.args.self.now.kept.replies))
    (DifferBy c.args.seat.now.told (filter (λ k. is_of c.args.seat.now.whose k.event) (told_from 0 c.args.self.now.kept.journal c.args.self.now.kept.replies))) = search rules in
    torn_by_list c.args.self.now.kept c.args.seat.now _ c.first_torn.result frame (entries_are c.args.self.now.kept c.args.seat.now.whose c.args.self.now.ledger) list
