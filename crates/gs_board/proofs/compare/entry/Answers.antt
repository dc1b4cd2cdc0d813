use Rattle.std.proofs.Common.{◌∙◌, ap, sym, get_or, Option, Some}
use Rattle.gs_core.specs.declared.event.NodeEvent.TheVariants.{Tick}
use Rattle.gs_core.specs.declared.reply.Ticked.{Ticked}
use Rattle.gs_board.proofs.Entering.{entry_at}
use Rattle.gs_board.proofs.compare.entry.Goals as goal

pub returns : goal.returns
returns c =
    entry_at c.args.journal.now c.args.replies.now c.args.place (Tick 0) _ c.requires.place c.requires.replies
    ∙ ap (λ (t : Option Ticked). Some (record { place = c.args.place; event = get_or c.args.journal.now c.args.place (Tick 0); ticked = t })) (sym c.ticked.ensures)
