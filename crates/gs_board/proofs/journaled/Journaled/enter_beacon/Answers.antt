use Rattle.std.proofs.Common.{sym, subst}
use Rattle.gs_board.specs.Ledger.{IsKept}
use Rattle.gs_board.proofs.Keeping.{delivered_is_kept}
use Rattle.gs_board.proofs.journaled.Journaled.enter_beacon.Goals as goal

pub returns-in-Ok-clause-kept : goal.returns-in-Ok-clause-kept
returns-in-Ok-clause-kept c =
    λ kept. subst IsKept (sym c.in-Ok.ensures.ok.ledger) (delivered_is_kept c.args.self.now c.args.beacon.now c.args.now kept c.in-Ok.ensures.ok.allowed c.requires.valid c.requires.spare)
