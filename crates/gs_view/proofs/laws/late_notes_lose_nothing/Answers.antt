use Rattle.gs_view.proofs.Beginnings.{joined_older, joined_newer}
use Rattle.gs_view.proofs.laws.late_notes_lose_nothing.Goals as goal

pub returns-clause-older : goal.returns-clause-older
returns-clause-older c = joined_older

pub returns-clause-newer : goal.returns-clause-newer
returns-clause-newer c = joined_newer
