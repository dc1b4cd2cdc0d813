use Rattle.gs_calendar.proofs.FewLosses.{few_losses}
use Rattle.gs_calendar.proofs.laws.few_losses_never_breach.Goals as goal

pub returns : goal.returns
returns c = few_losses
