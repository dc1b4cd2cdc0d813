use Rattle.std.proofs.Common.{◌≡◌, drop}
use Rattle.gs_plan.specs.Plans.{text_of}
use Rattle.gs_play.specs.inside.Windows.{least_delay}
use Rattle.gs_play.proofs.window.least_delay.Given as goal

abbrev pub invariant-loop-span : goal.invariant-loop-span
invariant-loop-span l = least_delay l.least (drop l.span-index l.span-items) ≡ least_delay (text_of l.plan).delay_min (text_of l.plan).spans
