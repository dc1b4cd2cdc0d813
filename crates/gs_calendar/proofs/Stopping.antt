-- A play of a script that loses few beacons stops where memory runs out, and nowhere else.
use Rattle.std.proofs.Common.{◌≡◌, sym, refl, ◌∙◌}
use Rattle.std.proofs.lemmas.Option.{none-some}
use Rattle.gs_plan.specs.Plans.{text_of}
use Rattle.gs_plan.specs.declared.plan.Plan.{Plan}
use Rattle.gs_script.specs.Script.{Said, IsScript}
use Rattle.gs_calendar.specs.Losses.{LosesFew}
use Rattle.gs_calendar.proofs.FewLosses.{few_losses}
use Rattle.gs_calendar.specs.Scripts.{breach_of_script}
use Rattle.gs_calendar.specs.Stops.{StopsAt}
use Rattle.gs_calendar.specs.declared.stop.PlayStop.{PlayStop}
use Rattle.gs_calendar.specs.declared.stop.PlayStop.TheVariants.{Stale, OutOfMemory}

-- so a play of it stops where memory runs out, and nowhere else
pub stops_for_memory : (p : Plan) (s : Said) (stop : PlayStop) → s.text ≡ text_of p → IsScript s → LosesFew p s
    → StopsAt (breach_of_script p s) stop → stop ≡ OutOfMemory
stops_for_memory p s (Stale quantum from to) same is few at = absurd (none-some _ (sym (few_losses p s same is few) ∙ at))
stops_for_memory p s OutOfMemory same is few at = refl
