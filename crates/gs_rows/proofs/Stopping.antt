-- The breach of a script is that of the plan and the records that its rows hold.
use Rattle.std.proofs.Common.{◌≡◌, ◌∙◌, ap, sym, subst, None}
use Rattle.gs_plan.specs.declared.plan.Plan.{Plan}
use Rattle.gs_script.specs.Script.{Said}
use Rattle.gs_calendar.specs.Scripts.{breach_of_script}
use Rattle.gs_calendar.specs.Stops.{StopsAt}
use Rattle.gs_calendar.specs.declared.stop.PlayStop.{PlayStop}
use Rattle.gs_rows.specs.Stage.{IsOver, Stage}

pub stops_here : (p : Plan) (said : Said) (x : Stage) (stop : PlayStop) → x.plan ≡ p → x.said ≡ said
    → StopsAt (breach_of_script x.plan x.said) stop → StopsAt (breach_of_script p said) stop
stops_here p said x stop plan is at =
    subst (λ (r : Said). StopsAt (breach_of_script p r) stop) is
    (subst (λ (q : Plan). StopsAt (breach_of_script q x.said) stop) plan at)

pub unbreached_here : (p : Plan) (said : Said) (x : Stage) → x.plan ≡ p → x.said ≡ said → IsOver x → breach_of_script p said ≡ None
unbreached_here p said x plan same over =
    sym (ap (λ (q : Plan). breach_of_script q x.said) plan ∙ ap (λ (r : Said). breach_of_script p r) same) ∙ over.breach
