use Rattle.std.proofs.Common.{◌∙◌, ap, subst, ℕ, Some}
use Rattle.gs_units.specs.declared.params.NodeParams.{NodeParams}
use Rattle.gs_callers.specs.Seats.{Drops, SeatAgrees, SeatTaken}
use Rattle.gs_node.proofs.joins.join_one.Goals as goal

pub returns-clause-agree : goal.returns-clause-agree
returns-clause-agree g c =
    subst (λ (p : NodeParams). SeatAgrees p c.leave.result.seat (g.I.Inlet.tale c.leave.result.inlet)) (c.wait_for.ensures.params ∙ c.requires.named) c.leave.ensures.agree

pub returns-clause-taken : goal.returns-clause-taken
returns-clause-taken g c = λ final.
    subst (λ (p : NodeParams). SeatTaken p c.leave.result.seat (g.I.Inlet.tale c.leave.result.inlet)) (c.wait_for.ensures.params ∙ c.requires.named) (c.leave.ensures.taken final)

pub returns-clause-whose : goal.returns-clause-whose
returns-clause-whose g c = c.leave.ensures.whose ∙ ap (λ (z : ℕ). Some z) c.wait_for.ensures.neighbour

pub returns-clause-dropped : goal.returns-clause-dropped
returns-clause-dropped g c =
    subst (λ (p : NodeParams). Drops p c.leave.result.seat.whose (g.I.Inlet.tale c.leave.result.inlet) c.leave.result.dropped) (c.wait_for.ensures.params ∙ c.requires.named) c.leave.ensures.dropped
