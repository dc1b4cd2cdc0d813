use Rattle.std.proofs.Common.{◌≡◌, ◌∙◌, ap, subst, sym, None, OnOk}
use Rattle.gs_core.specs.declared.event.Event.{Event}
use Rattle.gs_core.specs.declared.event.Event.TheVariants.{Quantum}
use Rattle.gs_run.specs.Nets.{net_of}
use Rattle.gs_run.specs.Why.{why}
use Rattle.gs_world.proofs.world.World.step.Goals as goal

pub returns-in-Quantum-clause-allowed : goal.returns-in-Quantum-clause-allowed
returns-in-Quantum-clause-allowed c =
    subst (λ (e : Event). OnOk c.advance.result (why (net_of c.args.self.now.plan) c.args.self.now.world e ≡ None))
    (ap Quantum c.as_slice.ensures ∙ sym c.in-Quantum.is) c.advance.ensures.allowed
