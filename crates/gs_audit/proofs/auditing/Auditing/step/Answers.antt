use Rattle.std.proofs.Common.{◌∷◌, subst}
use Rattle.gs_audit.specs.inside.Running.{IsAuditing}
use Rattle.gs_trace.specs.Scans.{event_told}
use Rattle.gs_trace.specs.declared.scan.Next.{Next}
use Rattle.gs_audit.proofs.auditing.Auditing.step.Goals as goal

pub quantum-requires : goal.quantum-requires
quantum-requires c = (
  c.requires.0,
  c.requires.1,
  c.requires.2,
  c.requires.3,
  subst (λ (n : Next). IsAuditing c.requires.0 c.requires.1 c.requires.2 (event_told n c.args.incs.now ∷ c.requires.3) c.args.self.now) c.in-Quantum.is c.requires.4,
)

pub other-requires-clause-first : goal.other-requires-clause-first
other-requires-clause-first c = (
  c.requires.0,
  c.requires.1,
  c.requires.2,
  c.requires.3,
  subst (λ (n : Next). IsAuditing c.requires.0 c.requires.1 c.requires.2 (event_told n c.args.incs.now ∷ c.requires.3) c.args.self.now) c.in-Tick.is c.requires.4,
)

pub other-requires-in-Deliver-clause-first : goal.other-requires-in-Deliver-clause-first
other-requires-in-Deliver-clause-first c = (
  c.requires.0,
  c.requires.1,
  c.requires.2,
  c.requires.3,
  subst (λ (n : Next). IsAuditing c.requires.0 c.requires.1 c.requires.2 (event_told n c.args.incs.now ∷ c.requires.3) c.args.self.now) c.in-Deliver.is c.requires.4,
)

pub returns-in-Quantum-clause-ok : goal.returns-in-Quantum-clause-ok
returns-in-Quantum-clause-ok c = λ p s all left h.
    c.quantum.ensures.ok p s all left (subst (λ (n : Next). IsAuditing p s all (event_told n c.args.incs.now ∷ left) c.args.self.now) c.in-Quantum.is h)

pub returns-in-Quantum-clause-err : goal.returns-in-Quantum-clause-err
returns-in-Quantum-clause-err c = λ p s all left h.
    c.quantum.ensures.err p s all left (subst (λ (n : Next). IsAuditing p s all (event_told n c.args.incs.now ∷ left) c.args.self.now) c.in-Quantum.is h)

pub returns-in-Tick-clause-ok : goal.returns-in-Tick-clause-ok
returns-in-Tick-clause-ok c = λ p s all left h.
    c.other.ensures.ok p s all left (subst (λ (n : Next). IsAuditing p s all (event_told n c.args.incs.now ∷ left) c.args.self.now) c.in-Tick.is h)

pub returns-in-Tick-clause-err : goal.returns-in-Tick-clause-err
returns-in-Tick-clause-err c = λ p s all left h.
    c.other.ensures.err p s all left (subst (λ (n : Next). IsAuditing p s all (event_told n c.args.incs.now ∷ left) c.args.self.now) c.in-Tick.is h)

pub returns-in-Deliver-clause-ok : goal.returns-in-Deliver-clause-ok
returns-in-Deliver-clause-ok c = λ p s all left h.
    c.other-in-Deliver.ensures.ok p s all left (subst (λ (n : Next). IsAuditing p s all (event_told n c.args.incs.now ∷ left) c.args.self.now) c.in-Deliver.is h)

pub returns-in-Deliver-clause-err : goal.returns-in-Deliver-clause-err
returns-in-Deliver-clause-err c = λ p s all left h.
    c.other-in-Deliver.ensures.err p s all left (subst (λ (n : Next). IsAuditing p s all (event_told n c.args.incs.now ∷ left) c.args.self.now) c.in-Deliver.is h)
