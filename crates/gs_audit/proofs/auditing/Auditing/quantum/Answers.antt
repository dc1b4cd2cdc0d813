use Rattle.std.proofs.Common.{◌≡◌, ◌≤◌, ◌^◌, ◌++◌, ◌∷◌, [], length, List, ℕ, arith, ap, ◌∙◌, rules}
use Rattle.std.specs.Vec.{with_items}
use Rattle.std.proofs.lemmas.List.{with_items_is}
use Rattle.gs_core.specs.declared.event.Event.TheVariants as event
use Rattle.gs_plan.specs.Plans.{graph_of}
use Rattle.gs_level.specs.Tallies.{tally_of}
use Rattle.gs_audit.specs.Verdicts.{world_at}
use Rattle.std.specs.Prelude.{Some}
use Rattle.std.proofs.lemmas.Result.{err_from_is_err_and}
use Rattle.gs_run.specs.Nets.{net_of}
use Rattle.gs_run.specs.Why.{why}
use Rattle.gs_audit.proofs.Onward.{quantum_goes_on, stops_here}
use Rattle.gs_audit.proofs.auditing.Auditing.quantum.Goals as goal

pub returns-clause-ok : goal.returns-clause-ok
returns-clause-ok c = λ p s all left h.
    let old = c.args.self.now in
    let clocks = c.write_clocks.new.clocks in
    let long : length clocks ≡ old.clocks.len = search rules in
    let written : List ℕ = (with_items old.clocks clocks).items in
    let all_written : written ≡ clocks = with_items_is old.clocks clocks long in
    let g = graph_of old.plan.now in
    let small : c.from.result ≤ 2 ^ 32 = omega arith in
    record {
      plan = h.plan;
      world = c.advance.ensures.plan ∙ h.world;
      under_way = quantum_goes_on p old.world.plan old.plan.now c.advance.new.self.plan (world_at p s) all left c.args.incs.now
          old.world.world c.advance.new.self.world old.tally c.add.new.self old.clocks.items written old.fast c.from.result old.index
          h.world h.plan c.advance.ensures.plan h.under_way (search rules) (search rules)
          (all_written ∙ c.write_clocks.ensures) (search rules) small
          (λ rows is. c.add.ensures.value rows is ∙ ap (λ (l : List ℕ). tally_of g (rows ++ l ∷ [])) c.deref.ensures.value);
    }

pub returns-in_err-advance-clause-err : goal.returns-in_err-advance-clause-err
returns-in_err-advance-clause-err c = λ p s all left h.
    let placed = c.args.self.now.world in
    let fault = c.in_err-advance.field-0.0 in
    let some : why (net_of placed.plan) placed.world (event.Quantum c.args.incs.now) ≡ Some fault = search rules in
    let answer = err_from_is_err_and c.from_residual.result c.from_residual.ensures.1 in
    rw (answer.1, answer.2) (λ other. stops_here p s all left (event.Quantum c.args.incs.now) c.args.self.now fault h some)
