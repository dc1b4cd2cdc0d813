use Rattle.std.proofs.Common.{arith, rules, ◌∙◌}
use Rattle.gs_net.specs.Lending.{Holds}
use Rattle.gs_net.specs.Tales.{IsFresh}
use Rattle.gs_node_run.proofs.Telling.{all_pushed, asked_more, length_pushed, zip_pushed}
use Rattle.gs_node_run.proofs.asking.ask_inlets.Goals as goal

pub loop-number-preserved : goal.loop-number-preserved
loop-number-preserved g c =
    let before = c.loop-number.invariant in
    let got = c.in-Ok-inlet.ensures in
    let inside = c.loop-number-test.true in
    let items = c.push_reserved.ensures.items in
    let more = length_pushed _ _ _ items in
    let count = before.count in
    let out = before.inlets_out in
    let lent = got.lent in
    let later = before.faults in
    let next = got.never_falls in
    record {
      asked = asked_more _ _ _ c.args.numbers.now c.loop-number.number-index 0 inside before.asked got.asked;
      count = omega (arith, more, count);
      fresh = all_pushed IsFresh g.P.In.Inlet.tale _ _ _ items before.fresh got.fresh;
      holds = zip_pushed (Holds (g.P.Ports.held c.args.ports.now)) g.P.In.Inlet.tale c.args.numbers.now c.loop-number.number-index 0 _ _ _ inside items before.holds (search rules);
      inlets_out = omega (arith, more, out, lent);
      outlets_out = got.outlets ∙ before.outlets_out;
      doors_out = got.doors ∙ before.doors_out;
      back = got.back ∙ before.back;
      held = got.held ∙ before.held;
      faults = omega (arith, later, next);
      room = search rules;
    }
