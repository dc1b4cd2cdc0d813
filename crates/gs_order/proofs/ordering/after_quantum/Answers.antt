use Rattle.std.proofs.Common.{◌≡◌, ◌∙◌, ap, length, map, rules}
use Rattle.std.proofs.lemmas.List.{with_items_is}
use Rattle.gs_order.specs.inside.UnderWay.{after_clocks}
use Rattle.gs_order.specs.Waits.{wait_of}
use Rattle.gs_order.proofs.Beginning.{done_mapped}
use Rattle.gs_order.proofs.ordering.after_quantum.Goals as goal

pub first_open-done-requires : goal.first_open-done-requires
first_open-done-requires c =
    let old = c.args.events.now in
    let long : length c.finish_open.new.events ≡ old.len = search rules in
    let written : c.deref.result.now ≡ c.finish_open.new.events =
    c.deref.ensures.value ∙ with_items_is old c.finish_open.new.events long in
    done_mapped (wait_of c.args.plan.now) c.args.t c.args.clocks.now old.items _ c.args.done c.requires.done
    (written ∙ c.finish_open.ensures ∙ ap (map (after_clocks (wait_of c.args.plan.now) c.args.t c.args.clocks.now)) c.deref_mut.ensures.value)
