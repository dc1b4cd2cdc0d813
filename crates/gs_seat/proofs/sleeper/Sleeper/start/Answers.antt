use Rattle.std.proofs.Common.{◌≡◌, ◌∙◌, ap, sym, refl, rules, replicate, length}
use Rattle.std.proofs.lemmas.Simd.{splat_is_map}
use Rattle.std.proofs.lemmas.List.{length-map}
use Rattle.gs_units.specs.declared.params.NodeParams.{NodeParams}
use Rattle.gs_core.specs.Node.{started}
use Rattle.gs_core.specs.State.{State}
use Rattle.gs_run.specs.Net.{link_of, neighbours, params_of}
use Rattle.gs_run.specs.Nets.{net_of}
use Rattle.gs_run.proofs.PlanNumbers.{told_is}
use Rattle.gs_calendar.specs.Course.{course_of}
use Rattle.gs_seat.proofs.Starting.{starts_asleep}
use Rattle.gs_seat.proofs.sleeper.Sleeper.start.Goals as goal

pub returns : goal.returns
returns c =
    let net = net_of c.args.plan.now in
    let v = c.args.v in
    let told : c.in_ok-params.params ≡ params_of net v = c.in_ok-params.ensures.value ∙ sym (told_is c.args.plan.now v) in
    let zeros : c.in_ok-heard.heard.items ≡ replicate (length c.as_slice.result.now) 0 = search rules in
    let count : length (neighbours net v) ≡ length c.as_slice.result.now =
    sym (length-map (neighbours net v) (link_of net v))
    ∙ ap (λ (p : NodeParams). length p.links) (sym told)
    ∙ ap (λ (xs : _). length xs) (sym c.as_slice.ensures) in
    starts_asleep net (course_of c.args.script.now) v _ c.requires.node (record {
      told = ap (λ (s : State). s.params) c.in_ok-core.ensures ∙ told;
      node = ap (λ (s : State). s.node) c.in_ok-core.ensures ∙ ap (λ (p : NodeParams). started p 0 0) told;
      heard = zeros ∙ splat_is_map (neighbours net v) (length c.as_slice.result.now) 0 count;
      ticked = refl;
      reading = refl;
      at = refl;
      inc = c.inc_run.ensures.value;
      gap = c.gap_run.ensures.value;
    })
