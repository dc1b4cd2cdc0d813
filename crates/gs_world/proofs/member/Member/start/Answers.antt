use Rattle.std.proofs.Common.{◌≡◌, ◌∙◌, ap, sym, rules, replicate, map, length}
use Rattle.std.proofs.lemmas.Simd.{splat_is_map}
use Rattle.std.proofs.lemmas.List.{length-map}
use Rattle.gs_units.specs.declared.params.NodeParams.{NodeParams}
use Rattle.gs_core.specs.Node.{started}
use Rattle.gs_core.specs.State.{State}
use Rattle.gs_run.specs.Net.{link_of, neighbours, params_of}
use Rattle.gs_run.specs.Nets.{net_of}
use Rattle.gs_run.proofs.PlanNumbers.{told_is}
use Rattle.gs_world.proofs.Seating.{same_member}
use Rattle.gs_world.proofs.member.Member.start.Goals as goal

pub returns-clause-member : goal.returns-clause-member
returns-clause-member c =
    let net = net_of c.args.plan.now in
    let links = c.as_slice-count.result.now in
    let told : c.in_ok-params.params ≡ params_of net c.args.v =
    c.in_ok-params.ensures.value ∙ sym (told_is c.args.plan.now c.args.v) in
    let core : c.in_ok-core.core.node ≡ started c.in_ok-params.params c.args.hw c.args.l0 =
    ap (λ (s : State). s.node) c.in_ok-core.ensures in
    let node : c.in_ok-core.core.node ≡ started (params_of net c.args.v) c.args.hw c.args.l0 =
    core ∙ ap (λ (p : NodeParams). started p c.args.hw c.args.l0) told in
    let zeros : c.in_ok-heard.heard.items ≡ replicate (length links) 0 = search rules in
    let count : length (neighbours net c.args.v) ≡ length links =
    sym (length-map (neighbours net c.args.v) (link_of net c.args.v))
    ∙ ap (λ (p : NodeParams). length p.links) (sym told)
    ∙ ap (λ (xs : _). length xs) (sym c.as_slice-count.ensures) in
    let heard : c.in_ok-heard.heard.items ≡ map (λ x. 0) (neighbours net c.args.v) =
    zeros ∙ splat_is_map (neighbours net c.args.v) (length links) 0 count in
    same_member c.args.hw 0 node c.new.ensures.items heard
