use Rattle.std.proofs.Common.{◌≡◌, ◌∙◌, refl, map, rules}
use Rattle.std.proofs.lemmas.Simd.{splat_is_map}
use Rattle.gs_core.proofs.node.Core.start.Goals as goal

pub returns : goal.returns
returns c =
    let entries : c.in_ok-slots.slots ≡ map (λ link. record { seq = 0; value = c.args.l0; at = c.args.hw }) c.args.params.links =
    c.in_ok-slots.ensures ∙ splat_is_map c.args.params.links _ (record { seq = 0; value = c.args.l0; at = c.args.hw }) (search rules) in
    rw entries refl
