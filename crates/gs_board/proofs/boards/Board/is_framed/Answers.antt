use Rattle.std.proofs.Common.{rules, ◌≡◌, ◌∙◌, ap, sym}
use Rattle.gs_units.specs.Equality.{same_params, same_params-Decides}
use Rattle.gs_units.specs.declared.params.NodeParams.{NodeParams}
use Rattle.gs_core.specs.State.{State}
use Rattle.gs_board.proofs.boards.Board.is_framed.Goals as goal

pub returns-then-eq : goal.returns-then-eq
returns-then-eq g c =
    let is : c.eq.result ≡ same_params c.args.seat.now.params c.args.self.now.kept.core.params = c.eq.ensures
    ∙ (ap (λ (p : NodeParams). same_params p c.params-2.result.now) c.params.ensures ∙ ap (λ (p : NodeParams). same_params c.args.seat.now.params p) (c.params-2.ensures ∙ ap (λ (s : State). s.params) c.core.ensures)) in
    let same : c.args.seat.now.params ≡ c.args.self.now.kept.core.params = (same_params-Decides c.args.seat.now.params c.args.self.now.kept.core.params).0 (sym is ∙ c.if-eq.true) in
    (λ t. record { params = same; begun = search rules }, λ f. let begun = f.begun in search rules)

pub returns-else-eq : goal.returns-else-eq
returns-else-eq g c =
    let is : c.eq.result ≡ same_params c.args.seat.now.params c.args.self.now.kept.core.params = c.eq.ensures
    ∙ (ap (λ (p : NodeParams). same_params p c.params-2.result.now) c.params.ensures ∙ ap (λ (p : NodeParams). same_params c.args.seat.now.params p) (c.params-2.ensures ∙ ap (λ (s : State). s.params) c.core.ensures)) in
    (λ t. absurd (let no = c.if-eq.false in cc), λ f. is ∙ (same_params-Decides c.args.seat.now.params c.args.self.now.kept.core.params).1 f.params)
