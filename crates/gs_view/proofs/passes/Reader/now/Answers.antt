use Rattle.std.proofs.Common.{◌≡◌, ◌∷◌, ◌∙◌, ℕ, List, ap}
use Rattle.gs_units.specs.declared.rate.Rate.{Rate}
use Rattle.gs_view.proofs.Beginnings.{answers, joined_below}
use Rattle.gs_view.specs.Answers.{answer_at}
use Rattle.gs_view.specs.Lists.{joined, or_none}
use Rattle.gs_view.specs.Passes.{Pass}
use Rattle.gs_view.specs.declared.snaps.Snap.{Snap}
use Rattle.gs_view.proofs.passes.Reader.now.Goals as goal

pub returns-clause-answer : goal.returns-clause-answer
returns-clause-answer c =
    let reader = c.self.inside in
    let snaps : List Snap = joined (or_none reader.late) (or_none reader.own) in
    let last = (joined_below reader.late (or_none reader.own) c.self.invariant.1).0 ∙ c.self.invariant.0.1 in
    let rate : reader.rate ≡ c.args.self.now.rate = ap (λ (p : Pass). p.rate) c.self.view_is ∙ c.look.ensures.same.0 in
    let answer : reader.answer ≡ c.args.self.now.answer = ap (λ (p : Pass). p.answer) c.self.view_is ∙ c.look.ensures.same.1 in
    c.max-self-inside.ensures
    ∙ (answers reader.rate reader.first c.last_or-snap.result snaps reader.shown.last reader.answer c.args.hw c.value.result last c.last_or-snap.ensures c.value.ensures
    ∙ (ap (λ (r : Rate). answer_at r (reader.first ∷ snaps) reader.answer c.args.hw) rate
    ∙ ap (λ (n : ℕ). answer_at c.args.self.now.rate (reader.first ∷ snaps) n c.args.hw) answer))
