use Rattle.std.proofs.Common.{◌≡◌, ◌<◌, ◌∷◌, List, Some, arith, length, ap, sym, subst}
use Rattle.gs_view.proofs.Beginnings.{joined_begins, joined_below}
use Rattle.gs_view.specs.Lists.{StartsWith, joined, or_none}
use Rattle.gs_view.specs.Passes.{Pass}
use Rattle.gs_view.specs.declared.snaps.Snap.{Snap}
use Rattle.gs_view.proofs.passes.Reader.learn.Goals.{in-Some-3, in-None-3}
use Rattle.gs_view.proofs.passes.Reader.learn.Goals as goal

pub returns-else-shown-self-clause-note : goal.returns-else-shown-self-clause-note
returns-else-shown-self-clause-note c =
    let handle = c.renewed-handle.result.0 in
    let own = or_none c.self.inside.own in
    let is : c.match-self-3.self.snaps ≡ c.note.inside.first ∷ joined handle own =
    elim c.match-self-3.branch [ in-Some-3 w ↦ ap (λ (p : Pass). p.snaps) w.self-is | in-None-3 w ↦ ap (λ (p : Pass). p.snaps) w.self-is ] in
    let begins = joined_begins c.note.inside.first c.note.inside.handle handle own c.renewed-handle.ensures.0 in
    subst (λ (xs : List Snap). StartsWith c.match-self-3.self.snaps xs) c.note.view_is
    (subst (λ (xs : List Snap). StartsWith xs (c.note.inside.first ∷ c.note.inside.handle)) (sym is) begins)

pub returns-else-shown-self-clause-no_fewer : goal.returns-else-shown-self-clause-no_fewer
returns-else-shown-self-clause-no_fewer c =
    let handle = c.renewed-handle.result.0 in
    let own = or_none c.self.inside.own in
    let is : c.match-self-3.self.snaps ≡ c.note.inside.first ∷ joined handle own =
    elim c.match-self-3.branch [ in-Some-3 w ↦ ap (λ (p : Pass). p.snaps) w.self-is | in-None-3 w ↦ ap (λ (p : Pass). p.snaps) w.self-is ] in
    let was : c.args.self.now.snaps ≡ c.self.inside.first ∷ joined (or_none c.self.inside.late) own = ap (λ (p : Pass). p.snaps) (sym c.self.view_is) in
    let before = (joined_below c.self.inside.late own c.self.invariant.1).1 in
    let below : length handle < length own = omega (arith, c.renewed-handle.ensures.1.0, c.self.invariant.0.0, c.if-shown-self.false) in
    let after = (joined_below (Some handle) own below).1 in
    omega (arith, ap length is, ap length was, before, after)
