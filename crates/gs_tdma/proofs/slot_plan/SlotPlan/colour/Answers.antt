use Rattle.std.proofs.Common.{◌≡◌, ◌<◌, length, slice_index, subst, sym}
use Rattle.std.proofs.lemmas.List.{get_or_read}
use Rattle.gs_tdma.specs.Slots.{Slots, colour_of}
use Rattle.gs_tdma.proofs.Guarding.{below_count}
use Rattle.gs_tdma.proofs.slot_plan.SlotPlan.colour.Goals as goal

pub returns-clause-below : goal.returns-clause-below
returns-clause-below c =
    let s = c.args.self.now in
    let v = c.args.v in
    let inside = c.self.inside.colours.items in
    let h : v < length inside = subst (λ (x : Slots). v < length x.colours) (sym c.self.view_is) c.requires in
    let here : c.index.result.now ≡ slice_index inside v = get_or_read inside _ _ h c.index.ensures 0 in
    let is : c.index.result.now ≡ slice_index s.colours v =
    subst (λ (x : Slots). c.index.result.now ≡ colour_of x v) c.self.view_is here in
    rw is (below_count s.colours v c.requires)
