use Rattle.std.proofs.Common.{◌∙◌, ap, arith, length, List, ℕ}
use Rattle.gs_world.proofs.Reading.{clocks_count, clocks_shown}
use Rattle.gs_world.proofs.world.World.write_clocks.Goals as goal

pub copy_from_slice-requires : goal.copy_from_slice-requires
copy_from_slice-requires c =
    let count = clocks_count c.self.inside c.args.self.now c.self.invariant c.self.view_is in
    let read = ap (λ (xs : List ℕ). length xs) c.deref.ensures.value in
    let places = c.requires in
    omega (arith, count, read, places)

pub returns : goal.returns
returns c =
    c.copy_from_slice.ensures.after ∙ c.deref.ensures.value
    ∙ clocks_shown c.self.inside c.args.self.now c.self.invariant c.self.view_is
