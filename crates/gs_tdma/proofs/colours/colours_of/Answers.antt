use Rattle.std.proofs.Common.{◌≡◌, ◌∙◌, ◌++◌, ◌∷◌, ◌<◌, ℕ, List, [], rules, subst}
use Rattle.gs_tdma.proofs.Colouring.{colours_more, low_more}
use Rattle.gs_tdma.specs.inside.Kept.{IsFree, IsTaken}
use Rattle.gs_tdma.proofs.colours.colours_of.Goals as goal

pub loop-v-preserved : goal.loop-v-preserved
loop-v-preserved c =
    let g = c.args.topo.now in
    let reach = c.args.reach in
    let v = c.loop-v.v in
    let h = c.loop-v.invariant in
    let old = c.loop-v.colours.items in
    let colour = c.least_free-colour.result in
    let found = c.least_free-colour.ensures in
    let pushed : c.push.new.self.items ≡ old ++ colour ∷ [] = search rules in
    let free : IsFree g reach old v colour = subst (λ (l : List ℕ). IsFree g reach l v colour) c.deref.ensures.value found.free in
    let taken : (k : ℕ) → k < colour → IsTaken g reach old v k =
    subst (λ (l : List ℕ). (k : ℕ) → k < colour → IsTaken g reach l v k) c.deref.ensures.value found.least in
    record {
      colours = colours_more g reach old c.push.new.self.items v colour h.colours free taken pushed;
      low = low_more old c.push.new.self.items v colour h.colours.count h.low found.low pushed;
    }
