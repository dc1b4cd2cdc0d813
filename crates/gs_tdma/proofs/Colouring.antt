-- The colours of some nodes, and of one node more.
use Rattle.std.proofs.Common.{◌≡◌, ◌≢◌, ℕ, ◌+◌, ◌<◌, ◌≤◌, ◌⊎◌, inl, inr, arith, ap, sym, ◌∙◌, List, [], ◌∷◌, ◌++◌, length, length-append, slice_index, get_or, subst}
use Rattle.std.proofs.Math.Seq.{get_or-append_seam}
use Rattle.std.proofs.lemmas.Bool.{cases_lt}
use Rattle.std.proofs.lemmas.List.{get_or_append_left}
use Rattle.gs_topo.specs.Graph.{Graph}
use Rattle.gs_topo.specs.Walks.{distance_of}
use Rattle.gs_tdma.specs.inside.Kept.{AreLow, IsFree, IsTaken}
use Rattle.gs_tdma.specs.Slots.{AreColours}

-- what was there stays
early : (old new : List ℕ) (colour u : ℕ) → new ≡ old ++ colour ∷ [] → u < length old → slice_index new u ≡ slice_index old u
early old new colour u is h = ap (λ (l : List ℕ). slice_index l u) is ∙ get_or_append_left old (colour ∷ []) 0 u h

-- and the new one comes last
last : (old new : List ℕ) (colour v : ℕ) → new ≡ old ++ colour ∷ [] → length old ≡ v → slice_index new v ≡ colour
last old new colour v is count =
    ap (λ (l : List ℕ). slice_index l v) is
    ∙ ap (λ (n : ℕ). slice_index (old ++ colour ∷ []) n) (sym count)
    ∙ get_or-append_seam old colour [] 0

long : (old new : List ℕ) (colour : ℕ) → new ≡ old ++ colour ∷ [] → length new ≡ length old + 1
long old new colour is = ap (λ (l : List ℕ). length l) is ∙ length-append old (colour ∷ [])

pub low_more : (old new : List ℕ) (v colour : ℕ) → length old ≡ v → AreLow old → colour ≤ v → new ≡ old ++ colour ∷ [] → AreLow new
low_more old new v colour count low most is u h =
    let n = long old new colour is in
    elim (cases_lt u v) [
      | inl before ↦
          let same = early old new colour u is (omega (arith, before, count)) in
          let small = low u (omega (arith, before, count)) in
          omega (arith, same, small)
      | inr after ↦
          let here : v ≡ u = omega (arith, after, h, n, count) in
          let same : slice_index new u ≡ colour = ap (λ (x : ℕ). slice_index new x) (sym here) ∙ last old new colour v is count in
          omega (arith, same, most, here)
    ]

-- the colour of the next node is free, and each smaller one is taken
pub colours_more : (g : Graph) (reach : ℕ) (old new : List ℕ) (v colour : ℕ) → AreColours g reach old v → IsFree g reach old v colour
    → ((c : ℕ) → c < colour → IsTaken g reach old v c) → new ≡ old ++ colour ∷ [] → AreColours g reach new (v + 1)
colours_more g reach old new v colour are free taken is =
    let count : length old ≡ v = are.count in
    let n = long old new colour is in
    let same : (u : ℕ) → u < v → slice_index new u ≡ slice_index old u = λ u h. early old new colour u is (omega (arith, h, count)) in
    let here : slice_index new v ≡ colour = last old new colour v is count in
    record {
      count = omega (arith, n, count);
      other = λ u w up hw near. elim (cases_lt w v) [
        | inl before ↦ λ e. are.other u w up before near (sym (same u (omega (arith, up, before))) ∙ e ∙ same w before)
        | inr after ↦
            let at : w ≡ v = omega (arith, after, hw) in
            let close : distance_of g u v ≤ reach = let P : ℕ → Type 0 = λ x. distance_of g u x ≤ reach in subst P at near in
            λ e. free u (omega (arith, up, at)) close (sym (same u (omega (arith, up, at))) ∙ e ∙ ap (λ (x : ℕ). slice_index new x) at ∙ here)
      ];
      least = λ w c hw small. elim (cases_lt w v) [
        | inl before ↦
            let s = same w before in
            let found = are.least w c before (omega (arith, s, small)) in
            (found.0, found.1, found.2, same found.0 (let lt = found.1 in omega (arith, lt, before)) ∙ found.3)
        | inr after ↦
            let at : v ≡ w = omega (arith, after, hw) in
            let s : slice_index new w ≡ colour = ap (λ (x : ℕ). slice_index new x) (sym at) ∙ here in
            let found = taken c (omega (arith, s, small)) in
            let up = found.1 in
            let P : ℕ → Type 0 = λ x. distance_of g found.0 x ≤ reach in
            (found.0, omega (arith, up, at), subst P at found.2, same found.0 up ∙ found.3)
      ];
    }
