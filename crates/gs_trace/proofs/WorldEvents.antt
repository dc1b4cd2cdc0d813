-- The events of a world are read as they are written.
use Rattle.std.proofs.Common.{◌≡◌, ℕ, suc, ◌+◌, ◌*◌, ◌^◌, ◌<◌, ◌≤◌, eqb, ◌⊎◌, inl, inr, List, [], ◌∷◌, ◌++◌, length, take, drop, Some, None, refl, sym, ap, ◌∙◌, subst, arith}
use Rattle.std.proofs.Math.Seq.{take-add}
use Rattle.std.proofs.lemmas.Bool.{eqb-true}
use Rattle.std.proofs.lemmas.List.Elements.{All-from_recursion, recursion_from_All}
use Rattle.byteorder.specs.Endian.{big_bytes}
use Rattle.gs_beacon.specs.Numbers.{AreBytes, number_at}
use Rattle.gs_beacon.proofs.Digits.{number_at-behind, number_at-lt, big_bytes-number_at}
use Rattle.gs_core.specs.declared.event.Event.{Event}
use Rattle.gs_core.specs.declared.event.Event.TheVariants.{Quantum, Tick, Deliver}
use Rattle.gs_trace.specs.Numbers.{spelled, numbers_at}
use Rattle.gs_trace.specs.Worlds.{event_bytes, event_of, Fits, size_of, world_format}
use Rattle.gs_trace.proofs.Choices.{chosen, same_size}
use Rattle.gs_trace.proofs.Spelled.{AreBytes-drop, length-numbers, length-spelled, numbers-small, numbers-spelled, spelled-numbers}
use Rattle.gs_trace.proofs.EventsInTurn.{IsFormat, IsWhole}

-- the three kinds
world_kinds : (nodes kind n : ℕ) → size_of nodes kind ≡ Some n
    → ((kind ≡ 1) × (n ≡ 1 + 4 * nodes)) ⊎ (((kind ≡ 2) × (n ≡ 5)) ⊎ ((kind ≡ 3) × (n ≡ 17)))
world_kinds nodes kind n e = elim (chosen (eqb kind 1) (Some (1 + 4 * nodes)) _ (Some n) e) [
  | inl quantum ↦ inl (eqb-true kind 1 quantum.0, sym (same_size _ _ quantum.1))
  | inr no_quantum ↦ elim (chosen (eqb kind 2) (Some 5) _ (Some n) no_quantum.1) [
    | inl tick ↦ inr (inl (eqb-true kind 2 tick.0, sym (same_size _ _ tick.1)))
    | inr no_tick ↦ elim (chosen (eqb kind 3) (Some 17) None (Some n) no_tick.1) [
      | inl delivery ↦ inr (inr (eqb-true kind 3 delivery.0, sym (same_size _ _ delivery.1)))
      | inr none ↦ absurd (let e : None ≡ Some n = none.1 in cc)
    ]
  ]
]

-- ---- what was written is read

world-kind : (nodes : ℕ) (e : Event) → Fits nodes e → (b : ℕ) × (bs : List ℕ) × (event_bytes e ≡ b ∷ bs) × (size_of nodes b ≡ Some (length (b ∷ bs)))
world-kind nodes (Quantum incs) fits =
    let long = length-spelled 4 incs in
    let count = fits.0 in
    (1, spelled 4 incs, refl, ap (λ (n : ℕ). Some n) (omega (arith, long, count)))
world-kind nodes (Tick v) fits = (2, big_bytes 4 v, refl, refl)
world-kind nodes (Deliver from to seq) fits = (3, big_bytes 4 from ++ big_bytes 4 to ++ big_bytes 8 seq, refl, refl)

world-back : (nodes : ℕ) (e : Event) (rest : List ℕ) → Fits nodes e → (world_format nodes).event (event_bytes e ++ rest) ≡ e
world-back nodes (Quantum incs) rest fits =
    ap (λ (k : ℕ). Quantum (numbers_at 4 k (spelled 4 incs ++ rest))) (sym fits.0)
    ∙ ap (λ (xs : List ℕ). Quantum xs) (numbers-spelled 4 incs rest (recursion_from_All (λ h. h < 2 ^ 32) incs fits.1))
world-back nodes (Tick v) rest fits = ap (λ (x : ℕ). Tick x) (number_at-behind 4 v 1 (2 ∷ []) rest refl fits)
world-back nodes (Deliver from to seq) rest fits =
    let a = number_at-behind 4 from 1 (3 ∷ []) (big_bytes 4 to ++ (big_bytes 8 seq ++ rest)) refl fits.0 in
    let b = number_at-behind 4 to 5 (3 ∷ big_bytes 4 from) (big_bytes 8 seq ++ rest) refl fits.1 in
    let c = number_at-behind 8 seq 9 (3 ∷ (big_bytes 4 from ++ big_bytes 4 to)) rest refl fits.2 in
    λ i. Deliver (a i) (b i) (c i)

-- ---- what is read is written so

world-fits : (nodes b : ℕ) (bs : List ℕ) (n : ℕ) → AreBytes (b ∷ bs) → IsWhole (world_format nodes) b bs n → Fits nodes (event_of nodes b (b ∷ bs))
world-fits nodes b bs n bytes w = elim (world_kinds nodes b n w.size) [
  | inl quantum ↦ subst (λ (k : ℕ). Fits nodes (event_of nodes k (b ∷ bs))) (sym quantum.0)
      (length-numbers 4 nodes bs, All-from_recursion (λ h. h < 2 ^ 32) (numbers_at 4 nodes bs) (numbers-small 4 nodes bs (AreBytes-drop 1 (b ∷ bs) bytes)))
  | inr other ↦ elim other [
    | inl tick ↦ subst (λ (k : ℕ). Fits nodes (event_of nodes k (b ∷ bs))) (sym tick.0) (number_at-lt 1 4 (b ∷ bs) bytes)
    | inr delivery ↦ subst (λ (k : ℕ). Fits nodes (event_of nodes k (b ∷ bs))) (sym delivery.0)
        (number_at-lt 1 4 (b ∷ bs) bytes, number_at-lt 5 4 (b ∷ bs) bytes, number_at-lt 9 8 (b ∷ bs) bytes)
  ]
]

-- the first sixteen bytes in three parts
three_parts : (bs : List ℕ) → take 16 bs ≡ (take 4 bs ++ take 4 (drop 4 bs)) ++ take 8 (drop 8 bs)
three_parts bs = take-add 8 8 bs ∙ ap (λ (xs : List ℕ). xs ++ take 8 (drop 8 bs)) (take-add 4 4 bs)

world-spelled : (nodes b : ℕ) (bs : List ℕ) (n : ℕ) → AreBytes (b ∷ bs) → IsWhole (world_format nodes) b bs n → event_bytes (event_of nodes b (b ∷ bs)) ≡ take n (b ∷ bs)
world-spelled nodes b bs n bytes w =
    let inside = w.inside in
    elim (world_kinds nodes b n w.size) [
      | inl quantum ↦
          let count = quantum.1 in
          let is : event_bytes (event_of nodes b (b ∷ bs)) ≡ 1 ∷ spelled 4 (numbers_at 4 nodes bs) = ap (λ (k : ℕ). event_bytes (event_of nodes k (b ∷ bs))) quantum.0 in
          let whole = spelled-numbers 4 nodes bs (AreBytes-drop 1 (b ∷ bs) bytes) (omega (arith, inside, count)) in
          let more : n ≡ suc (4 * nodes) = omega (arith, count) in
          let front : take n (b ∷ bs) ≡ b ∷ take (4 * nodes) bs = ap (λ (k : ℕ). take k (b ∷ bs)) more in
          is ∙ ap (λ (xs : List ℕ). 1 ∷ xs) whole ∙ ap (λ (k : ℕ). k ∷ take (4 * nodes) bs) (sym quantum.0) ∙ sym front
      | inr other ↦ elim other [
        | inl tick ↦
            let count = tick.1 in
            let is : event_bytes (event_of nodes b (b ∷ bs)) ≡ 2 ∷ big_bytes 4 (number_at 1 4 (b ∷ bs)) = ap (λ (k : ℕ). event_bytes (event_of nodes k (b ∷ bs))) tick.0 in
            let a : big_bytes 4 (number_at 1 4 (b ∷ bs)) ≡ take 4 bs = big_bytes-number_at 1 4 (b ∷ bs) bytes (omega (arith, inside, count)) in
            is ∙ ap (λ (xs : List ℕ). 2 ∷ xs) a ∙ ap (λ (k : ℕ). k ∷ take 4 bs) (sym tick.0) ∙ ap (λ (k : ℕ). take k (b ∷ bs)) (sym count)
        | inr delivery ↦
            let count = delivery.1 in
            let from : ℕ = number_at 1 4 (b ∷ bs) in
            let to : ℕ = number_at 5 4 (b ∷ bs) in
            let seq : ℕ = number_at 9 8 (b ∷ bs) in
            let is : event_bytes (event_of nodes b (b ∷ bs)) ≡ 3 ∷ ((big_bytes 4 from ++ big_bytes 4 to) ++ big_bytes 8 seq) = ap (λ (k : ℕ). event_bytes (event_of nodes k (b ∷ bs))) delivery.0 in
            let a : big_bytes 4 from ≡ take 4 bs = big_bytes-number_at 1 4 (b ∷ bs) bytes (omega (arith, inside, count)) in
            let t : big_bytes 4 to ≡ take 4 (drop 4 bs) = big_bytes-number_at 5 4 (b ∷ bs) bytes (omega (arith, inside, count)) in
            let s : big_bytes 8 seq ≡ take 8 (drop 8 bs) = big_bytes-number_at 9 8 (b ∷ bs) bytes (omega (arith, inside, count)) in
            let joined : 3 ∷ ((big_bytes 4 from ++ big_bytes 4 to) ++ big_bytes 8 seq) ≡ 3 ∷ ((take 4 bs ++ take 4 (drop 4 bs)) ++ take 8 (drop 8 bs)) = λ i. 3 ∷ ((a i ++ t i) ++ s i) in
            is ∙ joined ∙ ap (λ (xs : List ℕ). 3 ∷ xs) (sym (three_parts bs)) ∙ ap (λ (k : ℕ). k ∷ take 16 bs) (sym delivery.0) ∙ ap (λ (k : ℕ). take k (b ∷ bs)) (sym count)
      ]
    ]

some-size : (nodes b n : ℕ) → size_of nodes b ≡ Some n → 1 ≤ n
some-size nodes b n e = elim (world_kinds nodes b n e) [
  | inl quantum ↦ let count = quantum.1 in omega (arith, count)
  | inr other ↦ elim other [
    | inl tick ↦ let count = tick.1 in omega (arith, count)
    | inr delivery ↦ let count = delivery.1 in omega (arith, count)
  ]
]

pub world_is_format : (nodes : ℕ) → IsFormat (world_format nodes) event_bytes (Fits nodes)
world_is_format nodes = record {
  kind = world-kind nodes;
  back = world-back nodes;
  allowed = λ e rest fits. refl;
  some = some-size nodes;
  fits = world-fits nodes;
  spelled = world-spelled nodes;
}
