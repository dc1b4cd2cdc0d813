-- The events of a node are read as they are written.
use Rattle.std.proofs.Common.{◌≡◌, ℕ, ◌<◌, ◌≤◌, false, eqb, ◌⊎◌, inl, inr, List, [], ◌∷◌, ◌++◌, length, take, drop, Some, None, refl, sym, ap, ◌∙◌, subst, arith}
use Rattle.std.specs.Prelude.{is_some}
use Rattle.std.proofs.Math.Seq.{take-add}
use Rattle.std.proofs.lemmas.Bool.{eqb-true}
use Rattle.std.proofs.lemmas.List.{length-append, take_at}
use Rattle.std.proofs.lemmas.List.Elements.{All-take}
use Rattle.byteorder.specs.Endian.{big_bytes}
use Rattle.gs_beacon.specs.Beacons.{FitsFields, Spells, beacon_at, bytes_of, fault_of}
use Rattle.gs_beacon.specs.Numbers.{AreBytes, number_at}
use Rattle.gs_beacon.specs.declared.beacon.Beacon.{Beacon}
use Rattle.gs_beacon.proofs.Digits.{number_at-behind, number_at-lt, big_bytes-number_at}
use Rattle.gs_beacon.proofs.Faults.{none-spelled, spells-read}
use Rattle.gs_beacon.proofs.OneSpelling.{spelling-is_bytes}
use Rattle.gs_beacon.proofs.Written.{spells-written}
use Rattle.gs_core.specs.declared.event.NodeEvent.{NodeEvent}
use Rattle.gs_core.specs.declared.event.NodeEvent.TheVariants.{Tick, Deliver}
use Rattle.gs_trace.specs.Nodes.{beacon_part, event_bytes, event_of, Fits, is_refused, node_format, size_of}
use Rattle.gs_trace.proofs.Choices.{chosen, none_some, same_size}
use Rattle.gs_trace.proofs.EventsInTurn.{IsFormat, IsWhole}
use Rattle.gs_trace.proofs.Spelled.{AreBytes-drop}

-- the two kinds
node_kinds : (kind n : ℕ) → size_of kind ≡ Some n → ((kind ≡ 1) × (n ≡ 9)) ⊎ ((kind ≡ 2) × (n ≡ 49))
node_kinds kind n e = elim (chosen (eqb kind 1) (Some 9) _ (Some n) e) [
  | inl tick ↦ inl (eqb-true kind 1 tick.0, sym (same_size _ _ tick.1))
  | inr no_tick ↦ elim (chosen (eqb kind 2) (Some 49) None (Some n) no_tick.1) [
    | inl delivery ↦ inr (eqb-true kind 2 delivery.0, sym (same_size _ _ delivery.1))
    | inr none ↦ absurd (let e : None ≡ Some n = none.1 in cc)
  ]
]

-- ---- what was written is read

node-kind : (e : NodeEvent) → Fits e → (b : ℕ) × (bs : List ℕ) × (event_bytes e ≡ b ∷ bs) × (size_of b ≡ Some (length (b ∷ bs)))
node-kind (Tick hw) fits = (1, big_bytes 8 hw, refl, refl)
node-kind (Deliver hw b) fits =
    let spelled : Spells b (bytes_of b) = spells-written b fits.1 fits.2 in
    let count = spelled.count in
    let long = length-append (big_bytes 8 hw) (bytes_of b) in
    (2, big_bytes 8 hw ++ bytes_of b, refl, ap (λ (n : ℕ). Some n) (omega (arith, long, count)))

-- the beacon stands where it was written
part-back : (hw : ℕ) (b : Beacon) (rest : List ℕ) → Spells b (bytes_of b) → beacon_part (event_bytes (Deliver hw b) ++ rest) ≡ bytes_of b
part-back hw b rest spelled = take_at (bytes_of b) rest 40 spelled.count

-- the fields of a beacon's bytes name it
fields-back : (b : Beacon) → Spells b (bytes_of b) → beacon_at (bytes_of b) ≡ b
fields-back b s =
    let cluster = s.cluster in
    let sender = s.sender in
    let seq = s.seq in
    let l = s.l in
    let m = s.m in
    λ i. record { cluster = cluster i; sender = sender i; seq = seq i; l = l i; m = m i }

node-back : (e : NodeEvent) (rest : List ℕ) → Fits e → node_format.event (event_bytes e ++ rest) ≡ e
node-back (Tick hw) rest fits = ap (λ (x : ℕ). Tick x) (number_at-behind 8 hw 1 (1 ∷ []) rest refl fits)
node-back (Deliver hw b) rest fits =
    let spelled : Spells b (bytes_of b) = spells-written b fits.1 fits.2 in
    let reading = number_at-behind 8 hw 1 (2 ∷ []) (bytes_of b ++ rest) refl fits.0 in
    let beacon : beacon_at (beacon_part (event_bytes (Deliver hw b) ++ rest)) ≡ b = ap beacon_at (part-back hw b rest spelled) ∙ fields-back b spelled in
    λ i. Deliver (reading i) (beacon i)

node-allowed : (e : NodeEvent) (rest : List ℕ) → Fits e → node_format.refused (event_bytes e ++ rest) ≡ false
node-allowed (Tick hw) rest fits = refl
node-allowed (Deliver hw b) rest fits =
    let spelled : Spells b (bytes_of b) = spells-written b fits.1 fits.2 in
    ap (λ (xs : List ℕ). is_some (fault_of xs)) (part-back hw b rest spelled) ∙ ap is_some (none-spelled b (bytes_of b) spelled)

some-size : (b n : ℕ) → size_of b ≡ Some n → 1 ≤ n
some-size b n e = elim (node_kinds b n e) [
  | inl tick ↦ let count = tick.1 in omega (arith, count)
  | inr delivery ↦ let count = delivery.1 in omega (arith, count)
]

-- ---- what is read is written so

are_part : (bytes : List ℕ) → AreBytes bytes → AreBytes (beacon_part bytes)
are_part bytes are = All-take (λ x. x < 256) 40 (drop 9 bytes) (AreBytes-drop 9 bytes are)

-- the beacon of a delivery that is not refused is spelled
delivery-spells : (b : ℕ) (bs : List ℕ) → b ≡ 2 → is_refused b (b ∷ bs) ≡ false → Spells (beacon_at (beacon_part (b ∷ bs))) (beacon_part (b ∷ bs))
delivery-spells b bs two allowed =
    let here : is_some (fault_of (beacon_part (b ∷ bs))) ≡ false = ap (λ (k : ℕ). is_refused k (b ∷ bs)) (sym two) ∙ allowed in
    spells-read (beacon_part (b ∷ bs)) (none_some _ here)

node-fits : (b : ℕ) (bs : List ℕ) (n : ℕ) → AreBytes (b ∷ bs) → IsWhole node_format b bs n → Fits (event_of b (b ∷ bs))
node-fits b bs n are w = elim (node_kinds b n w.size) [
  | inl tick ↦ subst (λ (k : ℕ). Fits (event_of k (b ∷ bs))) (sym tick.0) (number_at-lt 1 8 (b ∷ bs) are)
  | inr delivery ↦
      let part : List ℕ = beacon_part (b ∷ bs) in
      let fields : FitsFields (beacon_at part) = record {
        cluster = number_at-lt 4 4 part (are_part (b ∷ bs) are);
        sender = number_at-lt 8 4 part (are_part (b ∷ bs) are);
        seq = number_at-lt 16 8 part (are_part (b ∷ bs) are);
      } in
      subst (λ (k : ℕ). Fits (event_of k (b ∷ bs))) (sym delivery.0)
      (number_at-lt 1 8 (b ∷ bs) are, (delivery-spells b bs delivery.0 w.allowed).valid, fields)
]

node-spelled : (b : ℕ) (bs : List ℕ) (n : ℕ) → AreBytes (b ∷ bs) → IsWhole node_format b bs n → event_bytes (event_of b (b ∷ bs)) ≡ take n (b ∷ bs)
node-spelled b bs n are w =
    let inside = w.inside in
    elim (node_kinds b n w.size) [
      | inl tick ↦
          let count = tick.1 in
          let is : event_bytes (event_of b (b ∷ bs)) ≡ 1 ∷ big_bytes 8 (number_at 1 8 (b ∷ bs)) = ap (λ (k : ℕ). event_bytes (event_of k (b ∷ bs))) tick.0 in
          let a : big_bytes 8 (number_at 1 8 (b ∷ bs)) ≡ take 8 bs = big_bytes-number_at 1 8 (b ∷ bs) are (omega (arith, inside, count)) in
          is ∙ ap (λ (xs : List ℕ). 1 ∷ xs) a ∙ ap (λ (k : ℕ). k ∷ take 8 bs) (sym tick.0) ∙ ap (λ (k : ℕ). take k (b ∷ bs)) (sym count)
      | inr delivery ↦
          let count = delivery.1 in
          let part : List ℕ = beacon_part (b ∷ bs) in
          let x : Beacon = beacon_at part in
          let hw : ℕ = number_at 1 8 (b ∷ bs) in
          let is : event_bytes (event_of b (b ∷ bs)) ≡ 2 ∷ (big_bytes 8 hw ++ bytes_of x) = ap (λ (k : ℕ). event_bytes (event_of k (b ∷ bs))) delivery.0 in
          let reading : big_bytes 8 hw ≡ take 8 bs = big_bytes-number_at 1 8 (b ∷ bs) are (omega (arith, inside, count)) in
          let beacon : bytes_of x ≡ take 40 (drop 8 bs) = sym (spelling-is_bytes x part (are_part (b ∷ bs) are) (delivery-spells b bs delivery.0 w.allowed)) in
          let joined : 2 ∷ (big_bytes 8 hw ++ bytes_of x) ≡ 2 ∷ (take 8 bs ++ take 40 (drop 8 bs)) = λ i. 2 ∷ (reading i ++ beacon i) in
          is ∙ joined ∙ ap (λ (xs : List ℕ). 2 ∷ xs) (sym (take-add 8 40 bs)) ∙ ap (λ (k : ℕ). k ∷ take 48 bs) (sym delivery.0) ∙ ap (λ (k : ℕ). take k (b ∷ bs)) (sym count)
    ]

pub node_is_format : IsFormat node_format event_bytes Fits
node_is_format = record {
  kind = node-kind;
  back = node-back;
  allowed = node-allowed;
  some = some-size;
  fits = node-fits;
  spelled = node-spelled;
}
