-- Which beacon bytes spell, and which datagrams are wanted.
use Rattle.std.proofs.Common.{◌≡◌, ◌≢◌, ◌∙◌, inl, inr, ℕ, ◌≤◌, ◌&&◌, ◌==◌, not, if◌then◌else◌, is_none, IfSome, min, length, take, Bool, true, false, List, Option, Some, None, refl, sym, ap, subst, arith, length-take}
use Rattle.std.proofs.lemmas.Bool.{cases_lt, eq-eqb, eqb-true, ne_eqb}
use Rattle.std.proofs.lemmas.List.{take_all}
use Rattle.gs_units.specs.declared.params.NodeParams.{NodeParams}
use Rattle.gs_core.specs.Node.{link_place}
use Rattle.gs_core.specs.Steps.{is_ahead}
use Rattle.gs_beacon.specs.Beacons.{Spells, beacon_at, fault_of}
use Rattle.gs_beacon.specs.declared.beacon.Beacon.{Beacon}
use Rattle.gs_beacon.specs.declared.beacon.BeaconFault.{BeaconFault}
use Rattle.gs_beacon.proofs.Faults.{none-spelled, spells-read}
use Rattle.gs_callers.specs.Wanted.{IsWanted, is_wanted, only_wanted, spelled_by, wanted_beacon}

some_same : {A : Type 0} (a b : A) → Some a ≡ Some b → a ≡ b
some_same a b e = cc

-- what spells a beacon is read as it
pub spelled : (b : Beacon) (bytes : List ℕ) → Spells b bytes → Some b ≡ spelled_by bytes
unfolding spelled_by
spelled b bytes s = rw (none-spelled b bytes s) (rw (s.cluster, s.sender, s.seq, s.l, s.m) refl)

-- and what has a fault as none
pub unspelled : (f : BeaconFault) (bytes : List ℕ) → fault_of bytes ≡ Some f → None ≡ spelled_by bytes
unfolding spelled_by
unspelled f bytes e = rw e refl

-- what is not 40 bytes long spells nothing
spells_none : (bytes : List ℕ) → length bytes ≢ 40 → spelled_by bytes ≡ None
unfolding spelled_by
spells_none bytes far = rw (ne_eqb (length bytes) 40 far) refl

-- the 64 bytes that were put in front spell what the whole datagram spells
pub spelled_cut : (bytes into : List ℕ) (n : ℕ) → n ≡ min 64 (length bytes) → take n into ≡ take n bytes
    → spelled_by (take n into) ≡ spelled_by bytes
spelled_cut bytes into n is same = ap spelled_by same ∙ elim (cases_lt 64 (length bytes)) [
  | inl long ↦
      (let k = length-take n bytes in
      let short : length (take n bytes) ≢ 40 = omega arith in
      let far : length bytes ≢ 40 = omega arith in
      spells_none (take n bytes) short ∙ sym (spells_none bytes far))
  | inr within ↦ (let le : length bytes ≤ n = omega arith in ap spelled_by (take_all n bytes le))
]

-- and bytes that are read as a beacon spell it
spells_back : (b : Beacon) (bytes : List ℕ) → spelled_by bytes ≡ Some b → Spells b bytes
unfolding spelled_by
spells_back b bytes e = by (fault_of bytes) refl e
  where
    by : (o : Option BeaconFault) → fault_of bytes ≡ o → (if is_none o then Some (beacon_at bytes) else None) ≡ Some b → Spells b bytes
    by None none e = subst (λ (z : Beacon). Spells z bytes) (some_same _ _ e) (spells-read bytes none)
    by (Some f) some e = absurd (cc)

both_true : (a b : Bool) → (a && b) ≡ true → (a ≡ true) × (b ≡ true)
both_true true b h = (refl, h)
both_true false b h = absurd (cc)

not_true : (a : Bool) → not a ≡ true → a ≡ false
not_true true h = absurd (cc)
not_true false h = refl

-- what is passed on is wanted
pub only_wanted_are : (p : NodeParams) (neighbour : ℕ) (bytes : List ℕ) (o : Option Beacon) → o ≡ wanted_beacon p neighbour bytes → IfSome o (IsWanted p neighbour bytes)
only_wanted_are p neighbour bytes None e = tt
only_wanted_are p neighbour bytes (Some b) e = by (spelled_by bytes) refl e
  where
    parts : (d : Beacon) → Spells d bytes → is_wanted p neighbour d ≡ true → IsWanted p neighbour bytes d
    parts d s h =
        let near = both_true ((d.cluster == p.cluster) && (d.sender == neighbour)) (not (is_ahead p d (link_place p neighbour))) h in
        let names = both_true (d.cluster == p.cluster) (d.sender == neighbour) near.0 in
        record { spells = s; cluster = eqb-true _ _ names.0; sender = eqb-true _ _ names.1; near = not_true _ near.1 }

    test : (d : Beacon) → Spells d bytes → (w : Bool) → is_wanted p neighbour d ≡ w → Some b ≡ (if w then Some d else None) → IsWanted p neighbour bytes b
    test d s true h e = subst (λ (z : Beacon). IsWanted p neighbour bytes z) (sym (some_same _ _ e)) (parts d s h)
    test d s false h e = absurd (cc)

    by : (o : Option Beacon) → spelled_by bytes ≡ o → Some b ≡ only_wanted p neighbour o → IsWanted p neighbour bytes b
    by None is e = absurd (cc)
    by (Some d) is e = test d (spells_back d bytes is) (is_wanted p neighbour d) refl e

-- and what is wanted is passed on
pub wanted_passes : (p : NodeParams) (neighbour : ℕ) (bytes : List ℕ) (b : Beacon) → IsWanted p neighbour bytes b → wanted_beacon p neighbour bytes ≡ Some b
wanted_passes p neighbour bytes b w =
    let cluster = eq-eqb _ _ w.cluster in
    let sender = eq-eqb _ _ w.sender in
    let test : is_wanted p neighbour b ≡ true = rw (cluster, sender, w.near) refl in
    ap (only_wanted p neighbour) (sym (spelled b bytes w.spells)) ∙ rw test refl
