-- Bytes spell a beacon exactly where they have no fault.
use Rattle.std.proofs.Common.{◌≡◌, ℕ, zero, suc, ◌^◌, ◌<◌, ◌≤◌, Bool, true, false, not, eqb, ltb, leb, [], ◌∷◌, length, None, refl, arith}
use Rattle.std.specs.Bool.{then_some}
use Rattle.std.proofs.lemmas.Bool.{eqb-true, eqb-false, eq-eqb, ne_eqb, ltb-false, le-ltb, leb-false, lt-leb}
use Rattle.gs_units.proofs.FirstFault.{first_fails}
use Rattle.gs_units.specs.FirstFault.{first_some}
use Rattle.gs_beacon.specs.Beacons.{magic, magic_of, zero_of, seq_of, l_of, m_of}
use Rattle.gs_beacon.specs.Spelling.{FaultlessSpells, SpellingIsFaultless}
use Rattle.gs_beacon.specs.declared.beacon.BeaconFault.TheVariants.{Length, Magic, Zero, Sequence, Order, Far}

pub is_not : (b : Bool) → not b ≡ false → b ≡ true
is_not true e = refl
is_not false e = absurd (let wrong : true ≡ false = e in cc)

positive : (n : ℕ) → (n ≡ 0 → ⊥) → 1 ≤ n
positive zero some = absurd (some refl)
positive (suc n) some = omega arith

pub spells-read : FaultlessSpells
spells-read bytes none =
    let count = first_fails (not (eqb (length bytes) 40)) Length _ none in
    let tag = first_fails (not (eqb (magic_of bytes) magic)) Magic _ count.1 in
    let zeros = first_fails (not (eqb (zero_of bytes) 0)) Zero _ tag.1 in
    let seq = first_fails (eqb (seq_of bytes) 0) Sequence _ zeros.1 in
    let order = first_fails (ltb (m_of bytes) (l_of bytes)) Order _ seq.1 in
    let near = first_fails (leb (2 ^ 62) (m_of bytes)) Far _ order.1 in
    record {
      valid = record {
        sequence = positive (seq_of bytes) (eqb-false (seq_of bytes) 0 seq.0);
        order = ltb-false _ _ order.0;
        near = leb-false _ _ near.0;
      };
      count = eqb-true _ _ (is_not _ count.0);
      tag = eqb-true _ _ (is_not _ tag.0);
      cluster = refl;
      sender = refl;
      zeros = eqb-true _ _ (is_not _ zeros.0);
      seq = refl;
      l = refl;
      m = refl;
    }

not_zero : (n : ℕ) → 1 ≤ n → eqb n 0 ≡ false
not_zero n some = ne_eqb n 0 (λ e. absurd (omega (arith, e, some)))

no_fault : (count tag zeros none less far : Bool) → count ≡ true → tag ≡ true → zeros ≡ true → none ≡ false → less ≡ false → far ≡ false
    → first_some (then_some (not count) Length ∷ then_some (not tag) Magic ∷ then_some (not zeros) Zero ∷ then_some none Sequence ∷ then_some less Order ∷ then_some far Far ∷ []) ≡ None
no_fault count tag zeros none less far a b c d e f = rw (a, b, c, d, e, f) refl

pub none-spelled : SpellingIsFaultless
none-spelled b bytes s =
    let order : l_of bytes ≤ m_of bytes = omega (arith, s.l, s.m, s.valid.order) in
    let near : m_of bytes < 2 ^ 62 = omega (arith, s.m, s.valid.near) in
    let seq : 1 ≤ seq_of bytes = omega (arith, s.seq, s.valid.sequence) in
    no_fault (eqb (length bytes) 40) (eqb (magic_of bytes) magic) (eqb (zero_of bytes) 0) (eqb (seq_of bytes) 0) (ltb (m_of bytes) (l_of bytes)) (leb (2 ^ 62) (m_of bytes))
    (eq-eqb _ _ s.count) (eq-eqb _ _ s.tag) (eq-eqb _ _ s.zeros) (not_zero _ seq) (le-ltb _ _ order) (lt-leb _ _ near)
