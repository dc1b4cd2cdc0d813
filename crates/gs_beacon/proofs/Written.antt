-- The bytes of a beacon spell it.
use Rattle.std.proofs.Common.{◌≡◌, ℕ, ◌<◌, List, [], ◌++◌, refl, append_assoc, append-nil, arith}
use Rattle.byteorder.specs.Endian.{big_bytes}
use Rattle.gs_beacon.specs.Beacons.{magic, head_bytes, number_bytes, bytes_of}
use Rattle.gs_beacon.specs.Numbers.{AreBytes}
use Rattle.gs_beacon.specs.Spelling.{BytesSpell}
use Rattle.gs_beacon.specs.declared.beacon.Beacon.{Beacon}
use Rattle.gs_beacon.proofs.Digits.{number_at-behind, AreBytes-big_bytes}
use Rattle.std.proofs.lemmas.List.Elements.{All-append}

-- each field is read back from its place
pub spells-written : BytesSpell
unfolding bytes_of
spells-written b valid fits =
    let first : List ℕ = big_bytes 4 magic in
    let cluster : List ℕ = big_bytes 4 b.cluster in
    let sender : List ℕ = big_bytes 4 b.sender in
    let gap : List ℕ = big_bytes 4 0 in
    let seq : List ℕ = big_bytes 8 b.seq in
    let l : List ℕ = big_bytes 8 b.l in
    let m : List ℕ = big_bytes 8 b.m in
    let at_cluster : head_bytes b ++ number_bytes b ≡ first ++ (cluster ++ (sender ++ (gap ++ number_bytes b))) = simp append_assoc in
    let at_sender : head_bytes b ++ number_bytes b ≡ (first ++ cluster) ++ (sender ++ (gap ++ number_bytes b)) = simp append_assoc in
    let at_gap : head_bytes b ++ number_bytes b ≡ (first ++ (cluster ++ sender)) ++ (gap ++ number_bytes b) = simp append_assoc in
    let at_l : head_bytes b ++ number_bytes b ≡ (head_bytes b ++ seq) ++ (l ++ m) = simp append_assoc in
    let at_m : head_bytes b ++ number_bytes b ≡ (head_bytes b ++ (seq ++ l)) ++ (m ++ []) = simp (append_assoc, append-nil) in
    record {
      valid = valid;
      count = refl;
      tag = rw at_cluster (number_at-behind 4 magic 0 [] (cluster ++ (sender ++ (gap ++ number_bytes b))) refl (omega arith));
      cluster = rw at_cluster (number_at-behind 4 b.cluster 4 first (sender ++ (gap ++ number_bytes b)) refl (omega (arith, fits.cluster)));
      sender = rw at_sender (number_at-behind 4 b.sender 8 (first ++ cluster) (gap ++ number_bytes b) refl (omega (arith, fits.sender)));
      zeros = rw at_gap (number_at-behind 4 0 12 (first ++ (cluster ++ sender)) (number_bytes b) refl (omega arith));
      seq = number_at-behind 8 b.seq 16 (head_bytes b) (l ++ m) refl (omega (arith, fits.seq));
      l = rw at_l (number_at-behind 8 b.l 24 (head_bytes b ++ seq) m refl (omega (arith, valid.order, valid.near)));
      m = rw at_m (number_at-behind 8 b.m 32 (head_bytes b ++ (seq ++ l)) [] refl (omega (arith, valid.near)));
    }

-- the bytes of a beacon are bytes
pub AreBytes-bytes_of : (b : Beacon) → AreBytes (bytes_of b)
unfolding bytes_of
AreBytes-bytes_of b =
    let both : (xs ys : List ℕ) → AreBytes xs → AreBytes ys → AreBytes (xs ++ ys) = λ xs ys h k. All-append (λ x. x < 256) xs ys h k in
    search (both, AreBytes-big_bytes)
