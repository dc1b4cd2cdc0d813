-- A beacon has one spelling: equal numbers have equal bytes.
use Rattle.std.proofs.Common.{◌≡◌, ℕ, ◌<◌, List, slice_index, sym, ◌∙◌, inl, inr, arith, rules}
use Rattle.std.proofs.lemmas.Bool.{cases_lt}
use Rattle.std.proofs.lemmas.List.{ext_get_or}
use Rattle.gs_beacon.specs.Beacons.{Spells, bytes_of}
use Rattle.gs_beacon.specs.Numbers.{AreBytes}
use Rattle.gs_beacon.specs.Spelling.{HasOneSpelling, SpellsOneBeacon, SpellingIsBytes}
use Rattle.gs_beacon.specs.declared.beacon.Beacon.{Beacon}
use Rattle.gs_beacon.proofs.Digits.{AreBytes-slice_index, field-same, number_at-lt}
use Rattle.gs_beacon.proofs.Written.{spells-written, AreBytes-bytes_of}

-- two spellings of a beacon agree at each place
byte-same : (b : Beacon) (xs ys : List ℕ) → AreBytes xs → AreBytes ys → Spells b xs → Spells b ys → (i : ℕ) → i < 40 → slice_index xs i ≡ slice_index ys i
byte-same b xs ys ax ay sx sy i below =
    let bx = AreBytes-slice_index xs ax in
    let bytes = AreBytes-slice_index ys ay in
    elim (cases_lt i 4) [
      | inl in_magic ↦ field-same 0 4 xs ys bx bytes (sx.tag ∙ sym sy.tag) i (omega arith) (omega arith)
      | inr i4 ↦ elim (cases_lt i 8) [
        | inl in_cluster ↦ field-same 4 4 xs ys bx bytes (sx.cluster ∙ sym sy.cluster) i (omega arith) (omega arith)
        | inr i8 ↦ elim (cases_lt i 12) [
          | inl in_sender ↦ field-same 8 4 xs ys bx bytes (sx.sender ∙ sym sy.sender) i (omega arith) (omega arith)
          | inr i12 ↦ elim (cases_lt i 16) [
            | inl in_zeros ↦ field-same 12 4 xs ys bx bytes (sx.zeros ∙ sym sy.zeros) i (omega arith) (omega arith)
            | inr i16 ↦ elim (cases_lt i 24) [
              | inl in_seq ↦ field-same 16 8 xs ys bx bytes (sx.seq ∙ sym sy.seq) i (omega arith) (omega arith)
              | inr i24 ↦ elim (cases_lt i 32) [
                | inl in_l ↦ field-same 24 8 xs ys bx bytes (sx.l ∙ sym sy.l) i (omega arith) (omega arith)
                | inr i32 ↦ field-same 32 8 xs ys bx bytes (sx.m ∙ sym sy.m) i (omega arith) (omega arith)
              ]
            ]
          ]
        ]
      ]
    ]

-- so they are one
pub has_one_spelling : HasOneSpelling
has_one_spelling b xs ys ax ay sx sy = ext_get_or 0 xs ys (sx.count ∙ sym sy.count)
    (λ i below. byte-same b xs ys ax ay sx sy i (omega (arith, sx.count)))

-- the fields of bytes are those of one beacon at most
pub spells_one_beacon : SpellsOneBeacon
spells_one_beacon b c bytes sb sc = search rules

-- and so they are the beacon's bytes, since what bytes spell fits its field
pub spelling-is_bytes : SpellingIsBytes
spelling-is_bytes b bytes are spells =
    let cluster = number_at-lt 4 4 bytes are in
    let sender = number_at-lt 8 4 bytes are in
    let seq = number_at-lt 16 8 bytes are in
    let written = spells-written b spells.valid record {
      cluster = omega (arith, cluster, spells.cluster);
      sender = omega (arith, sender, spells.sender);
      seq = omega (arith, seq, spells.seq);
    } in
    has_one_spelling b bytes (bytes_of b) are (AreBytes-bytes_of b) spells written
