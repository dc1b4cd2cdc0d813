-- One node takes over what another sent: what that is to all pieces.
use Rattle.std.proofs.Common.{◌≡◌, ℕ, ◌+◌, ◌*◌, ◌/◌, ◌<◌, ◌≤◌, arith, sym, subst, inl, inr, min, List, length, length-set, slice_index_or, slice_set, get_or-set_same, get_or-set_other}
use Rattle.std.proofs.Math.Nat.{div-add-mod', mod-lt, mul-le-mul_right}
use Rattle.std.proofs.lemmas.Bool.{cases_eq, cases_lt}
use Rattle.gs_run.specs.Net.{Net}
use Rattle.gs_calendar.specs.Course.{Course}
use Rattle.gs_seat.specs.Seats.{IsSeatAt}
use Rattle.gs_piece.specs.Nodes.{handed_to}
use Rattle.gs_piece.specs.Pieces.{IsPiece}
use Rattle.gs_piece.specs.declared.piece.Piece.{Piece}
use Rattle.gs_piece.proofs.Turns.{handed_to_other, nodes_map}
use Rattle.gs_play.specs.inside.Pieces.{ArePieces}
use Rattle.gs_play.proofs.Places.{IsIn}

-- the piece of a node is found by a division
pub piece_of : (size n v : ℕ) → 0 < size → v < n * size → IsIn size n v (v / size)
piece_of size n v some h =
    let whole = div-add-mod' v size in
    let rest = mod-lt v some in
    record {
      few = elim (cases_lt (v / size) n) [
        | inl less ↦ less
        | inr more ↦ (let low = mul-le-mul_right {m = n} {n = v / size} size more in absurd (omega (arith, whole, h, low)))
      ];
      low = omega (arith, whole);
      high = omega (arith, whole, rest);
    }

-- a piece without the receiver stays as it is
piece_other : (net : Net) (c : Course) (by : ℕ → ℕ → ℕ) (a b m t from to q : ℕ) (p : Piece) → ((v : ℕ) → a ≤ v → v < b → v ≡ to → ⊥) → IsPiece net c by a b m t p → IsPiece net c (handed_to by to from q) a b m t p
piece_other net c by a b m t from to q p other is = record {
  nodes = nodes_map net.nodes a b (λ k s. IsSeatAt net c (a + k) (by (a + k)) m t s) (λ k s. IsSeatAt net c (a + k) (handed_to by to from q (a + k)) m t s) p.nodes
      (λ k d hk. subst (λ (f : ℕ → ℕ). IsSeatAt net c (a + k) f m t (slice_index_or p.nodes.seats.items k d)) (sym (handed_to_other by to from q (a + k) (other (a + k) (omega arith) hk)))) is.nodes;
  clocks = is.clocks;
  rows = is.rows;
  row = is.row;
  fasts = is.fasts;
}

-- places of pieces do not overlap
apart : (size j k v : ℕ) → (j ≡ k → ⊥) → j * size ≤ v → v < j * size + size → k * size ≤ v → v < k * size + size → ⊥
apart size j k v other lowj highj lowk highk = elim (cases_lt j k) [
  | inl less ↦ (let up = mul-le-mul_right {m = j + 1} {n = k} size (omega (arith, less)) in let next : (j + 1) * size ≡ j * size + size = omega arith in omega (arith, up, next, highj, lowk))
  | inr more ↦ (let up = mul-le-mul_right {m = k + 1} {n = j} size (omega (arith, more, other)) in let next : (k + 1) * size ≡ k * size + size = omega arith in omega (arith, up, next, highk, lowj))
]

pub pieces_took : (net : Net) (c : Course) (by : ℕ → ℕ → ℕ) (size m t from to k : ℕ) (ps : List Piece) (new : Piece) → IsIn size (length ps) to k
    → IsPiece net c (handed_to by to from t) (k * size) (min net.nodes (k * size + size)) m t new
    → ArePieces net c by size m t ps → ArePieces net c (handed_to by to from t) size m t (slice_set ps k new)
pieces_took net c by size m t from to k ps new at is are =
    let long = length-set ps k new in
    let all = are.all in
    record {
      all = subst (λ (n : ℕ). net.nodes ≤ n * size) (sym long) all;
      each = λ j d h. elim (cases_eq j k) [
        | inl same ↦ subst (λ (i : ℕ). IsPiece net c (handed_to by to from t) (i * size) (min net.nodes (i * size + size)) m t (slice_index_or (slice_set ps k new) i d)) (sym same)
            (subst (IsPiece net c (handed_to by to from t) (k * size) (min net.nodes (k * size + size)) m t) (sym (get_or-set_same ps k new d at.few)) is)
        | inr other ↦ subst (IsPiece net c (handed_to by to from t) (j * size) (min net.nodes (j * size + size)) m t) (sym (get_or-set_other ps k j new d other))
            (piece_other net c by (j * size) (min net.nodes (j * size + size)) m t from to t (slice_index_or ps j d)
            (λ v low high same. apart size j k to other (omega (arith, low, same)) (omega (arith, high, same)) at.low at.high)
            (are.each j d (omega (arith, h, long))))
      ];
    }
