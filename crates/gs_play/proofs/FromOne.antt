-- One node hands over to all its neighbours.
use Rattle.std.proofs.Common.{◌≡◌, ℕ, zero, suc, ◌+◌, ◌-◌, ◌*◌, ◌<◌, ◌≤◌, arith, ap, sym, refl, ◌∙◌, subst, inl, inr, min, List, length, slice_index_or, Bool, if◌then◌else◌}
use Rattle.std.proofs.lemmas.Bool.{cases_eq, cases_lt, le-ltb, lt-ltb}
use Rattle.std.proofs.lemmas.Option.{same_Some}
use Rattle.gs_run.specs.Accepted.{AreNumbers}
use Rattle.gs_run.specs.Net.{Adjacent, Net, neighbour, neighbours, place_of}
use Rattle.gs_calendar.specs.Course.{Course}
use Rattle.gs_calendar.specs.Transits.{Has}
use Rattle.gs_calendar.proofs.Arrivals.{place_is_own}
use Rattle.gs_calendar.proofs.OnTheWay.{at_has, is_neighbour, neighbour_is}
use Rattle.gs_seat.specs.Held.{SendsNone, handed}
use Rattle.gs_seat.specs.Seats.{IsSeatAt}
use Rattle.gs_seat.specs.declared.seat.Seat.{Seat}
use Rattle.gs_seat.proofs.Held.{handed_other, handed_own}
use Rattle.gs_seat.proofs.Windows.{all_handed, seat_as}
use Rattle.gs_piece.specs.Nodes.{AllHanded, handed_to}
use Rattle.gs_piece.specs.Pieces.{IsPiece}
use Rattle.gs_piece.specs.declared.piece.Piece.{Piece}
use Rattle.gs_piece.proofs.Turns.{handed_to_other, handed_to_own, nodes_map}
use Rattle.gs_play.specs.inside.Pieces.{ArePieces, handed_below}

-- ---- what is known of each seat changes

pieces_map : (net : Net) (c : Course) (by other : ℕ → ℕ → ℕ) (size m t : ℕ) (ps : List Piece)
    → ((v : ℕ) (s : Seat) → v < net.nodes → IsSeatAt net c v (by v) m t s → IsSeatAt net c v (other v) m t s)
    → ArePieces net c by size m t ps → ArePieces net c other size m t ps
pieces_map net c by other size m t ps each are = record {
  all = are.all;
  each = λ i d h.
      let a = i * size in
      let b = min net.nodes (i * size + size) in
      let p : Piece = slice_index_or ps i d in
      let is : IsPiece net c by a b m t p = are.each i d h in
      record {
        nodes = nodes_map net.nodes a b (λ k s. IsSeatAt net c (a + k) (by (a + k)) m t s) (λ k s. IsSeatAt net c (a + k) (other (a + k)) m t s) p.nodes
            (λ k e hk. each (a + k) (slice_index_or p.nodes.seats.items k e) (omega (arith, hk))) is.nodes;
        clocks = is.clocks;
        rows = is.rows;
        row = is.row;
        fasts = is.fasts;
      };
}

-- ---- up to which node all was handed over

below_done : (m t u v x : ℕ) → x < u → handed_below m t u v x ≡ t
below_done m t u v x less = ap (λ (b : Bool). if b then t else m) (lt-ltb x u less)

below_left : (m t u v x : ℕ) → u ≤ x → handed_below m t u v x ≡ m
below_left m t u v x le = ap (λ (b : Bool). if b then t else m) (le-ltb x u le)

below_within : (m t u v x : ℕ) → m ≤ t → (m ≤ handed_below m t u v x) × (handed_below m t u v x ≤ t)
below_within m t u v x le = elim (cases_lt x u) [
  | inl less ↦ (let e = below_done m t u v x less in (omega (arith, e, le), omega (arith, e, le)))
  | inr more ↦ (let e = below_left m t u v x more in (omega (arith, e, le), omega (arith, e, le)))
]

below_next : (m t u v x : ℕ) → (x ≡ u → ⊥) → handed_below m t u v x ≡ handed_below m t (suc u) v x
below_next m t u v x other = elim (cases_lt x u) [
  | inl less ↦ below_done m t u v x less ∙ sym (below_done m t (suc u) v x (omega (arith, less)))
  | inr more ↦ below_left m t u v x more ∙ sym (below_left m t (suc u) v x (omega (arith, more, other)))
]

-- ---- from one node

-- node `from` has handed over to its neighbours before place i
pub record IsHanding (net : Net) (m t from i : ℕ) (by : ℕ → ℕ → ℕ) : Type 0 where
  pub others : (v x : ℕ) → (x ≡ from → ⊥) → by v x ≡ handed_below m t from v x
  pub done : (k : ℕ) → k < i → by (neighbour net from k) from ≡ t
  pub left : (k : ℕ) → i ≤ k → k < length (neighbours net from) → by (neighbour net from k) from ≡ m

pub handing_begins : (net : Net) (m t from : ℕ) → IsHanding net m t from 0 (handed_below m t from)
handing_begins net m t from = record {
  others = λ v x other. refl;
  done = λ k h. absurd (omega (arith, h));
  left = λ k low h. below_left m t from (neighbour net from k) from (omega arith);
}

same_place : (net : Net) (from i k : ℕ) → i < length (neighbours net from) → k < length (neighbours net from) → neighbour net from k ≡ neighbour net from i → k ≡ i
same_place net from i k hi hk e =
    same_Some k i (sym (place_is_own net from k hk) ∙ ap (place_of net from) e ∙ place_is_own net from i hi)

pub handing_next : (net : Net) (m t from i : ℕ) (by : ℕ → ℕ → ℕ) → i < length (neighbours net from) → IsHanding net m t from i by
    → IsHanding net m t from (i + 1) (handed_to by (neighbour net from i) from t)
handing_next net m t from i by hi is =
    let to : ℕ = neighbour net from i in
    let own : (v : ℕ) → v ≡ to → handed_to by to from t v from ≡ t = λ v e. ap (λ (f : ℕ → ℕ). f from) (handed_to_own by to from t v e) ∙ handed_own (by v) from t from refl in
    let other : (v x : ℕ) → (v ≡ to → ⊥) → handed_to by to from t v x ≡ by v x = λ v x e. ap (λ (f : ℕ → ℕ). f x) (handed_to_other by to from t v e) in
    record {
      others = λ v x differs. elim (cases_eq v to) [
        | inl same ↦ ap (λ (f : ℕ → ℕ). f x) (handed_to_own by to from t v same) ∙ handed_other (by v) from t x differs ∙ is.others v x differs
        | inr off ↦ other v x off ∙ is.others v x differs
      ];
      done = λ k h. elim (cases_eq (neighbour net from k) to) [
        | inl same ↦ own (neighbour net from k) same
        | inr differs ↦ other (neighbour net from k) from differs ∙ is.done k (elim (cases_eq k i) [
          | inl here ↦ absurd (differs (ap (neighbour net from) here))
          | inr less ↦ omega (arith, h, less)
        ])
      ];
      left = λ k low h. other (neighbour net from k) from (λ e. let same = same_place net from i k hi h e in omega (arith, same, low)) ∙ is.left k (omega (arith, low)) h;
    }

pub handing_ends : (net : Net) (c : Course) (size m t from i : ℕ) (by : ℕ → ℕ → ℕ) (ps : List Piece) → AreNumbers net → m ≤ t → from < net.nodes → length (neighbours net from) ≤ i → IsHanding net m t from i by
    → ArePieces net c by size m t ps → ArePieces net c (handed_below m t (suc from)) size m t ps
handing_ends net c size m t from i by ps numbers le hf end is are = pieces_map net c by (handed_below m t (suc from)) size m t ps (λ v s hv seat.
    seat_as net c v m t (by v) (handed_below m t (suc from) v) s (λ x has. elim (cases_eq x from) [
      | inl same ↦ (let near = (neighbour_is net v x has).1 in
          let back : Has v (neighbours net from) = is_neighbour net from v hv (numbers.both_ways v from (subst (λ (y : ℕ). Adjacent net v y) same near)) in
          let at = at_has (neighbours net from) v 0 back in
          let few = at.1 in
          ap (by v) same ∙ ap (λ (u : ℕ). by u from) (sym at.2) ∙ is.done at.0 (omega (arith, few, end)) ∙ sym (below_done m t (suc from) v x (omega (arith, same))))
      | inr differs ↦ is.others v x differs ∙ below_next m t from v x differs
    ]) (λ x. below_within m t (suc from) v x le) seat) are

-- one that sent nothing hands over nothing
pub none_hands : (net : Net) (c : Course) (size m t from : ℕ) (ps : List Piece) → m ≤ t → SendsNone net c from m (suc t)
    → ArePieces net c (handed_below m t from) size m t ps → ArePieces net c (handed_below m t (suc from)) size m t ps
none_hands net c size m t from ps le none are = pieces_map net c (handed_below m t from) (handed_below m t (suc from)) size m t ps (λ v s hv seat.
    let by : ℕ → ℕ = handed_below m t from v in
    let begun : by from ≡ m = below_left m t from v from (omega arith) in
    seat_as net c v m t (handed by from t) (handed_below m t (suc from) v) s (λ x has. elim (cases_eq x from) [
      | inl same ↦ handed_own by from t x same ∙ sym (below_done m t (suc from) v x (omega (arith, same)))
      | inr differs ↦ handed_other by from t x differs ∙ below_next m t from v x differs
    ]) (λ x. below_within m t (suc from) v x le)
    (all_handed net c from v m t by s (subst (λ (q : ℕ). SendsNone net c from q (suc t)) (sym begun) none) seat)) are

-- so with all from node u to v - 1
pub none_hand : (net : Net) (c : Course) (size m t u v : ℕ) (ps : List Piece) → m ≤ t → u ≤ v → ((x : ℕ) → u ≤ x → x < v → SendsNone net c x m (suc t))
    → ArePieces net c (handed_below m t u) size m t ps → ArePieces net c (handed_below m t v) size m t ps
none_hand net c size m t u v ps le up none are =
    let same : u + (v - u) ≡ v = omega (arith, up) in
    subst (λ (k : ℕ). ArePieces net c (handed_below m t k) size m t ps) same (on (v - u) (λ x low high. none x low (omega (arith, high, up))))
  where
    on : (n : ℕ) → ((x : ℕ) → u ≤ x → x < u + n → SendsNone net c x m (suc t)) → ArePieces net c (handed_below m t (u + n)) size m t ps
    on zero left = let none : u ≡ u + zero = omega arith in subst (λ (k : ℕ). ArePieces net c (handed_below m t k) size m t ps) none are
    on (suc n) left =
        let one : suc (u + n) ≡ u + suc n = omega arith in
        subst (λ (k : ℕ). ArePieces net c (handed_below m t k) size m t ps) one
        (none_hands net c size m t (u + n) ps le (left (u + n) (omega arith) (omega arith)) (on n (λ x low high. left x low (omega (arith, high)))))

-- ---- from all nodes

pub below_begins : (net : Net) (c : Course) (size m t : ℕ) (ps : List Piece) → m ≤ t → ArePieces net c (λ v x. m) size m t ps → ArePieces net c (handed_below m t 0) size m t ps
below_begins net c size m t ps le are = pieces_map net c (λ v x. m) (handed_below m t 0) size m t ps (λ v s hv seat.
    seat_as net c v m t (λ x. m) (handed_below m t 0 v) s (λ x has. sym (below_left m t 0 v x (omega arith))) (λ x. below_within m t 0 v x le) seat) are

pub below_all : (net : Net) (m t u a b : ℕ) → net.nodes ≤ u → AllHanded net (handed_below m t u) a b t
below_all net m t u a b all v x low high has = (let few = (neighbour_is net v x has).0 in below_done m t u v x (omega (arith, few, all)))
