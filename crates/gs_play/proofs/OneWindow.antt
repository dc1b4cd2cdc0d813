-- A player through a window.
use Rattle.std.proofs.Common.{◌≡◌, ℕ, zero, suc, ◌+◌, ◌*◌, ◌<◌, ◌≤◌, arith, ap, sym, ◌∙◌, subst, inl, inr, min, List, length, slice_index_or}
use Rattle.std.proofs.Math.Nat.{mul-le-mul_right}
use Rattle.std.proofs.lemmas.Bool.{cases_lt}
use Rattle.gs_plan.specs.declared.plan.Plan.{Plan}
use Rattle.gs_script.specs.Script.{Said}
use Rattle.gs_run.specs.Nets.{net_of}
use Rattle.gs_run.proofs.PlanNumbers.{plan_has_numbers}
use Rattle.gs_calendar.specs.Course.{course_of}
use Rattle.gs_seat.specs.Held.{IsWindow}
use Rattle.gs_seat.proofs.Aging.{fresh_window}
use Rattle.gs_piece.specs.Pieces.{IsPieceIn}
use Rattle.gs_piece.specs.declared.piece.Piece.{Piece}
use Rattle.gs_play.specs.inside.Pieces.{ArePiecesIn, AreReady, AreRun, HaveRows}
use Rattle.gs_play.specs.inside.Player.{IsPlayerAt, IsPlayerFor}
use Rattle.gs_play.specs.inside.Totals.{IsCalm}
use Rattle.gs_play.specs.declared.player.Player.{Player}
use Rattle.gs_play.proofs.Windows.{longest_is}

-- so many pieces are enough, and no more than workers
pub few_pieces : (nodes workers size k : ℕ) → 1 ≤ nodes → nodes ≤ size * workers → k * size < nodes + size → workers ≤ 64 → (0 < size) × (k ≤ 64)
few_pieces nodes workers zero k some all few most = absurd (let none : zero * workers ≡ 0 = omega arith in omega (arith, some, all, none))
few_pieces nodes workers (suc size) k some all few most = (
  omega arith,
  elim (cases_lt workers k) [
    | inl more ↦ (let high = mul-le-mul_right {m = workers + 1} {n = k} (suc size) (omega (arith, more)) in
        let next : (workers + 1) * suc size ≡ suc size * workers + suc size = grind arith in
        absurd (omega (arith, high, next, all, few)))
    | inr less ↦ omega (arith, less, most)
  ],
)

pub at_own : (p : Plan) (s : Said) (t : ℕ) (x : Player) → IsPlayerAt p s t x → IsPlayerAt p s x.quanta x
at_own p s t x h = subst (λ (u : ℕ). IsPlayerAt p s u x) (sym h.quanta) h

pub for_own : (p : Plan) (s : Said) (t n : ℕ) (x : Player) → IsPlayerFor p s t n x → IsPlayerFor p s x.quanta n x
for_own p s t n x h = subst (λ (u : ℕ). IsPlayerFor p s u n x) (sym h.at.quanta) h

-- there is a piece
pub some_pieces : (p : Plan) (s : Said) (t : ℕ) (x : Player) → IsPlayerAt p s t x → 0 < length x.pieces.items
some_pieces p s t x h = elim (cases_lt 0 (length x.pieces.items)) [
  | inl some ↦ some
  | inr none ↦ (let all = h.pieces.all in let one = (plan_has_numbers p).some in
      let zero_of : length x.pieces.items ≡ 0 = omega (arith, none) in
      let nothing : length x.pieces.items * x.size ≡ 0 = ap (λ (k : ℕ). k * x.size) zero_of ∙ omega arith in
      absurd (omega (arith, all, one, nothing)))
]

-- the window is one
pub window_of : (p : Plan) (s : Said) (t n : ℕ) (x : Player) → IsPlayerFor p s t n x → IsWindow (net_of p) t (t + n)
window_of p s t n x h = longest_is p t n h.window

-- and has no breach
pub calm_of : (p : Plan) (s : Said) (t n : ℕ) (x : Player) → IsPlayerFor p s t n x → IsCalm p s (t + n)
calm_of p s t n x h = record {
  read = h.at.read;
  end = h.end;
  calm = (fresh_window (net_of p) (course_of s) t n x.safe h.at.fresh h.safe h.at.calm).1;
}

pub ready_of : (p : Plan) (s : Said) (t n : ℕ) (x : Player) (ps : List Piece) → ps ≡ x.pieces.items → IsPlayerFor p s t n x → AreReady p s t n ps
ready_of p s t n x ps same h = record {
  read = h.at.read;
  end = h.end;
  calm = (fresh_window (net_of p) (course_of s) t n x.safe h.at.fresh h.safe h.at.calm).1;
  window = window_of p s t n x h;
  pieces = λ i d less. (
    i * x.size,
    min (net_of p).nodes (i * x.size + x.size),
    subst (λ (l : List Piece). IsPieceIn (net_of p) (course_of s) (i * x.size) (min (net_of p).nodes (i * x.size + x.size)) t t (slice_index_or l i d)) (sym same)
        (h.at.pieces.each i d (subst (λ (l : List Piece). i < length l) same less)),
  );
}

-- so the pieces are at its end, and keep its rows
pub run_of : (p : Plan) (s : Said) (t n : ℕ) (x : Player) (old new : List Piece) → old ≡ x.pieces.items → length new ≡ length old → AreRun p s t n old new → IsPlayerFor p s t n x
    → ArePiecesIn (net_of p) (course_of s) x.size t (t + n) new × HaveRows (net_of p) (course_of s) x.size t n new
run_of p s t n x old new same count run h =
    let net = net_of p in
    let c = course_of s in
    let are : ArePiecesIn net c x.size t t old = subst (ArePiecesIn net c x.size t t) (sym same) h.at.pieces in
    let all : net.nodes ≤ length new * x.size = subst (λ (k : ℕ). net.nodes ≤ k * x.size) (sym count) are.all in (
      record {
        all = all;
        each = λ i d less. (let inside : i < length old = omega (arith, less, count) in
            run.pieces i d (i * x.size) (min net.nodes (i * x.size + x.size)) inside (are.each i d inside));
      },
      record {
        all = all;
        each = λ i d less. (let inside : i < length old = omega (arith, less, count) in
            run.rows i d (i * x.size) (min net.nodes (i * x.size + x.size)) inside (are.each i d inside));
      },
    )
