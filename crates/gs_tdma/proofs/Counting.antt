-- What is counted of a play under way, and what it keeps.
use Rattle.std.proofs.Common.{◌≡◌, ℕ, zero, suc, ◌+◌, ◌<◌, ◌≤◌, arith, ap, ◌∙◌, sym, subst, List, length, map, replicate, All, Bool, true, false, if◌then◌else◌, get_or, slice_index}
use Rattle.std.specs.List.{range_with_len}
use Rattle.std.proofs.lemmas.List.{get_or-replicate, length-replicate}
use Rattle.std.proofs.lemmas.Grind.{same_number_lists}
use Rattle.std.proofs.lemmas.List.Elements.{All-from_get_or}
use Rattle.std.proofs.lemmas.List.FromFn.{get_or-map-range_with_len, length-map-range_with_len}
use Rattle.gs_plan.specs.Plans.{graph_of}
use Rattle.gs_plan.specs.declared.plan.Plan.{Plan}
use Rattle.gs_script.specs.Script.{Said}
use Rattle.gs_run.specs.Nets.{net_of}
use Rattle.gs_rows.specs.Row.{Row, clock_at, row_at, rows_of_script, zeros_of}
use Rattle.gs_rows.specs.Stage.{IsOver, Stage, row_now}
use Rattle.gs_rows.proofs.Keeping.{script_is_steady}
use Rattle.gs_tdma.specs.inside.Kept.{AreCounted, AreSent, with_clock}
use Rattle.gs_tdma.specs.Laws.{NeverCollide}
use Rattle.gs_tdma.specs.Slots.{AreSlots, Slots, sends, sent_of, sent_upto}
use Rattle.gs_tdma.proofs.Guarding.{none_collide}

-- the rows of a play of these from equal clocks
abbrev pub play_rows : Plan → Said → List Row
play_rows p said = rows_of_script p said (zeros_of (net_of p))

-- ---- the counts

-- no count is above the number of quanta
sent_small : (s : Slots) (rows : List Row) (v t : ℕ) → sent_upto s rows v t ≤ t
sent_small s rows v zero = omega arith
sent_small s rows v (suc t) = pick (sends s v (clock_at rows (suc t) v)) (sent_small s rows v t) where
  pick : (b : Bool) → sent_upto s rows v t ≤ t → sent_upto s rows v t + (if b then 1 else 0) ≤ suc t
  pick true h = omega (arith, h)
  pick false h = omega (arith, h)

pub few_sent : (s : Slots) (rows : List Row) (n t next : ℕ) (sent : List ℕ) → AreSent s rows n t sent → next ≡ t + 1 → All (λ k. k < next) sent
few_sent s rows n t next sent h is =
    let count = h.count in
    All-from_get_or (λ k. k < next) sent 0 (λ v inside.
    let small = sent_small s rows v t in
    let same = h.each v (omega (arith, count, inside)) in
    omega (arith, small, same, is))

-- nothing is counted at the start
pub none_sent : (s : Slots) (rows : List Row) (n t m : ℕ) (sent : List ℕ) → sent ≡ replicate m 0 → m ≡ n → t ≡ 0 → AreSent s rows n t sent
none_sent s rows n t m sent is same zero_t =
    let all : sent ≡ replicate n 0 = is ∙ ap (λ (k : ℕ). replicate {A = ℕ} k 0) same in
    record {
      count = ap (λ (l : List ℕ). length l) all ∙ length-replicate n 0;
      each = λ v h.
          ap (λ (l : List ℕ). slice_index l v) all ∙ get_or-replicate n v 0 0 h
          ∙ ap (λ (k : ℕ). sent_upto s rows v k) (sym zero_t);
    }

-- a quantum more
pub more_sent : (s : Slots) (rows : List Row) (n t next : ℕ) (row old new : List ℕ) → AreSent s rows n t old → next ≡ t + 1
    → row ≡ (row_at rows next).clocks → length new ≡ length old → AreCounted s row old new → AreSent s rows n next new
more_sent s rows n t next row old new h is clocks long counted =
    let count = h.count in
    let e : next ≡ suc t = omega (arith, is) in
    record {
      count = omega (arith, long, count);
      each = λ v hv.
          let at : slice_index row v ≡ clock_at rows next v = ap (λ (l : List ℕ). slice_index l v) clocks in
          counted v (omega (arith, hv, count))
          ∙ ap (λ (k : ℕ). with_clock s v (slice_index row v) k) (h.each v hv)
          ∙ ap (λ (k : ℕ). with_clock s v k (sent_upto s rows v t)) at
          ∙ ap (λ (k : ℕ). with_clock s v (clock_at rows k v) (sent_upto s rows v t)) e
          ∙ ap (λ (k : ℕ). sent_upto s rows v k) (sym e);
    }

-- ---- a stage of the play

pub row_here : (p : Plan) (said : Said) (x : Stage) (row : List ℕ) → x.plan ≡ p → x.said ≡ said → x.l0s ≡ zeros_of (net_of p)
    → row ≡ (row_now x).clocks → row ≡ (row_at (play_rows p said) x.quanta).clocks
row_here p said x row plan same zeros is =
    is
    ∙ ap (λ (q : Plan). (row_at (rows_of_script q x.said x.l0s) x.quanta).clocks) plan
    ∙ ap (λ (r : Said). (row_at (rows_of_script p r x.l0s) x.quanta).clocks) same
    ∙ ap (λ (l : List ℕ). (row_at (rows_of_script p said l) x.quanta).clocks) zeros

over_here : (p : Plan) (said : Said) (x : Stage) → x.plan ≡ p → x.said ≡ said → x.l0s ≡ zeros_of (net_of p) → IsOver x
    → IsOver (record { plan = p; said = said; l0s = zeros_of (net_of p); quanta = x.quanta })
over_here p said x plan same zeros over =
    subst (λ (l : List ℕ). IsOver (record { plan = p; said = said; l0s = l; quanta = x.quanta })) zeros
    (subst (λ (r : Said). IsOver (record { plan = p; said = r; l0s = x.l0s; quanta = x.quanta })) same
    (subst (λ (q : Plan). IsOver (record { plan = q; said = x.said; l0s = x.l0s; quanta = x.quanta })) plan over))

-- ---- where all is played

pub is_sent : (p : Plan) (said : Said) (s : Slots) (x : Stage) (sent : List ℕ) → x.said ≡ said → IsOver x
    → AreSent s (play_rows p said) (graph_of p).nodes x.quanta sent → sent ≡ sent_of p said s
is_sent p said s x sent same over h =
    let n : ℕ = (graph_of p).nodes in
    let f : ℕ → ℕ = λ v. sent_upto s (play_rows p said) v said.quanta in
    let last : x.quanta ≡ said.quanta = over.quanta ∙ ap (λ (r : Said). r.quanta) same in
    let count = h.count in
    same_number_lists sent (map f (range_with_len 0 n)) (count ∙ sym (length-map-range_with_len f 0 n)) (λ v inside.
    let hv : v < n = omega (arith, inside, count) in
    h.each v hv
    ∙ ap (λ (t : ℕ). sent_upto s (play_rows p said) v t) last
    ∙ sym (get_or-map-range_with_len f 0 n v v 0 hv (omega arith)))

pub never_here : (p : Plan) (said : Said) (s : Slots) (x : Stage) → AreSlots p s → x.plan ≡ p → x.said ≡ said → x.l0s ≡ zeros_of (net_of p)
    → IsOver x → NeverCollide p said s
never_here p said s x slots plan same zeros over = λ t ht.
    let steady = script_is_steady p said (over_here p said x plan same zeros over).allowed in
    none_collide p s (clock_at (play_rows p said) t) slots (λ l v w hv hw. steady.levels l t v w ht hv hw)
