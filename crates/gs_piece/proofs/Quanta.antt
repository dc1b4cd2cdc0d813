-- A piece through one quantum of its window.
use Rattle.std.proofs.Common.{◌≡◌, ℕ, zero, suc, None, ◌+◌, ◌<◌, ◌≤◌, arith, ap, sym, ◌∙◌, inl, inr, List, [], length, length-set, get_or-set_same, get_or-set_other, slice_index, slice_index_or, slice_set, map, true, false}
use Rattle.std.proofs.lemmas.Bool.{cases_eq}
use Rattle.gs_run.specs.Net.{Net}
use Rattle.gs_calendar.specs.Course.{Course, course_of}
use Rattle.gs_plan.specs.declared.plan.Plan.{Plan}
use Rattle.gs_script.specs.Script.{Said}
use Rattle.gs_run.specs.Nets.{net_of}
use Rattle.gs_calendar.specs.Stale.{breach_upto}
use Rattle.gs_seat.proofs.Aging.{none_before}
use Rattle.gs_piece.specs.Columns.{clock_at}
use Rattle.gs_core.specs.Node.{clock_of}
use Rattle.gs_run.specs.World.{Member}
use Rattle.gs_calendar.specs.Events.{nodes_of}
use Rattle.gs_run.proofs.Start.{start_member}
use Rattle.gs_seat.specs.Held.{IsWindow}
use Rattle.gs_piece.proofs.Clocks.{IsCalmQuantum, clocks_next}
use Rattle.gs_piece.specs.Nodes.{AreNodes, none_handed}
use Rattle.gs_piece.specs.Pieces.{HasRows, IsPieceIn, fast_among}
use Rattle.gs_piece.specs.declared.piece.Piece.{Piece}

-- what a quantum writes into the columns of a piece: its clocks, which are the row of its place, and the count of fast nodes
pub record Writes (net : Net) (c : Course) (a b t j n : ℕ) (old new : Piece) : Type 0 where
  pub count : a + length new.clocks.items ≡ b
  pub clock : (i : ℕ) → a + i < b → slice_index new.clocks.items i ≡ clock_at net c (suc t) (a + i)
  pub rows : new.rows.items ≡ slice_set old.rows.items j new.clocks.items
  pub fasts : new.fasts.items ≡ slice_set old.fasts.items j n

pub piece_next : (net : Net) (c : Course) (a b m t j n : ℕ) (old new : Piece) → j < 64 → Writes net c a b t j n old new
    → AreNodes net c (none_handed m) a b m (λ i. suc t) new.nodes
    → IsPieceIn net c a b m t old → IsPieceIn net c a b m (suc t) new
piece_next net c a b m t j n old new few writes nodes is = record {
  nodes = nodes;
  clocks = record { count = writes.count; clock = writes.clock };
  rows = ap length writes.rows ∙ length-set old.rows.items j new.clocks.items ∙ is.rows;
  row = λ k hk.
      let long = is.rows in
      ap (λ (rows : List (List ℕ)). a + length (slice_index_or rows k [])) writes.rows
      ∙ elim (cases_eq k j) [
        | inl same ↦ ap (λ (i : ℕ). a + length (slice_index_or (slice_set old.rows.items j new.clocks.items) i [])) same
            ∙ ap (λ (l : List ℕ). a + length l) (get_or-set_same old.rows.items j new.clocks.items [] (omega (arith, few, long))) ∙ writes.count
        | inr other ↦ ap (λ (l : List ℕ). a + length l) (get_or-set_other old.rows.items j k new.clocks.items [] other) ∙ is.row k hk
      ];
  fasts = ap length writes.fasts ∙ length-set old.fasts.items j n ∙ is.fasts;
}

pub has_rows_next : (net : Net) (c : Course) (a b m j n : ℕ) (old new : Piece) → j < 64 → n ≡ fast_among net c a b (m + j) → Writes net c a b (m + j) j n old new
    → HasRows net c a b m j old → HasRows net c a b m (suc j) new
has_rows_next net c a b m j n old new few number writes is =
    let rows = is.rows in
    let fasts = is.fasts in
    let own : slice_index_or new.rows.items j [] ≡ new.clocks.items = ap (λ (xs : List (List ℕ)). slice_index_or xs j []) writes.rows ∙ get_or-set_same old.rows.items j new.clocks.items [] (omega (arith, few, rows)) in
    let others : (k : ℕ) → (k ≡ j → ⊥) → slice_index_or new.rows.items k [] ≡ slice_index_or old.rows.items k [] = λ k other. ap (λ (xs : List (List ℕ)). slice_index_or xs k []) writes.rows ∙ get_or-set_other old.rows.items j k new.clocks.items [] other in
    record {
      few = omega (arith, few);
      rows = ap length writes.rows ∙ length-set old.rows.items j new.clocks.items ∙ is.rows;
      fasts = ap length writes.fasts ∙ length-set old.fasts.items j n ∙ is.fasts;
      count = λ k hk. elim (cases_eq k j) [
        | inl same ↦ ap (λ (i : ℕ). a + length (slice_index_or new.rows.items i [])) same ∙ ap (λ (l : List ℕ). a + length l) own ∙ writes.count
        | inr other ↦ ap (λ (l : List ℕ). a + length l) (others k other) ∙ is.count k (omega (arith, hk, other))
      ];
      clock = λ k i hk hi. elim (cases_eq k j) [
        | inl same ↦ ap (λ (x : ℕ). slice_index (slice_index_or new.rows.items x []) i) same ∙ ap (λ (l : List ℕ). slice_index l i) own ∙ writes.clock i hi ∙ ap (λ (x : ℕ). clock_at net c (suc (m + x)) (a + i)) (sym same)
        | inr other ↦ ap (λ (l : List ℕ). slice_index l i) (others k other) ∙ is.clock k i (omega (arith, hk, other)) hi
      ];
      fast = λ k hk. elim (cases_eq k j) [
        | inl same ↦ ap (λ (x : ℕ). slice_index new.fasts.items x) same ∙ ap (λ (xs : List ℕ). slice_index xs j) writes.fasts ∙ get_or-set_same old.fasts.items j n 0 (omega (arith, few, fasts)) ∙ number ∙ ap (λ (x : ℕ). fast_among net c a b (m + x)) (sym same)
        | inr other ↦ ap (λ (xs : List ℕ). slice_index xs k) writes.fasts ∙ get_or-set_other old.fasts.items j k n 0 other ∙ is.fast k (omega (arith, hk, other))
      ];
    }

-- the clocks that a quantum leaves are written
pub writes_of : (p : Plan) (s : Said) (a b m t j n : ℕ) (old new : Piece) (clocks : List ℕ) → IsCalmQuantum p s t → IsPieceIn (net_of p) (course_of s) a b m t old
    → new.clocks.items ≡ clocks → length clocks ≡ length old.clocks.items
    → ((i : ℕ) → i < length old.nodes.fast.items → slice_index_or old.nodes.fast.items i false ≡ false → slice_index clocks i ≡ slice_index old.clocks.items i + slice_index old.nodes.steps.items i)
    → ((i : ℕ) → i < length old.nodes.fast.items → slice_index_or old.nodes.fast.items i false ≡ true → slice_index clocks i ≡ clock_at (net_of p) (course_of s) (suc t) (a + i))
    → new.rows.items ≡ slice_set old.rows.items j clocks → new.fasts.items ≡ slice_set old.fasts.items j n → Writes (net_of p) (course_of s) a b t j n old new
writes_of p s a b m t j n old new clocks q is same count slow fast rows fasts = record {
  count = ap (λ (l : List ℕ). a + length l) same ∙ ap (λ (k : ℕ). a + k) count ∙ is.clocks.count;
  clock = λ i h. ap (λ (l : List ℕ). slice_index l i) same ∙ clocks_next p s a b m t old.nodes old.clocks.items clocks q is.nodes is.clocks slow fast i h;
  rows = rows ∙ ap (slice_set old.rows.items j) (sym same);
  fasts = fasts;
}

-- no quantum before one that is no breach is one
pub calm_earlier : (net : Net) (c : Course) (t n : ℕ) → breach_upto net c (t + n) ≡ None → breach_upto net c t ≡ None
calm_earlier net c t zero none = let e : t + zero ≡ t = omega arith in rw e at none
calm_earlier net c t (suc n) none = let e : t + suc n ≡ suc (t + n) = omega arith in calm_earlier net c t n (none_before net c (t + n) (rw e at none))

-- ---- the window

-- a part of a window is one
pub window_part : (net : Net) (m t u : ℕ) → u ≤ t → IsWindow net m t → IsWindow net m u
window_part net m t u le is = record {
  few = (let few = is.few in omega (arith, le, few));
  short = λ v w h. (let short = is.short v w h in omega (arith, le, short));
}

-- before the first quantum of a window
pub no_rows : (net : Net) (c : Course) (a b m t : ℕ) (p : Piece) → IsPieceIn net c a b m t p → HasRows net c a b m 0 p
no_rows net c a b m t p is = record {
  few = omega arith;
  rows = is.rows;
  fasts = is.fasts;
  count = λ j h. absurd (omega (arith, h));
  clock = λ j i h. absurd (omega (arith, h));
  fast = λ j h. absurd (omega (arith, h));
}

-- all clocks are 0 at the start
pub start_clock : (net : Net) (c : Course) (v : ℕ) → v < net.nodes → clock_at net c 0 v ≡ 0
start_clock net c v h =
    let readings : ℕ → ℕ = slice_index (map (λ (u : ℕ). 0) (nodes_of net)) in
    ap (λ (m : Member). clock_of net.rate m.node m.reading) (start_member net readings (λ u. 0) v h) ∙ omega arith
