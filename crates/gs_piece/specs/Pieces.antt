-- What a piece stands for: some nodes of a play that follow one another, through a window of quanta.
use Rattle.std.specs.Prelude.{◌≡◌, ℕ, suc, ◌+◌, ◌-◌, ◌<◌, ◌≤◌, length, slice_index, slice_index_or, List, []}
use Rattle.std.specs.List.{count_by, range_with_len}
use Rattle.gs_run.specs.Fast.{is_fast}
use Rattle.gs_run.specs.Net.{Net}
use Rattle.gs_run.specs.World.{member}
use Rattle.gs_calendar.specs.Course.{Course}
use Rattle.gs_seat.specs.Worlds.{world_of}
use Rattle.gs_piece.specs.Columns.{clock_at}
use Rattle.gs_piece.specs.Nodes.{AreNodes, none_handed}
use Rattle.gs_piece.specs.declared.piece.Piece.{Piece}

-- how many of the nodes a to b - 1 are in the fast mode at the end of quantum t
abbrev pub fast_among : Net → Course → ℕ → ℕ → ℕ → ℕ
fast_among net c a b t = count_by (λ v. is_fast (member (world_of net c t) v).node.mode) (range_with_len a (b - a))

-- the clocks of the nodes a to b - 1 at the end of quantum t
pub record AreClocks (net : Net) (c : Course) (a b t : ℕ) (clocks : List ℕ) : Type 0 where
  pub count : a + length clocks ≡ b
  pub clock : (i : ℕ) → a + i < b → slice_index clocks i ≡ clock_at net c t (a + i)

-- This piece has the nodes a to b - 1 at the end of quantum t, in a window that began at the end of quantum m. In transit to node
-- v is what each node x sent by quantum `by v x`.
pub record IsPiece (net : Net) (c : Course) (by : ℕ → ℕ → ℕ) (a b m t : ℕ) (p : Piece) : Type 0 where
  pub nodes : AreNodes net c by a b m (λ i. t) p.nodes
  pub clocks : AreClocks net c a b t p.clocks.items
  pub rows : length p.rows.items ≡ 64
  pub row : (j : ℕ) → j < 64 → a + length (slice_index_or p.rows.items j []) ≡ b
  pub fasts : length p.fasts.items ≡ 64

-- the same while nothing that was sent in the window has been handed over
abbrev pub IsPieceIn : Net → Course → ℕ → ℕ → ℕ → ℕ → Piece → Type 0
IsPieceIn net c a b m t p = IsPiece net c (none_handed m) a b m t p

-- It keeps, for each of the n quanta after quantum m, the clocks of its nodes at the end, and how many took it in the fast mode.
pub record HasRows (net : Net) (c : Course) (a b m n : ℕ) (p : Piece) : Type 0 where
  pub few : n ≤ 64
  pub rows : length p.rows.items ≡ 64
  pub fasts : length p.fasts.items ≡ 64
  pub count : (j : ℕ) → j < n → a + length (slice_index_or p.rows.items j []) ≡ b
  pub clock : (j i : ℕ) → j < n → a + i < b → slice_index (slice_index_or p.rows.items j []) i ≡ clock_at net c (suc (m + j)) (a + i)
  pub fast : (j : ℕ) → j < n → slice_index p.fasts.items j ≡ fast_among net c a b (m + j)
