-- For private functions and proofs: the pieces that a player owns its nodes in.
use Rattle.std.specs.Prelude.{◌≡◌, ℕ, ◌+◌, ◌*◌, ◌<◌, ◌≤◌, min, nat_lt, if◌then◌else◌, List, None, length, slice_index_or}
use Rattle.gs_plan.specs.Plans.{text_of}
use Rattle.gs_plan.specs.declared.plan.Plan.{Plan}
use Rattle.gs_script.specs.Script.{Said}
use Rattle.gs_run.specs.Net.{Net}
use Rattle.gs_run.specs.Nets.{net_of}
use Rattle.gs_calendar.specs.Course.{Course, course_of}
use Rattle.gs_calendar.specs.Scripts.{IsReadFor}
use Rattle.gs_calendar.specs.Stale.{breach_upto}
use Rattle.gs_seat.specs.Held.{IsWindow}
use Rattle.gs_piece.specs.Nodes.{AllHanded, none_handed}
use Rattle.gs_piece.specs.Pieces.{HasRows, IsPiece, IsPieceIn}
use Rattle.gs_piece.specs.declared.piece.Piece.{Piece}

-- These pieces of so many nodes each have all nodes of a net at the end of quantum t, in a window that began at the end of quantum
-- m. In transit to node v is what each node x sent by quantum `by v x`.
pub record ArePieces (net : Net) (c : Course) (by : ℕ → ℕ → ℕ) (size m t : ℕ) (ps : List Piece) : Type 0 where
  pub all : net.nodes ≤ length ps * size
  pub each : (i : ℕ) (d : Piece) → i < length ps → IsPiece net c by (i * size) (min net.nodes (i * size + size)) m t (slice_index_or ps i d)

-- the same while nothing that was sent in the window has been handed over
abbrev pub ArePiecesIn : Net → Course → ℕ → ℕ → ℕ → List Piece → Type 0
ArePiecesIn net c size m t ps = ArePieces net c (none_handed m) size m t ps

-- They have all nodes of a net, and keep the rows of the n quanta after quantum m.
pub record HaveRows (net : Net) (c : Course) (size m n : ℕ) (ps : List Piece) : Type 0 where
  pub all : net.nodes ≤ length ps * size
  pub each : (i : ℕ) (d : Piece) → i < length ps → HasRows net c (i * size) (min net.nodes (i * size + size)) m n (slice_index_or ps i d)

-- in a window from quantum m to t the nodes below u have handed over what they sent
abbrev pub handed_below : ℕ → ℕ → ℕ → ℕ → ℕ → ℕ
handed_below m t u v x = if nat_lt x u then t else m

-- the n quanta after quantum m are a window of a script, none of them is a breach, and these pieces stand before it
pub record AreReady (p : Plan) (s : Said) (m n : ℕ) (ps : List Piece) : Type 0 where
  pub read : IsReadFor (text_of p) s
  pub end : m + n ≤ s.quanta
  pub calm : breach_upto (net_of p) (course_of s) (m + n) ≡ None
  pub window : IsWindow (net_of p) m (m + n)
  pub pieces : (i : ℕ) (d : Piece) → i < length ps → (a : ℕ) × (b : ℕ) × IsPieceIn (net_of p) (course_of s) a b m m (slice_index_or ps i d)

-- each of these pieces has been taken through it, and keeps its rows
pub record AreRun (p : Plan) (s : Said) (m n : ℕ) (old new : List Piece) : Type 0 where
  pub pieces : (i : ℕ) (d : Piece) (a b : ℕ) → i < length old → IsPieceIn (net_of p) (course_of s) a b m m (slice_index_or old i d)
      → IsPieceIn (net_of p) (course_of s) a b m (m + n) (slice_index_or new i d)
  pub rows : (i : ℕ) (d : Piece) (a b : ℕ) → i < length old → IsPieceIn (net_of p) (course_of s) a b m m (slice_index_or old i d)
      → HasRows (net_of p) (course_of s) a b m n (slice_index_or new i d)

-- all that was sent in the window has been handed over to this piece
pub record CanEnd (p : Piece) : Type 0 where
  pub net : Net
  pub course : Course
  pub by : ℕ → ℕ → ℕ
  pub first : ℕ
  pub end : ℕ
  pub begun : ℕ
  pub now : ℕ
  pub handed : AllHanded net by first end now
  pub is : IsPiece net course by first end begun now p
