-- For private functions and proofs: how the fields beside the clock are seen.
use Rattle.std.specs.Prelude.{◌+◌, ◌≤◌, vec_len}
use Rattle.std.specs.Vec.{vec_capacity}
use Rattle.gs_board.specs.Ledger.{Ledger}
use Rattle.gs_board.specs.declared.journaled.Journaled.TheInside.{Inside}

-- the ledger that the fields stand for
abbrev pub ledger_of : Inside → Ledger
ledger_of a = record {
  core = a.core;
  begun = a.begun;
  journal = a.journal.items;
  replies = a.replies.items;
  spare = a.spare;
  closed = a.closed;
  halt = a.halt;
  issued = a.issued.items;
}

-- there is room for as many events and replies as are said to be spare
pub record HasRoom (a : Inside) : Type 0 where
  pub journal : vec_len a.journal + a.spare ≤ vec_capacity a.journal
  pub replies : vec_len a.replies + a.spare ≤ vec_capacity a.replies
