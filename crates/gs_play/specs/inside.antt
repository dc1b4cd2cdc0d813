-- What private functions and proofs speak of: no public contract rests on it.
pub mod Windows
pub mod Pieces
pub mod Totals
pub mod Player
pub mod Apart
