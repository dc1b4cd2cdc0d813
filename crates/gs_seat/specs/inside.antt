-- What private functions and proofs speak of: no public contract rests on it.
pub mod Turns
pub mod Freshness
