-- What private functions and proofs speak of: no public contract rests on it.
pub mod Fronts
pub mod Seen
pub mod NodeSeen
