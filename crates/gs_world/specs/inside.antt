-- What private functions and proofs speak of: no public contract rests on it.
pub mod Find
pub mod Admitted
pub mod Delays
pub mod Late
pub mod Members
pub mod Seen
