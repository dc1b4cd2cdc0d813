-- What private functions and proofs speak of: no public contract rests on it.
pub mod Jobs
pub mod Lent
pub mod Meaning
pub mod Told
pub mod Traced
