-- What private functions and proofs speak of: no public contract rests on it.
pub mod Keys
pub mod Feeds
pub mod Coming
pub mod Seen
