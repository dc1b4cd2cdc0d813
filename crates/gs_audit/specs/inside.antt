-- What private functions and proofs speak of: no public contract rests on it.
pub mod UnderWay
pub mod Refusing
pub mod Running
pub mod NodeRunning
