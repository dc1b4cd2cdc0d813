pub mod AtHand
pub mod Inputs
pub mod Plans
pub mod Scripts
pub mod Sources
pub mod SourceSeen
