pub mod Node
pub mod Steps
pub mod Replays
pub mod State
pub mod FaultWords
pub mod inside
