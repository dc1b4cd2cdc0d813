pub mod OneEvent
pub mod Onward
pub mod Exact
pub mod NodeSteps
