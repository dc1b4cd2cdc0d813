pub mod Graph
pub mod Walks
pub mod Faults
pub mod Weights
pub mod Laws
pub mod FaultWords
pub mod inside
