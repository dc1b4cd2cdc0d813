pub mod Near
pub mod Slots
pub mod Laws
pub mod Faults
pub mod FaultWords
pub mod inside
