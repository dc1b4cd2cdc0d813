pub mod Row
pub mod Stage
pub mod Steady
pub mod Laws
pub mod Taken
pub mod inside
