pub mod Letters
pub mod Alone
pub mod Worlds
pub mod Held
pub mod Sleepers
pub mod Seats
pub mod Ways
pub mod inside
