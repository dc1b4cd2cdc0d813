pub mod Wanted
pub mod Items
pub mod Seats
pub mod Sends
pub mod Snaps
pub mod Timed
pub mod Stops
pub mod inside
