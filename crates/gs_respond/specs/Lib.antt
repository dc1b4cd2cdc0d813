pub mod TimeRequests
pub mod TimeLaws
pub mod Doors
pub mod Rests
pub mod inside
