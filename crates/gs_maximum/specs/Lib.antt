pub mod Maximum
pub mod NeverAhead
pub mod Lag
