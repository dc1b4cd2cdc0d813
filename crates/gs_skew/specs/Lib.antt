pub mod Conditions
pub mod Rows
pub mod Laws
pub mod Worked
pub mod Skews
pub mod Ranges
