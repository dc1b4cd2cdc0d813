pub mod Digits
pub mod Written
pub mod OneSpelling
pub mod Faults
