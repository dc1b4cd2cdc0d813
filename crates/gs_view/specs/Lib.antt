pub mod Answers
pub mod Laws
pub mod Lists
pub mod Passes
pub mod Rule
pub mod Telling
