pub mod Played
pub mod Scripts
pub mod Headline
pub mod inside
