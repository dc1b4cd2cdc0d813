pub mod Completing
pub mod Ended
pub mod Getting
pub mod Handed
pub mod Pieces
pub mod Refused
pub mod Telling
pub mod Unserved
