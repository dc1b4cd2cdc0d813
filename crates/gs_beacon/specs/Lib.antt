pub mod Numbers
pub mod Beacons
pub mod Spelling
