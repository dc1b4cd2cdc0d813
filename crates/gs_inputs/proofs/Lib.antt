pub mod AtHand
pub mod Reading
pub mod Refusing
pub mod Results
