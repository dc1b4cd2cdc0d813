pub mod Handing
pub mod Serving
pub mod Ends
pub mod inside
