pub mod FirstFault
pub mod Growing
pub mod Equal
