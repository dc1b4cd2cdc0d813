pub mod Items
pub mod Lending
pub mod Memory
pub mod Pools
pub mod Tales
pub mod Weave
pub mod inside
