pub mod Memory
pub mod Pools
pub mod Rows
pub mod Sharing
pub mod Slots
pub mod Split
pub mod Two
