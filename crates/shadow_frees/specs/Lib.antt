pub mod Readers
pub mod Waits
