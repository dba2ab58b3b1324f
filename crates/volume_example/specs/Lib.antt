pub mod Stops
pub mod Syncs
pub mod Filling
pub mod Forcing
