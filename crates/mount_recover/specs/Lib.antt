pub mod Finding
pub mod Lost
pub mod Recover
pub mod Replay
pub mod Mending
pub mod Showing
pub mod Told
pub mod Steps
