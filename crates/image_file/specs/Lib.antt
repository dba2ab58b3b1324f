pub mod Ahead
pub mod Disk
pub mod FileMachine
pub mod Standing
pub mod Stretch
