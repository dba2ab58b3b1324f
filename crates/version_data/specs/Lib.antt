pub mod Reading
pub mod Single
pub mod Writing
