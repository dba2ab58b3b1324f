pub mod Dump
pub mod Told
pub mod Weighing
pub mod Spanning
pub mod Surveying
pub mod Saying
