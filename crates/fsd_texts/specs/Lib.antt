pub mod Frames
pub mod Generator
pub mod Script
pub mod Text
pub mod Wire
