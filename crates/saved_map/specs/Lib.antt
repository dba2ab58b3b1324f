pub mod Marks
pub mod Reading
pub mod Saving
pub mod Taking
