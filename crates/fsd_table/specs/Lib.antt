pub mod Breaks
pub mod Pages
pub mod Reached
pub mod Table
pub mod Tree
