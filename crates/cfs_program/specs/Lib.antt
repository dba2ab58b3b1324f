pub mod Drill
pub mod Formatting
pub mod Opening
pub mod Program
pub mod Replies
