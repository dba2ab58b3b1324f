pub mod Commands
pub mod Dumps
pub mod Errands
pub mod Leaves
pub mod Runs
pub mod Sessions
pub mod Words
