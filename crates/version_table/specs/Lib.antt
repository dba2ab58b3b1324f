pub mod Fault
pub mod Loading
pub mod Met
pub mod Moving
pub mod Newest
pub mod Plan
pub mod Table
pub mod Versions
