-- What is looked up, and what is searched for.
pub mod AbsentLaws
pub mod FindLaws
pub mod HighestLaws
pub mod LastLaws
pub mod LookupLaws
pub mod NextLaws
pub mod SearchLaws
