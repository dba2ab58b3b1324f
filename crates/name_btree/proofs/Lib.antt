pub mod drafts
pub mod finding
pub mod growth
pub mod mending
pub mod steps
pub mod walks
pub mod ways
