pub mod Claims
pub mod Survey
