pub mod Longest
pub mod NoPlace
