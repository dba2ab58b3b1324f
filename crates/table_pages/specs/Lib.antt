pub mod Reads
pub mod Bringing
pub mod Sparing
pub mod Kept
pub mod ReadLaws
pub mod ImageLaws
pub mod Table
pub mod TableLaws
