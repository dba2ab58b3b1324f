pub mod BitLaws
pub mod HeadLaws
pub mod LayoutLaws
pub mod MarkLaws
pub mod ReadingLaws
pub mod RunLaws
pub mod SavesLaws
pub mod TakingLaws
