pub mod CountedLaws
pub mod DraftLaws
pub mod OrderLaws
