-- Walks over all pages of a table.
pub mod FaultLaws
pub mod MarkLaws
pub mod TopLaws
pub mod WalkLaws
