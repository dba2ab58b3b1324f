-- Pages that are to be written.
pub mod ApartLaws
pub mod CommitLaws
pub mod DraftLaws
pub mod PutLaws
pub mod ReachedLaws
pub mod SetLaws
pub mod SheetLaws
pub mod TakeLaws
pub mod WrittenPages
