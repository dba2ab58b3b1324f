mod DumpLaws
pub mod HistoryLaws
mod PartLaws
mod TextExamples
pub mod WordLaws
