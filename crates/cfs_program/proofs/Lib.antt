mod AmongLaws
mod AnchorLaws
mod AttachLaws
mod CountsLaws
mod DrillExamples
mod DrillLaws
mod EndedLaws
mod FormatLaws
mod FoundLaws
pub mod LifeLaws
pub mod OpeningLaws
mod ProgramLaws
