pub mod AnswerLaws
mod CountExamples
mod DumpExamples
pub mod EndExamples
pub mod LeaveExamples
pub mod LeaveLaws
pub mod LengthLaws
pub mod OtherLaws
pub mod PlaceExamples
pub mod Plain
mod ReplyExamples
pub mod RunExamples
pub mod RunLaws
pub mod SafeLaws
pub mod SessionExamples
pub mod SessionLaws
pub mod SerialLaws
pub mod SpanLaws
pub mod StatusLaws
pub mod WordExamples
