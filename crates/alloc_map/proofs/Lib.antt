pub mod ChooseLaws
pub mod LongestLaws
