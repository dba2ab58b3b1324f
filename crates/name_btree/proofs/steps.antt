-- Whole calls of the table, and what they answer.
pub mod BeginLaws
pub mod CallLaws
pub mod CauseLaws
pub mod ChangeLaws
pub mod MapLaws
pub mod ReplaceLaws
pub mod RestLaws
pub mod ResultLaws
pub mod TableLaws
