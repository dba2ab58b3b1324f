pub mod FormatLaws
pub mod HeadLaws
pub mod Laying
pub mod RestLaws
pub mod WriteLaws
