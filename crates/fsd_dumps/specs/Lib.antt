pub mod Dump
pub mod Front
