pub mod Telling
pub mod Walk
pub mod Reading
pub mod Looking
pub mod Leading
pub mod Scrub
