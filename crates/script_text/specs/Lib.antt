pub mod Front
pub mod Making
pub mod Reading
pub mod Taking
