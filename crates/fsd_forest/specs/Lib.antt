pub mod Forest
pub mod Laws
pub mod Met
pub mod Parts
pub mod Steps
pub mod Ways
