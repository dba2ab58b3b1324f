pub mod Events
pub mod History
pub mod Left
pub mod Memory
pub mod Past
pub mod State
pub mod Windows
