pub mod FramePool
pub mod FramePoolLends
pub mod Lends
pub mod Ownership
pub mod Places
pub mod RowLends
