-- The way from page 0 down to a leaf.
pub mod AloneLaws
pub mod AlongLaws
pub mod ChildLaws
pub mod DescentLaws
pub mod MemoryLaws
pub mod PathLaws
pub mod ReachLaws
pub mod ResidentLaws
pub mod VisitedLaws
pub mod WayLaws
