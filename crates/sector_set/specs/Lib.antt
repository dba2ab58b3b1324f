pub mod Area
pub mod Bits
pub mod Meet
pub mod SectorSet
