pub mod GrownLaws
pub mod KindLaws
pub mod RegionLaws
pub mod RootLaws
pub mod SizeLaws
pub mod TurnedLaws
