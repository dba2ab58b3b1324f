pub mod LayLaws
mod LeaderLaws
pub mod PlaceLaws
pub mod RangeLaws
pub mod SingleLaws
pub mod SliceLaws
pub mod VersionLaws
pub mod WritingLaws
