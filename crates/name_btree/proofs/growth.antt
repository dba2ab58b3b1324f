-- Pages and trees into which an entry is put.
pub mod BranchLaws
pub mod GrowLaws
pub mod InsertLaws
pub mod LeafGrowthLaws
pub mod SpareLaws
pub mod StepLaws
pub mod TreeGrowthLaws
pub mod WaysGrowthLaws
