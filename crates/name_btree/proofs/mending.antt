-- Pages and trees from which an entry is taken.
pub mod JoinLaws
pub mod LeafTreeLaws
pub mod MendLaws
pub mod MendTreeLaws
pub mod MendedLaws
pub mod NeighbourLaws
pub mod PairLaws
pub mod ParentLaws
pub mod PutTreeLaws
pub mod RaiseLaws
pub mod RemoveLaws
pub mod RootLaws
pub mod TrimLaws
pub mod WayTreeLaws
