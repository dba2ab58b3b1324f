pub mod AreaLaws
pub mod BitLaws
pub mod CountLaws
pub mod EachLaws
pub mod FreeLaws
pub mod MeetLaws
pub mod SetLaws
