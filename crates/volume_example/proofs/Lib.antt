pub mod PutLaws
pub mod ReadLaws
pub mod MadeLaws
pub mod StopLaws
pub mod CountLaws
