pub mod LastLaws
pub mod BringLaws
pub mod PinLaws
pub mod SpareLaws
pub mod KeptLaws
pub mod StepLaws
