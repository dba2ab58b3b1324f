pub mod ClaimLaws
pub mod DataLaws
mod FaultLaws
mod PassLaws
mod StepLaws
mod SurveyLaws
pub mod VisitLaws
