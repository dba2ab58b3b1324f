mod AgainLaws
mod BeginningLaws
mod CalmLaws
mod CompletingLaws
mod FaultLaws
mod FoundMapLaws
mod GivenLaws
pub mod HomesLaws
mod KeepsLaws
mod MendingLaws
mod MountLaws
mod PlaceLaws
mod RootLaws
mod SeenLaws
mod ShowingLaws
mod SlotLaws
mod StepLaws
mod TurningLaws
