pub mod AssembleLaws
pub mod BelievedLaws
pub mod CalmLaws
mod DownLaws
mod HealingLaws
mod LeadingLaws
mod OpenLeaderLaws
mod MetLaws
pub mod EndsLaws
pub mod EpochLaws
pub mod FreshLaws
mod GrowLaws
pub mod HealsLaws
pub mod KnownLaws
mod LookedLaws
pub mod MountLaws
pub mod RestLaws
pub mod SavedTableLaws
pub mod SettledLaws
mod TableCallLaws
pub mod UnbrokenLaws
mod UpgradeLaws
pub mod UnsoundLaws
