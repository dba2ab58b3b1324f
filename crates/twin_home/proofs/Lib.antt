pub mod WriteLaws
mod HealLaws
pub mod TwinsLaws
