pub mod CommandSet
pub mod SeedLaws
pub mod TakenLaws
pub mod WordLaws
