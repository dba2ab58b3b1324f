pub mod CommandSet
