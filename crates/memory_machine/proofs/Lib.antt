pub mod AttachCalls
pub mod Calls
pub mod GrowCalls
pub mod LeftLaws
pub mod States
pub mod Steps
pub mod WriteCalls
