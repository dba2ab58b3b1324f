pub mod Forces
pub mod Growing
pub mod Looks
pub mod Mounting
pub mod Puts
