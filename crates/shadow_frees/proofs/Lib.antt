pub mod HeldLaws
pub mod SoundLaws
pub mod WaitLaws
