pub mod Keeping
pub mod Saved
