pub mod Causes
pub mod Fresh
pub mod In
pub mod Story
pub mod Wrong
