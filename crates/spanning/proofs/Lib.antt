-- Laws of the spans of two histories.
pub mod Exactly
pub mod Last
pub mod Left
