-- Laws of the look.
pub mod Once
