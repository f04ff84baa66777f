-- Laws of the spans of two strips.
pub mod Answers
pub mod Few
pub mod Fit
pub mod Going
pub mod Judge
pub mod Once
pub mod Wrong
